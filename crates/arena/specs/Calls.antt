-- The calls that go straight to the arena, on any words: the answer and the book afterwards, refusals included (document 01, "A run
-- of pages" and "Numbers for a refused call"). n is the arena's length, h the host word. Each reads the model's arena from the words,
-- does the model's step, and writes it back.
use Rattle.std.specs.Prelude.{ℕ, ◌+◌, ◌-◌, List, Bool, true, false, cond, not, ◌&&◌, eqb, leb}
use Rattle.std.proofs.Math.Option.{Option, none, some}
use Rattle.facts.specs.Lists.{every, below}
use Rattle.fields.specs.Field.{arena, class, page, owner, frontier, held, empty_count, cold_count, get, put}
use Rattle.fields.specs.Ranges.{format_valid}
use Rattle.model.specs.declared.Figures.{Figures}
use Rattle.model.specs.Heap.{bad_run, bad_growth, direct, parked_pages, figures_with}
use Rattle.words.specs.Host.{reservation_granted, commit_granted}
use Rattle.model.specs.Arena as Model
use Rattle.model.specs.Arena.{Arena, Status, unasked, ready, disabled, Given, Grown}
use Rattle.arena.specs.Load.{load_arena}
use Rattle.arena.specs.Store.{store_holes, store_arena}
use Rattle.arena.specs.Valid.{commit_valid, give_valid, grow_valid, report_valid}
use Rattle.arena.specs.Owners.{owner_code, own, own_fresh, own_run, held_with}

-- ---- steps, for the direct calls and for the classes above
-- The words of the arena after m pages were drawn, or none were, which left it as a. Where the commit is not granted they are given, so
-- these are two steps on the holes, and the holes are stored after each: a give that removes a hole leaves the last slot as the draw did.
unfoldable pub settled_arena : ℕ → ℕ → List ℕ → Arena → Option ℕ → Bool → List ℕ
settled_arena h m b a none f = store_arena b a
settled_arena h m b a (some q) f = cond (commit_granted h) (store_arena b (Model.counted f a)) (store_arena (store_holes b 0 a.store.holes) (Model.give m q a))

-- after a commit: the model's `commit_ready`, `commit_as` and `commit`
unfoldable pub ready_arena : ℕ → ℕ → ℕ → List ℕ → Arena → List ℕ
ready_arena n h m b a = let d = Model.draw n m a in settled_arena h m b d.arena d.run d.fresh

unfoldable pub arena_as : ℕ → ℕ → ℕ → List ℕ → Arena → Status → List ℕ
arena_as n h m b a unasked = cond (reservation_granted h) (ready_arena n h m b (Model.with_status ready a)) (store_arena b (Model.with_status disabled a))
arena_as n h m b a ready = ready_arena n h m b a
arena_as n h m b a disabled = store_arena b a

unfoldable pub committed_arena : ℕ → ℕ → ℕ → List ℕ → Arena → List ℕ
committed_arena n h m b a = arena_as n h m b a a.status

-- after a growth: the model's `grow`
unfoldable pub grown_arena : ℕ → ℕ → ℕ → ℕ → List ℕ → Arena → List ℕ
grown_arena n h e m b a = cond (Model.can_grow n e m a) (settled_arena h m b (Model.with_frontier (e + m) a) (some e) true) (store_arena b a)

-- the book b after the arena's words have become x and its frontier f, with the pages below that nobody's
unfoldable pub advance : List ℕ → List ℕ → ℕ → List ℕ
advance b x f = own_fresh x (get b (arena frontier)) f

-- the run that is answered, if one is, for an owner w
unfoldable pub passed_to : List ℕ → List ℕ → ℕ → Option ℕ → ℕ → ℕ → List ℕ
passed_to b x f o m w = put (own_run (advance b x f) o m w) (arena held) (held_with (get b (arena held)) o m)

-- a commit of m pages for an owner w, on words that are in their ranges
unfoldable pub committed : List ℕ → List ℕ → Given → ℕ → ℕ → List ℕ
committed b x g m w = passed_to b x g.arena.frontier g.run m w

abbrev pub commit_book : ℕ → List ℕ → ℕ → ℕ → Arena → ℕ → List ℕ
commit_book n b h m a w = committed b (committed_arena n h m b a) (Model.commit n h m a) m w

pub record Committed : Type 0 where
  pub code : ℕ  -- 0, or the refusal's number
  pub book : List ℕ
  pub run : Option ℕ
  pub fresh : Bool

abbrev pub commit_refused : List ℕ → ℕ → Committed
commit_refused b k = record { code = k; book = b; run = none; fresh = false }

unfoldable pub commit_for : ℕ → List ℕ → ℕ → ℕ → ℕ → Committed
commit_for n b h m w =
    let g = Model.commit n h m (load_arena b) in
    cond (commit_valid n b) (record { code = 0; book = commit_book n b h m (load_arena b) w; run = g.run; fresh = g.fresh }) (commit_refused b 13)

-- m pages from q on go to the holes, or are abandoned, and are nobody's
unfoldable pub given : List ℕ → ℕ → ℕ → List ℕ
given b q m = put (own (store_arena b (Model.give m q (load_arena b))) q m 0) (arena held) (get b (arena held) - m)

-- ---- the direct calls, from number 6 on
unfoldable pub commit_call : ℕ → List ℕ → ℕ → ℕ → Committed
commit_call n b h m = cond (bad_run m) (commit_refused b 6) (commit_for n b h m (owner_code direct))

-- number 12: the run lies below LENGTH and FRONTIER, and each page of it says that the direct calls hold it
unfoldable pub every_direct : List ℕ → ℕ → ℕ → Bool
every_direct b q m = every (λ k. eqb (get b (page owner (q + k))) (owner_code direct)) (below m)

unfoldable pub held_direct : ℕ → List ℕ → ℕ → ℕ → Bool
held_direct n b q m = leb (q + m) n && (leb (q + m) (get b (arena frontier)) && every_direct b q m)

pub record Done : Type 0 where
  pub code : ℕ
  pub book : List ℕ
  pub yes : Bool  -- what a growth answers

abbrev pub done_refused : List ℕ → ℕ → Done
done_refused b k = record { code = k; book = b; yes = false }

-- a growth counts the added pages as held where it answers yes
abbrev pub grown_by : Bool → ℕ → Option ℕ
grown_by true e = some e
grown_by false e = none

unfoldable pub grown_book : List ℕ → List ℕ → Grown → ℕ → ℕ → List ℕ
grown_book b x g e m = passed_to b x g.arena.frontier (grown_by g.grew e) m (owner_code direct)

abbrev pub grow_book : ℕ → List ℕ → ℕ → ℕ → ℕ → Arena → List ℕ
grow_book n b h e m a = grown_book b (grown_arena n h e m b a) (Model.grow n h e m a) e m

unfoldable pub grow_call : ℕ → List ℕ → ℕ → ℕ → ℕ → ℕ → Done
grow_call n b h q old new =
    let g = Model.grow n h (q + old) (new - old) (load_arena b) in
    cond (bad_growth old new) (done_refused b 6)
    (cond (not (held_direct n b q old)) (done_refused b 12)
    (cond (not (grow_valid n b h (q + old) (new - old))) (done_refused b 13)
    (record { code = 0; book = grow_book n b h (q + old) (new - old) (load_arena b); yes = g.grew })))

unfoldable pub release_call : ℕ → List ℕ → ℕ → ℕ → Done
release_call n b q m =
    cond (bad_run m) (done_refused b 6)
    (cond (not (held_direct n b q m)) (done_refused b 12)
    (cond (not (give_valid n b m)) (done_refused b 13)
    (record { code = 0; book = given b q m; yes = true })))

unfoldable pub contains_call : ℕ → List ℕ → ℕ → ℕ → Bool
contains_call n b o k = format_valid b && Model.contains n o k (load_arena b)

-- a report's figures
abbrev pub parked_runs : List ℕ → ℕ → ℕ
parked_runs b c = get b (class empty_count c) + get b (class cold_count c)

abbrev pub figures : ℕ → List ℕ → Figures
figures n b = figures_with n (load_arena b) (get b (arena held)) (parked_pages (parked_runs b))

unfoldable pub report_code : ℕ → List ℕ → ℕ
report_code n b = cond (report_valid n b) 0 13
