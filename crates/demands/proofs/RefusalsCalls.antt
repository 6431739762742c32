-- Each definition that an exported function's contract cites answers the first number of its table that applies, and keeps what it was
-- lent where there is one. n is the arena's length in the book b.
use Rattle.facts.proofs.Prelude.{ℕ, ◌+◌, ◌-◌, Bool, true, false, cond, not, ◌||◌, List, [], ◌∷◌, map, Option}
use Rattle.facts.proofs.Prelude.{none, some, ◌≡◌, refl, ◌∙◌, eqb, leb, length, is_nil, every, by_cases}
use Rattle.words.specs.Host.{bad_host}
use Rattle.words.specs.Word.{chunk_kind}
use Rattle.classes.specs.declared.Shape.{Shape}
use Rattle.classes.specs.Shape.{shape_of}
use Rattle.tables.specs.Table.{bad_rate, bad_top, bad_slots, Tabled, class_table}
use Rattle.game.specs.Game.{bad_game, Played, asker_wins, wins_out}
use Rattle.listing.specs.Listing.{bad_listing, Listed, short_histories, written_out}
use Rattle.rules.specs.Rules.{bad_rows, two_rows, no_row, rows_fault, rules_of}
use Rattle.arena.specs.Open.{opened}
use Rattle.fields.specs.Field.{arena, class, size, partial, empty, cold, get}
use Rattle.fields.specs.Outcome.{Outcome}
use Rattle.fields.specs.Outcome as Fields
use Rattle.fields.specs.Ranges.{meta_fault, length_fault, head_valid}
use Rattle.model.specs.Heap.{bad_run, bad_growth}
use Rattle.model.specs.Release.{of_kind}
use Rattle.arena.specs.Valid.{commit_valid, give_valid, grow_valid, report_valid}
use Rattle.arena.specs.Calls as Arena
use Rattle.arena.specs.Calls.{Committed, commit_refused, commit_for, commit_call, Done, done_refused, grow_call}
use Rattle.pages.specs.declared.Park.{Park}
use Rattle.pages.specs.declared.Park.TheVariants.{Empty, Cold}
use Rattle.pages.specs.Stack.{index_of}
use Rattle.calls.specs.Take.{Took, took_none, walk, park_valid, from_partial, from_park, on_run, take_new, take_blocks, take_call}
use Rattle.calls.specs.Release as Back
use Rattle.calls.specs.Out.{start_of, out_at, unmarked, repeats, out_fault}
use Rattle.calls.specs.Release.{released_none, first_of, give_back_at, last_step, release_valid, release_blocks}
use Rattle.calls.specs.Chunks.{ChunksReleased, chunks_none, chunks_valid, release_chunks}
use Rattle.direct.specs.Answer.{Report, report_of}
use Rattle.vigbuso.specs.Faults.{call_fault, class_fault}
use Rattle.vigbuso.specs.Direct as Direct
use Rattle.vigbuso.specs.Direct.{open_fault, open_on, commit_on, grow_on, report_on, report_code, figures_out}
use Rattle.vigbuso.specs.Blocks as Blocks
use Rattle.vigbuso.specs.Blocks.{take_on, chunks_on}
use Rattle.trace.proofs.Refused.{give-zero}
use Rattle.demands.specs.Refusals.{short_list, nothing_listed, many_chunks, wrong_kind, other_page, chunks_differ, not_held, open_table, commit_table, grow_table, give_table, report_table, take_table, release_table, chunks_table, rate_table, game_table, listing_table}
use Rattle.demands.specs.Number13.{take_valid}
use Rattle.demands.proofs.Ranges.{commit-strays, give-strays, report-strays, take-strays, marks-strays, release-strays, chunks-strays, grow-strays}
use Rattle.demands.proofs.RefusalsLaws.{not_and, Ends, ends, turn, unless, out-turn, book-turn, chain, choose}

-- ---- opening
module _ (b d : List ℕ) where
  -- 19, 18 and 17 as one number, and as the chain
  rows-turn : (i j k : Bool) → (let m : ℕ = cond i 19 (cond j 18 (cond k 17 0)) in
      Ends {R = Outcome} (λ o. o.code) (λ o. o.book ≡ b) ((19, i) ∷ (18, j) ∷ (17, k) ∷ []) (cond (eqb m 0) (Fields.ends 0 d) (Fields.ends m b)))
  rows-turn true j k = record { number = refl; kept = λ z. refl }
  rows-turn false true k = record { number = refl; kept = λ z. refl }
  rows-turn false false true = record { number = refl; kept = λ z. refl }
  rows-turn false false false = record { number = refl; kept = λ z. absurd (z refl) }

  -- a number of the rows after one of the length
  after-length : (f m : ℕ) → cond (eqb (cond (eqb f 0) m f) 0) (Fields.ends 0 d) (Fields.ends (cond (eqb f 0) m f) b)
      ≡ cond (eqb f 0) (cond (eqb m 0) (Fields.ends 0 d) (Fields.ends m b)) (Fields.ends f b)
  after-length f m = by_cases (eqb f 0) (λ e. rw e) (λ e. rw (e, e))

pub open_table_lem : (b : List ℕ) (n : ℕ) (ws : List ℕ) → Ends {R = Outcome} (λ o. o.code) (λ o. o.book ≡ b) (open_table b n ws) (open_on b n ws)
unfolding open_on open_fault rows_fault
open_table_lem b n ws =
    rw (after-length b (opened n (rules_of ws) b) (length_fault n (length b)) (rows_fault ws))
    (book-turn _ _ _ (λ k. Fields.ends k b) _ (λ k. refl) (λ k. refl) (rows-turn b (opened n (rules_of ws) b) (bad_rows ws) (two_rows ws) (no_row ws)) n b)

-- ---- the direct calls
pub commit-table : (b : List ℕ) (h m : ℕ) → Ends {R = Committed} (λ o. o.code) (λ o. o.book ≡ b) (commit_table b h m) (commit_on b h m)
unfolding commit_on call_fault meta_fault commit_call commit_for
commit-table b h m =
    rw (← (commit-strays b), chain (meta_fault b) 3 (bad_host h) (commit_refused b) _ refl)
    (book-turn _ _ _ (commit_refused b) _ (λ k. refl) (λ k. refl)
    (turn _ _ (bad_host h) 3 _ _ _ refl refl λ e.
    turn _ _ (bad_run m) 6 _ _ _ refl refl λ e.
    unless _ _ (commit_valid (get b (arena size)) b) 13 _ _ _ refl refl λ e.
    ends _ _ _ refl)
    (get b (arena size))
    b)

pub grow-table : (b : List ℕ) (h q old new : ℕ) → Ends {R = Done} (λ o. o.code) (λ o. o.book ≡ b) (grow_table b h q old new) (grow_on b h q old new)
unfolding grow_on call_fault meta_fault grow_call
grow-table b h q old new =
    rw (← (grow-strays b h (q + old) (new - old)), chain (meta_fault b) 3 (bad_host h) (done_refused b) _ refl)
    (book-turn _ _ _ (done_refused b) _ (λ k. refl) (λ k. refl)
    (turn _ _ (bad_host h) 3 _ _ _ refl refl λ e.
    turn _ _ (bad_growth old new) 6 _ _ _ refl refl λ e.
    turn _ _ (not_held (get b (arena size)) b q old) 12 _ _ _ refl refl λ e.
    turn _ _ (not (grow_valid (get b (arena size)) b h (q + old) (new - old))) 13 _ _ _ refl refl λ e.
    ends _ _ _ refl)
    (get b (arena size))
    b)

pub give-table : (b : List ℕ) (h q m : ℕ) → Ends {R = Done} (λ o. o.code) (λ o. o.book ≡ b) (give_table b h q m) (Direct.release_on b h q m)
unfolding Direct.release_on call_fault meta_fault Arena.release_call
give-table b h q m =
    rw (← (give-strays b m), chain (meta_fault b) 3 (bad_host h) (done_refused b) _ refl)
    (book-turn _ _ _ (done_refused b) _ (λ k. refl) (λ k. refl)
    (turn _ _ (bad_host h) 3 _ _ _ refl refl λ e.
    turn _ _ (bad_run m) 6 _ _ _ refl refl λ e.
    turn _ _ (not_held (get b (arena size)) b q m) 12 _ _ _ refl refl λ e.
    turn _ _ (not (give_valid (get b (arena size)) b m)) 13 _ _ _ refl refl λ e.
    ends _ _ _ refl)
    (get b (arena size))
    b)

pub report-table : (b fs : List ℕ) → Ends {R = Report} report_code (λ o. figures_out o fs ≡ fs) (report_table b) (report_on b)
unfolding report_on meta_fault report_of
report-table b fs =
    rw (← (report-strays b))
    (book-turn _ _ _ Report.Refused _ (λ k. refl) (λ k. refl)
    (unless _ _ (report_valid (get b (arena size)) b) 13 _ _ _ refl refl λ e.
    ends _ _ _ refl)
    (get b (arena size))
    b)

-- ---- takes
module _ (n : ℕ) (b : List ℕ) (c : ℕ) (sh : Shape) (h : ℕ) (l : List ℕ) where
  abbrev pub take_row : Bool → Took → Type 0
  take_row valid t = Ends {R = Took} (λ t. t.code) (λ t. (t.book ≡ b) × (t.list ≡ l)) ((13, not valid) ∷ []) t

  partial-row : take_row (walk n b c sh sh.batch sh.batch (get b (class partial c)) 0) (from_partial n b c sh l)
  unfolding from_partial
  partial-row = unless _ _ (walk n b c sh sh.batch sh.batch (get b (class partial c)) 0) 13 _ _ _ refl (refl, refl) λ e. ends _ _ _ refl

  park-row : (k : Park) → take_row (park_valid n b c sh k) (from_park n b c sh k l)
  unfolding from_park
  park-row k = unless _ _ (park_valid n b c sh k) 13 _ _ _ refl (refl, refl) λ e. ends _ _ _ refl

  run-code : (b' : List ℕ) (r : Option ℕ) → (on_run b' c sh l r).code ≡ 0
  unfolding on_run
  run-code b' none = refl
  run-code b' (some q) = refl

  new_row : take_row (commit_valid n b) (take_new n b c sh h l)
  unfolding take_new commit_for
  new_row =
      by_cases (commit_valid n b)
      (λ e. rw e (record { number = run-code _ _; kept = λ d. absurd (d (run-code _ _)) }))
      (λ e. rw e (record { number = refl; kept = λ d. (refl, refl) }))

  pub take-row : take_row (take_valid n b c sh) (take_blocks n b c sh h l)
  unfolding take_valid take_blocks
  take-row =
      by_cases (head_valid n b)
      (λ e. rw e
      (choose _ _ 13 (not (eqb (get b (class partial c)) 0)) _ _ _ _ partial-row
      (choose _ _ 13 (not (eqb (get b (class empty c)) 0)) _ _ _ _ (park-row Empty)
      (choose _ _ 13 (not (eqb (get b (class cold c)) 0)) _ _ _ _ (park-row Cold)
      new_row))))
      (λ e. rw e (record { number = refl; kept = λ d. (refl, refl) }))

pub take-table : (low many : ℕ) (b : List ℕ) (c h : ℕ) (l : List ℕ) → Ends {R = Took} (λ t. t.code) (λ t. (t.book ≡ b) × (t.list ≡ l)) (take_table low many b c h l) (take_on low many b c h l)
unfolding take_on class_fault call_fault meta_fault take_call
take-table low many b c h l =
    let sh = shape_of (low + c) in
    rw (← (take-strays b (low + c) sh), chain (call_fault b h) 4 (leb many c) (took_none b l) _ refl, chain (meta_fault b) 3 (bad_host h) (took_none b l) _ refl)
    (book-turn _ _ _ (took_none b l) _ (λ k. refl) (λ k. (refl, refl))
    (turn _ _ (bad_host h) 3 _ _ _ refl (refl, refl) λ e.
    turn _ _ (leb many c) 4 _ _ _ refl (refl, refl) λ e.
    turn _ _ (short_list sh l) 5 _ _ _ refl (refl, refl) λ e.
    take-row (get b (arena size)) b (low + c) sh h l)
    (get b (arena size))
    b)

-- ---- releases by list
pub last_code : (sh : Shape) (q : ℕ) (r : Back.Released) → (last_step sh q r).code ≡ r.code
last_code sh q r = same (eqb r.fate 2)
  where
    same : (t : Bool) → (cond t (record { code = r.code; book = Arena.given r.book q sh.pages; fate = r.fate }) r).code ≡ r.code
    same true = refl
    same false = refl

pub release-table : (low many : ℕ) (b : List ℕ) (c h : ℕ) (ws : List ℕ) → Ends {R = Back.Released} (λ o. o.code) (λ o. o.book ≡ b) (release_table low many b c h ws) (Blocks.release_on low many b c h ws)
unfolding Blocks.release_on class_fault call_fault meta_fault release_blocks out_fault
release-table low many b c h ws =
    let n = get b (arena size) in
    let sh = shape_of (low + c) in
    let q = start_of b (first_of ws) in
    let is = map (index_of sh q) ws in
    rw (← (release-strays b (low + c) sh (length ws) q), ← (marks-strays b (low + c) sh ws), chain (call_fault b h) 4 (leb many c) (released_none b) _ refl, chain (meta_fault b) 3 (bad_host h) (released_none b) _ refl)
    (book-turn _ _ _ (released_none b) _ (λ k. refl) (λ k. refl)
    (turn _ _ (bad_host h) 3 _ _ _ refl refl λ e.
    turn _ _ (leb many c) 4 _ _ _ refl refl λ e.
    turn _ _ (is_nil ws) 7 _ _ _ refl refl λ e.
    turn _ _ (wrong_kind sh.kind ws) 9 _ _ _ refl refl λ e.
    out-turn _ _ (unmarked n b (low + c) sh ws) (repeats n b (low + c) sh ws) (every (out_at n b (low + c) sh) ws) _ (released_none b) _ (λ k. refl) (λ k. refl)
    (turn _ _ (other_page b ws) 11 _ _ _ refl refl λ e.
    turn _ _ (not (release_valid n b (low + c) sh (length ws) q)) 13 _ _ _ refl refl λ e.
    ends _ _ _ (last_code sh q (give_back_at b (low + c) sh h q is) ∙ give-zero b (low + c) sh h q is)))
    n
    b)

-- ---- group releases
pub chunks-table : (b : List ℕ) (c h : ℕ) (ws gs fs : List ℕ) → Ends {R = ChunksReleased} (λ o. o.code) (λ o. (o.book ≡ b) × (o.fates ≡ fs)) (chunks_table b c h ws gs fs) (chunks_on b c h ws gs fs)
unfolding chunks_on class_fault call_fault meta_fault release_chunks out_fault
chunks-table b c h ws gs fs =
    let n = get b (arena size) in
    let sh = shape_of c in
    rw (← (chunks-strays b c sh gs), ← (marks-strays b c sh ws), chain (call_fault b h) 4 (leb 64 c) (chunks_none b fs) _ refl, chain (meta_fault b) 3 (bad_host h) (chunks_none b fs) _ refl)
    (book-turn _ _ _ (chunks_none b fs) _ (λ k. refl) (λ k. (refl, refl))
    (turn _ _ (bad_host h) 3 _ _ _ refl (refl, refl) λ e.
    turn _ _ (leb 64 c) 4 _ _ _ refl (refl, refl) λ e.
    rw (not_and (every (of_kind sh.kind) ws) (every (of_kind chunk_kind) gs))
    (turn _ _ (nothing_listed ws gs) 7 _ _ _ refl (refl, refl) λ e.
    turn _ _ (many_chunks gs fs) 8 _ _ _ refl (refl, refl) λ e.
    turn _ _ (wrong_kind sh.kind ws || wrong_kind chunk_kind gs) 9 _ _ _ refl (refl, refl) λ e.
    out-turn _ _ (unmarked n b c sh ws) (repeats n b c sh ws) (every (out_at n b c sh) ws) _ (chunks_none b fs) _ (λ k. refl) (λ k. (refl, refl))
    (turn _ _ (chunks_differ b ws gs) 11 _ _ _ refl (refl, refl) λ e.
    turn _ _ (not (chunks_valid n b c sh gs)) 13 _ _ _ refl (refl, refl) λ e.
    ends _ _ _ refl)))
    n
    b)

-- ---- class tables
pub rate_table_lem : (a b top slots : ℕ) (l : List ℕ) → Ends {R = Tabled} (λ o. o.code) (λ o. o.list ≡ l) (rate_table a b top slots l) (class_table a b top slots l)
unfolding class_table
rate_table_lem a b top slots l =
    turn _ _ (bad_rate a b) 22 _ _ _ refl refl λ e.
    turn _ _ (bad_top top) 23 _ _ _ refl refl λ e.
    turn _ _ (bad_slots a b top slots (length l)) 24 _ _ _ refl refl λ e.
    ends _ _ _ refl

-- ---- the game
pub game-table : (n limit k w : ℕ) → Ends {R = Played} (λ o. o.code) (λ o. wins_out o w ≡ w) (game_table n limit k) (asker_wins n limit k)
unfolding asker_wins
game-table n limit k w = turn _ _ (bad_game n limit k) 21 _ _ _ refl refl λ e. ends _ _ _ refl

-- ---- the listing
pub listing-table : (n k : ℕ) (l : List ℕ) (w : ℕ) → Ends {R = Listed} (λ o. o.code) (λ o. (o.list ≡ l) × (written_out o w ≡ w)) (listing_table n k l) (short_histories n k l)
unfolding short_histories
listing-table n k l w = turn _ _ (bad_listing n k (length l)) 20 _ _ _ refl (refl, refl) λ e. ends _ _ _ refl
