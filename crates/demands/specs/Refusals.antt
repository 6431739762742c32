-- Demand 1: document 01's table "Numbers for a refused call, in checking order", with document 02's numbers in it, for each exported
-- function.
--     bad_length to not_held       when each number applies, with document 01's sentence
--     open_table to trace_table    for each function the numbers that it can answer, in checking order, and whether each applies
--     first_number                the first of them that applies, 0 if none does
--     Refuses                    a call answered that number, and changed nothing where it is not 0
--     Demand1                    every exported function does so, by what its contract says of it
-- b is the book, n the arena's length in it, c a class, sh its shape, h the host word, ws a list of blocks, gs of groups, fs the lent
-- fates. Each condition says by itself when its number applies, also where an earlier number answers first.
use Rattle.std.specs.Prelude.{ℕ, ◌+◌, ◌-◌, ◌≤◌, ◌<◌, Bool, true, false, cond, not, ◌||◌, List, [], ◌∷◌, ◌++◌, ◌↔◌, ◌≡◌, eqb, ltb, leb, length}
use Rattle.facts.specs.Lists.{is_nil, every}
use Rattle.words.specs.Word.{none_kind, small_kind, medium_kind, chunk_kind}
use Rattle.words.specs.Host.{bad_host, digit}
use Rattle.classes.specs.declared.Shape.{Shape}
use Rattle.classes.specs.Shape.{shape_of}
use Rattle.classes.specs.Sizes.{small_sizes, medium_sizes, max_small_size, max_medium_size}
use Rattle.classes.specs.Meaning.{FirstFit}
use Rattle.classes.specs.Lookup.{size_class}
use Rattle.tables.specs.Table.{bad_rate, bad_top, bad_slots, class_table, TableEnds}
use Rattle.game.specs.Game.{bad_game, asker_wins, GameEnds}
use Rattle.rules.specs.Rules.{bad_rows, two_rows, no_row}
use Rattle.fields.specs.Field.{arena, size, words, get}
use Rattle.fields.specs.Outcome.{Did}
use Rattle.fields.specs.Ranges.{max_pages}
use Rattle.model.specs.Heap.{bad_run, bad_growth}
use Rattle.model.specs.Release.{of_kind}
use Rattle.model.specs.Chunks.{chunks_max}
use Rattle.model.specs.Reservation.{Contained}
use Rattle.plan.specs.Plan.{bad_plan}
use Rattle.plan.specs.Code.{PlanEnds}
use Rattle.listing.specs.Listing.{bad_listing, short_histories, ListingEnds}
use Rattle.arena.specs.Load.{load_arena}
use Rattle.arena.specs.Calls.{held_direct}
use Rattle.direct.specs.Answer.{Releases}
use Rattle.calls.specs.Out.{start_of, out_at, repeats}
use Rattle.calls.specs.Release.{first_of}
use Rattle.calls.specs.Chunks.{chunks_match}
use Rattle.trace.specs.Trace.{carried}
use Rattle.trace.specs.Words.{room_of, trace_on}
use Rattle.vigbuso.specs.Trace.{TraceEnds}
use Rattle.vigbuso.specs.Direct as Direct
use Rattle.vigbuso.specs.Direct.{open_on, commit_on, CommitEnds, grow_on, GrowEnds, contains_on, report_on, ReportEnds}
use Rattle.vigbuso.specs.Blocks as Blocks
use Rattle.vigbuso.specs.Blocks.{take_on, TakeEnds, ReleaseEnds, chunks_on, ChunksEnds}
use Rattle.vigbuso.specs.Sizes.{SizeEnds}
use Rattle.demands.specs.Ranges.{state_known, strays, format_is}
use Rattle.demands.specs.Reads.{commit_reads, give_reads, report_reads, take_reads, barren, mark_reads, release_reads, chunks_reads, grow_reads}

-- ---- when each number applies
-- 1. "Arena length, given at opening or stored as the book's first word, is 0 (an empty book reads so)", or, since document 02, A.11, above 1,048,576.
abbrev pub bad_length : ℕ → Bool
bad_length n = eqb n 0 || ltb max_pages n

-- 2. "The book is too short."
abbrev pub too_short : ℕ → List ℕ → Bool
too_short n b = ltb (length b) (words n)

-- 3. "The host word exceeds 15.": `bad_host`

-- 4. "The class is 64 or more, medium 12 or more."
abbrev pub no_class : ℕ → ℕ → Bool
no_class many c = leb many c

-- 5. "The list lent to a take is shorter than 64, medium than one span's blocks."
abbrev pub short_list : Shape → List ℕ → Bool
short_list sh l = ltb (length l) sh.batch

-- 6. "A run has 0 pages or 2 to the 48th or more, or growth isn't to more pages.": `bad_run`, `bad_growth`

-- 7. "The release or group list is empty."
abbrev pub nothing_listed : List ℕ → List ℕ → Bool
nothing_listed ws gs = is_nil ws || is_nil gs

-- 8. "Groups exceed 2,056 or the fate list is shorter than the groups."
abbrev pub many_chunks : List ℕ → List ℕ → Bool
many_chunks gs fs = ltb chunks_max (length gs) || ltb (length fs) (length gs)

-- 9. "A word has the wrong kind."
abbrev pub wrong_kind : ℕ → List ℕ → Bool
wrong_kind kind ws = not (every (of_kind kind) ws)

-- 10. "A block is not out in this class", and (document 02, A.2) "A repeat of a block not out in it stays 10."
abbrev pub not_out : ℕ → List ℕ → ℕ → Shape → List ℕ → Bool
not_out n b c sh ws = not (every (out_at n b c sh) ws)

-- 15 (document 02, A.2) "when a block out in this class stands twice in one list; it comes between 9 and 10": `repeats`

-- 11. "A block is on another page or span than the first"
abbrev pub other_page : List ℕ → List ℕ → Bool
other_page b ws = not (every (λ w. eqb (start_of b w) (start_of b (first_of ws))) ws)

-- "for groups, a page twice, a count 0 or not the list's, a page missing."
abbrev pub chunks_differ : List ℕ → List ℕ → List ℕ → Bool
chunks_differ b ws gs = not (chunks_match b ws gs)

-- 12. "The run handed to `release` or to growth isn't wholly held by hand."
abbrev pub not_held : ℕ → List ℕ → ℕ → ℕ → Bool
not_held n b q m = not (held_direct n b q m)

-- 13. "Another book word that the call reads is out of its range, or a listed page yields no block.": `strays` and `barren`, over the
-- rows that the call reads of the one table, specs/Ranges. That the tests of the code are just these is specs/Number13. The words of marks
-- (document 02, A.3) are tested "here before 15".

-- 16 (document 02, A.7): there is a word that stops the trace; specs/Trace, `Reason`, says which words do
abbrev pub stopped : ℕ → List ℕ → List ℕ → List ℕ → Bool
stopped n ws bl fl = ltb (carried n (room_of bl fl) ws) (length ws)

-- Document 02's others: 19, 18 and 17 are `bad_rows`, `two_rows` and `no_row`; 14 is `bad_plan`; 20 is `bad_listing`; 21 is `bad_game`; 22, 23 and 24 are `bad_rate`, `bad_top` and `bad_slots`.

-- ---- a table's rows are a number and whether it applies
abbrev pub Row : Type 0
Row = ℕ × Bool

abbrev pub first_number : List Row → ℕ
first_number [] = 0
first_number (row ∷ rows) = cond row.1 row.0 (first_number rows)

-- the order in which a call is checked, and that a table keeps it: its numbers stand there one behind another. Document 02 puts its
-- numbers between 01's; 13 stands twice, as its A.3 tests a mark before 15.
abbrev pub checking_order : List ℕ
checking_order =
    1 ∷ 2 ∷ 19 ∷ 18 ∷ 17 ∷ 14 ∷ 16 ∷ 20 ∷ 21 ∷ 22 ∷ 23 ∷ 24 ∷ 3 ∷ 4 ∷ 5 ∷ 6 ∷ 7 ∷ 8 ∷ 9 ∷ 13 ∷ 15 ∷ 10 ∷ 11 ∷ 12 ∷ 13 ∷ []

abbrev pub in_order : List ℕ → List Row → Bool
in_order ks [] = true
in_order [] (row ∷ rows) = false
in_order (k ∷ ks) (row ∷ rows) = cond (eqb k row.0) (in_order ks rows) (in_order ks (row ∷ rows))

-- ---- the tables
-- vigbuso_open, with the rule rows ws
abbrev pub open_table : List ℕ → ℕ → List ℕ → List Row
open_table b n ws = (1, bad_length n) ∷ (2, too_short n b) ∷ (19, bad_rows ws) ∷ (18, two_rows ws) ∷ (17, no_row ws) ∷ []

-- vigbuso_commit
abbrev pub commit_table : List ℕ → ℕ → ℕ → List Row
commit_table b h m =
    let n = get b (arena size) in
    (1, bad_length n) ∷ (2, too_short n b) ∷ (3, bad_host h) ∷ (6, bad_run m) ∷ (13, strays b (commit_reads b)) ∷ []

-- vigbuso_grow_frontier
abbrev pub grow_table : List ℕ → ℕ → ℕ → ℕ → ℕ → List Row
grow_table b h q old new =
    let n = get b (arena size) in
    (1, bad_length n) ∷ (2, too_short n b) ∷ (3, bad_host h) ∷ (6, bad_growth old new) ∷ (12, not_held n b q old) ∷ (13, strays b (grow_reads b h (q + old) (new - old))) ∷ []

-- vigbuso_release
abbrev pub give_table : List ℕ → ℕ → ℕ → ℕ → List Row
give_table b h q m =
    let n = get b (arena size) in
    (1, bad_length n) ∷ (2, too_short n b) ∷ (3, bad_host h) ∷ (6, bad_run m) ∷ (12, not_held n b q m) ∷ (13, strays b (give_reads b m)) ∷ []

-- vigbuso_report
abbrev pub report_table : List ℕ → List Row
report_table b =
    let n = get b (arena size) in
    (1, bad_length n) ∷ (2, too_short n b) ∷ (13, strays b report_reads) ∷ []

-- vigbuso_contains answers none of these: it is no where one applies
abbrev pub contains_table : List ℕ → List Row
contains_table b =
    let n = get b (arena size) in
    (1, bad_length n) ∷ (2, too_short n b) ∷ (13, strays b (state_known ∷ format_is ∷ [])) ∷ []

-- vigbuso_take_blocks, with class ids from 0 on and 64 classes; vigbuso_medium_take_blocks, with ids from 64 on and 12 classes
abbrev pub take_table : ℕ → ℕ → List ℕ → ℕ → ℕ → List ℕ → List Row
take_table low many b c h l =
    let n = get b (arena size) in
    let sh = shape_of (low + c) in
    (1, bad_length n) ∷ (2, too_short n b) ∷ (3, bad_host h) ∷ (4, no_class many c) ∷ (5, short_list sh l) ∷ (13, strays b (take_reads b (low + c) sh) || barren b (low + c) sh) ∷ []

-- vigbuso_release_blocks, vigbuso_medium_release_blocks, in the same way; first the rows that look at no block
abbrev pub release_early : ℕ → ℕ → List ℕ → ℕ → ℕ → List ℕ → List Row
release_early low many b c h ws =
    let n = get b (arena size) in
    (1, bad_length n) ∷ (2, too_short n b) ∷ (3, bad_host h) ∷ (4, no_class many c) ∷ (7, is_nil ws) ∷ (9, wrong_kind (shape_of (low + c)).kind ws) ∷ []

abbrev pub release_table : ℕ → ℕ → List ℕ → ℕ → ℕ → List ℕ → List Row
release_table low many b c h ws =
    let n = get b (arena size) in
    let sh = shape_of (low + c) in
    release_early low many b c h ws
    ++ (13, strays b (mark_reads b (low + c) sh ws))
    ∷ (15, repeats n b (low + c) sh ws)
    ∷ (10, not_out n b (low + c) sh ws)
    ∷ (11, other_page b ws)
    ∷ (13, strays b (release_reads b (low + c) sh (length ws) (start_of b (first_of ws))))
    ∷ []

-- vigbuso_release_bin_chunks
abbrev pub chunks_early : List ℕ → ℕ → ℕ → List ℕ → List ℕ → List ℕ → List Row
chunks_early b c h ws gs fs =
    let n = get b (arena size) in
    (1, bad_length n)
    ∷ (2, too_short n b)
    ∷ (3, bad_host h)
    ∷ (4, no_class 64 c)
    ∷ (7, nothing_listed ws gs)
    ∷ (8, many_chunks gs fs)
    ∷ (9, wrong_kind (shape_of c).kind ws || wrong_kind chunk_kind gs)
    ∷ []

abbrev pub chunks_table : List ℕ → ℕ → ℕ → List ℕ → List ℕ → List ℕ → List Row
chunks_table b c h ws gs fs =
    let n = get b (arena size) in
    let sh = shape_of c in
    chunks_early b c h ws gs fs
    ++ (13, strays b (mark_reads b c sh ws))
    ∷ (15, repeats n b c sh ws)
    ∷ (10, not_out n b c sh ws)
    ∷ (11, chunks_differ b ws gs)
    ∷ (13, strays b (chunks_reads b c sh gs))
    ∷ []

-- vigbuso_class_table
abbrev pub rate_table : ℕ → ℕ → ℕ → ℕ → List ℕ → List Row
rate_table a b top slots l = (22, bad_rate a b) ∷ (23, bad_top top) ∷ (24, bad_slots a b top slots (length l)) ∷ []

-- vigbuso_asker_wins
abbrev pub game_table : ℕ → ℕ → ℕ → List Row
game_table n limit k = (21, bad_game n limit k) ∷ []

-- vigbuso_plan: "it stands after 2, though no book is lent"
abbrev pub plan_table : List ℕ → List ℕ → List Row
plan_table ks ts = (14, bad_plan ks ts) ∷ []

-- vigbuso_short_histories
abbrev pub listing_table : ℕ → ℕ → List ℕ → List Row
listing_table n k l = (20, bad_listing n k (length l)) ∷ []

-- vigbuso_trace
abbrev pub trace_table : List ℕ → ℕ → List ℕ → List ℕ → List ℕ → List Row
trace_table b n ws bl fl = (1, bad_length n) ∷ (2, too_short n b) ∷ (16, stopped n ws bl fl) ∷ []

-- ---- "Each returns its number and changes nothing."
-- A call with these rows answered r; Same says that all that it was lent to write is as it was: book, list, out-parameters.
pub record Refuses (rows : List Row) (r : ℕ) (Same : Type 0) : Type 0 where
  pub order : in_order checking_order rows ≡ true
  pub number : r ≡ first_number rows
  pub kept : (r ≡ 0 → ⊥) → Same

-- What the contract of the function says is the premise, word for word; a prime marks what stands there afterwards.
abbrev pub OpenRefuses : Type 0
OpenRefuses = (b : List ℕ) (n : ℕ) (ws : List ℕ) (r : ℕ) (b' : List ℕ) → Did r b' (open_on b n ws) → Refuses (open_table b n ws) r (b' ≡ b)

abbrev pub CommitRefuses : Type 0
CommitRefuses =
    (b : List ℕ) (h m r : ℕ) (b' : List ℕ) (q q' f f' : ℕ)
    → CommitEnds (commit_on b h m) r b' q q' f f'
    → Refuses (commit_table b h m) r ((b' ≡ b) × (q' ≡ q) × (f' ≡ f))

abbrev pub GrowRefuses : Type 0
GrowRefuses =
    (b : List ℕ) (h q old new r : ℕ) (b' : List ℕ) (g g' : ℕ)
    → GrowEnds (grow_on b h q old new) r b' g g'
    → Refuses (grow_table b h q old new) r ((b' ≡ b) × (g' ≡ g))

abbrev pub GiveRefuses : Type 0
GiveRefuses = (b : List ℕ) (h q m r : ℕ) (b' : List ℕ) → Releases r b' (Direct.release_on b h q m) → Refuses (give_table b h q m) r (b' ≡ b)

-- the book is only read
abbrev pub ReportRefuses : Type 0
ReportRefuses = (b : List ℕ) (r : ℕ) (fs fs' : List ℕ) → ReportEnds (report_on b) r fs fs' → Refuses (report_table b) r (fs' ≡ fs)

abbrev pub TakeRefuses : ℕ → ℕ → Type 0
TakeRefuses low many =
    (b : List ℕ) (c h : ℕ) (l : List ℕ) (r : ℕ) (b' l' : List ℕ) (k k' v v' : ℕ)
    → TakeEnds (take_on low many b c h l) r b' l' k k' v v'
    → Refuses (take_table low many b c h l) r ((b' ≡ b) × (l' ≡ l) × (k' ≡ k) × (v' ≡ v))

-- the list is only read, and so are the groups below
abbrev pub ReleaseRefuses : ℕ → ℕ → Type 0
ReleaseRefuses low many =
    (b : List ℕ) (c h : ℕ) (ws : List ℕ) (r : ℕ) (b' : List ℕ) (f f' : ℕ)
    → ReleaseEnds (Blocks.release_on low many b c h ws) r b' f f'
    → Refuses (release_table low many b c h ws) r ((b' ≡ b) × (f' ≡ f))

abbrev pub ChunksRefuses : Type 0
ChunksRefuses =
    (b : List ℕ) (c h : ℕ) (ws gs fs : List ℕ) (r : ℕ) (b' fs' : List ℕ)
    → ChunksEnds (chunks_on b c h ws gs fs) r b' fs'
    → Refuses (chunks_table b c h ws gs fs) r ((b' ≡ b) × (fs' ≡ fs))

-- no book is lent here, nor below
abbrev pub TableRefuses : Type 0
TableRefuses =
    (a b top slots : ℕ) (l : List ℕ) (r : ℕ) (l' : List ℕ)
    → TableEnds (class_table a b top slots l) r l'
    → Refuses (rate_table a b top slots l) r (l' ≡ l)

abbrev pub GameRefuses : Type 0
GameRefuses = (n limit k r w w' : ℕ) → GameEnds (asker_wins n limit k) r w w' → Refuses (game_table n limit k) r (w' ≡ w)

-- no book is lent, and both lists are only read
abbrev pub PlanRefuses : Type 0
PlanRefuses = (ks ts : List ℕ) (r t t' : ℕ) → PlanEnds ks ts r t t' → Refuses (plan_table ks ts) r (t' ≡ t)

abbrev pub ListingRefuses : Type 0
ListingRefuses =
    (n k : ℕ) (l : List ℕ) (r : ℕ) (l' : List ℕ) (w w' : ℕ)
    → ListingEnds (short_histories n k l) r l' w w'
    → Refuses (listing_table n k l) r ((l' ≡ l) × (w' ≡ w))

-- "16 is the one refusal that may leave something changed"
abbrev pub TraceRefuses : Type 0
TraceRefuses =
    (b : List ℕ) (n : ℕ) (ws bl fl dn : List ℕ) (r : ℕ) (b' bl' fl' dn' : List ℕ)
    → TraceEnds (trace_on b n ws bl fl dn) r b' bl' fl' dn'
    → Refuses (trace_table b n ws bl fl) r ((r ≡ 16 → ⊥) → (b' ≡ b) × (bl' ≡ bl) × (fl' ≡ fl) × (dn' ≡ dn))

-- "Sizes and `contains` refuse nothing": `contains` is 1 or 0, yes or no, and no "on a book that 1, 2 or 13 would refuse"; on any other it is
-- yes exactly if the k bytes from offset o on are the arena's, by the length and the reservation that stand in the book
pub record ContainedIn (b : List ℕ) (o k : ℕ) : Type 0 where
  pub valid : first_number (contains_table b) ≡ 0
  pub within : Contained (get b (arena size)) (load_arena b).status o k

pub record Contains (b : List ℕ) (o k r : ℕ) : Type 0 where
  pub plain : r ≤ 1
  pub no : (first_number (contains_table b) ≡ 0 → ⊥) → r ≡ 0
  pub yes : (r ≡ 1) ↔ ContainedIn b o k

abbrev pub ContainsAnswers : Type 0
ContainsAnswers = (b : List ℕ) (o k r : ℕ) → r ≡ digit (contains_on b o k) → Contains b o k r

-- Document 02, A.6: the lookup "answers small class, medium class, or too large". The class is the first whose blocks hold the size, and
-- number 4 does not refuse it; a size that is too large leaves the out-parameter, c, as it was.
pub record SizeAnswer (bytes r c c' : ℕ) : Type 0 where
  pub small : bytes ≤ max_small_size → (r ≡ small_kind) × FirstFit bytes small_sizes c' × (no_class 64 c' ≡ false)
  pub medium : max_small_size < bytes → bytes ≤ max_medium_size → (r ≡ medium_kind) × FirstFit bytes medium_sizes c' × (no_class 12 c' ≡ false)
  pub large : max_medium_size < bytes → (r ≡ none_kind) × (c' ≡ c)

abbrev pub SizeAnswers : Type 0
SizeAnswers = (bytes r c c' : ℕ) → SizeEnds (size_class bytes) r c c' → SizeAnswer bytes r c c'

-- ---- the demand, a field for each exported function
pub record Demand1 : Type 0 where
  pub opening : OpenRefuses
  pub commit : CommitRefuses
  pub grow_frontier : GrowRefuses
  pub release : GiveRefuses
  pub report : ReportRefuses
  pub take_blocks : TakeRefuses 0 64
  pub medium_take_blocks : TakeRefuses 64 12
  pub release_blocks : ReleaseRefuses 0 64
  pub medium_release_blocks : ReleaseRefuses 64 12
  pub release_bin_chunks : ChunksRefuses
  pub class_table : TableRefuses
  pub asker_wins : GameRefuses
  pub plan : PlanRefuses
  pub short_histories : ListingRefuses
  pub trace : TraceRefuses
  pub contains : ContainsAnswers
  pub size_class : SizeAnswers
