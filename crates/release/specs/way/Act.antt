-- The act of a release on a book whose listed blocks are out no longer, and what a release answers.
--     settle_at     the listed blocks come back to the page: `give_back_at` once their out bits are 0
--     Parked       a function answered a fate and left the book, as the outcome says
--     Answered     a call answered a fate or a refusal's number, and left the book
--     taken_by      the listed blocks out no longer, by words of their marks or by the list
--     Prepared     the tests before 13's last gave a refusal, or the run, with the listed blocks marked or not
--     Attempted    the listed blocks marked at once, or the book as it was
--     Finished     13's last test, and the act
use Rattle.std.specs.Prelude.{◌≡◌, ℕ, ◌+◌, ◌<◌, ◌≤◌, Bool, true, false, cond, not, ◌&&◌, Option, Result, Ok, Err, List, map, length, ◌==◌, nat_eq, nat_lt, slice_index}
use Rattle.facts.specs.Lists.{is_nil, every}
use Rattle.words.specs.Host.{discard_zeroed}
use Rattle.words.specs.Limits.{class_rows}
use Rattle.words.specs.declared.refusal.Refusal.{Refusal}
use Rattle.words.specs.Refusal.{number_of}
use Rattle.classes.specs.declared.Shape.{Shape}
use Rattle.classes.specs.way.Sound.{Sound}
use Rattle.fields.specs.Field.{arena, class, frontier, cold_count, words, get}
use Rattle.fields.specs.Ranges.{max_pages, max_parked}
use Rattle.fields.specs.Clear.{clear_marks}
use Rattle.model.specs.Page.{is_medium}
use Rattle.model.specs.Release.{of_kind}
use Rattle.pages.specs.declared.Park.{Park}
use Rattle.pages.specs.Links.{stored}
use Rattle.pages.specs.Runs.{whole}
use Rattle.pages.specs.Stack.{set_outs, pushed, index_of, is_block, page_slots}
use Rattle.calls.specs.Release as Heap
use Rattle.calls.specs.Out.{start_of, in_run_of, out_fault}
use Rattle.calls.specs.Release.{first_of, page_valid, row_valid, release_valid, placed, last_step}
use Rattle.release.specs.declared.Marked.{Marked}
use Rattle.release.specs.Answer.{Released, Refused, Fate, answer_as}
use Rattle.release.specs.way.Pre.{ClassPre}
use Rattle.release.specs.way.Blocks.{found}
use Rattle.release.specs.way.Marks.{fresh_book, all_fresh, take_marks}
use Rattle.pages.specs.Valid.{links_valid}

unfoldable pub settle_at : List ℕ → ℕ → Shape → ℕ → ℕ → List ℕ → Heap.Released
settle_at b c sh h q is = placed false (pushed b q is) c sh h q

abbrev pub taken_by : List ℕ → Shape → ℕ → ℕ → List ℕ → List ℕ
taken_by b sh q m ws = cond (m == 0) (set_outs b q 0 (map (index_of sh q) ws)) (take_marks b q m)

abbrev pub cold_virgin : Shape → ℕ → Bool
cold_virgin sh h = discard_zeroed h && not (is_medium sh)

-- ---- what is asked
-- page q, with the words that parking reads in their ranges
pub record ParkingPre (b : List ℕ) (c : ℕ) (sh : Shape) (q : ℕ) : Type 0 where
  pub known : c < class_rows
  pub sound : Sound sh
  pub below : q < max_pages
  pub there : words (q + 1) ≤ length b
  pub low : words (get b (arena frontier)) ≤ length b
  pub links : links_valid b q ≡ true
  pub row : row_valid b c ≡ true

pub record ColdPre (b : List ℕ) (c : ℕ) (sh : Shape) (q : ℕ) : Type 0 where
  pub known : c < class_rows
  pub sound : Sound sh
  pub below : q < max_pages
  pub there : words (q + 1) ≤ length b
  pub few : get b (class cold_count c) ≤ max_parked

-- for either store
pub record StorePre (b : List ℕ) (c : ℕ) (sh : Shape) (q : ℕ) : Type 0 where
  pub known : c < class_rows
  pub sound : Sound sh
  pub below : q < max_pages
  pub there : words (q + 1) ≤ length b
  pub few : (k : Park) → get b (class (stored k) c) ≤ max_parked

pub record BackPre (b : List ℕ) (c : ℕ) (sh : Shape) (q : ℕ) (ws : List ℕ) : Type 0 where
  pub known : c < class_rows
  pub sound : Sound sh
  pub below : q < max_pages
  pub there : words (q + 1) ≤ length b
  pub low : words (get b (arena frontier)) ≤ length b
  pub page : page_valid b sh (length ws) q ≡ true
  pub row : row_valid b c ≡ true
  pub bits : every (λ w. nat_lt (index_of sh q w) page_slots) ws ≡ true
  pub blocks : every (is_block sh q) ws ≡ true

-- the run at q, in an arena of n pages, after number 13's tests; each listed word is one of its blocks
pub record SettlePre (n : ℕ) (b : List ℕ) (c : ℕ) (sh : Shape) (q : ℕ) (ws : List ℕ) : Type 0 where
  pub class : ClassPre n b c sh
  pub inside : q + sh.pages ≤ n
  pub valid : release_valid n b c sh (length ws) q ≡ true
  pub bits : every (λ w. nat_lt (index_of sh q w) page_slots) ws ≡ true
  pub blocks : every (is_block sh q) ws ≡ true

-- after number 7
pub record ListPre (n : ℕ) (b : List ℕ) (c : ℕ) (sh : Shape) (ws : List ℕ) : Type 0 where
  pub class : ClassPre n b c sh
  pub some : is_nil ws ≡ false

-- the run of the list's first word
pub record RunPre (n : ℕ) (b : List ℕ) (c : ℕ) (sh : Shape) (q : ℕ) (ws : List ℕ) : Type 0 where
  pub class : ClassPre n b c sh
  pub some : is_nil ws ≡ false
  pub run : whole n b sh c q ≡ true
  pub start : start_of b (first_of ws) ≡ q

-- the run at q, with all listed blocks marked in the first m words of marks, or m is 0; taking them is nothing to number 13's last test
pub record MarkedPre (n : ℕ) (b : List ℕ) (c : ℕ) (sh : Shape) (q m : ℕ) (ws : List ℕ) : Type 0 where
  pub class : ClassPre n b c sh
  pub inside : q + sh.pages ≤ n
  pub few : m ≤ 128
  pub bits : every (λ w. nat_lt (index_of sh q w) page_slots) ws ≡ true
  pub blocks : every (is_block sh q) ws ≡ true
  pub same : release_valid n (taken_by b sh q m ws) c sh (length ws) q ≡ release_valid n b c sh (length ws) q

-- after numbers 9, 13 for a mark, 15 and 10
pub record PassedPre (n : ℕ) (b : List ℕ) (c : ℕ) (sh : Shape) (ws : List ℕ) : Type 0 where
  pub class : ClassPre n b c sh
  pub some : is_nil ws ≡ false
  pub kinds : every (of_kind sh.kind) ws ≡ true
  pub passed : out_fault n b c sh ws ≡ 0

-- ---- what is answered
pub record Parked (r : ℕ) (b : List ℕ) (o : Heap.Released) : Type 0 where
  pub fate : r ≡ o.fate
  pub left : b ≡ o.book

pub record Answered (r : Released) (b : List ℕ) (o : Heap.Released) : Type 0 where
  pub answer : r ≡ answer_as o.code o.fate
  pub left : b ≡ o.book

-- the tests before 13's last have passed: the run at q has all listed blocks, marked in the first m words of marks, or m is 0
pub record PreparedAt (q m : ℕ) (b' : List ℕ) (n : ℕ) (b : List ℕ) (c : ℕ) (sh : Shape) (ws : List ℕ) : Type 0 where
  pub passed : PassedPre n b c sh ws
  pub start : start_of b (first_of ws) ≡ q
  pub alone : every (λ w. nat_eq (start_of b w) q) ws ≡ true
  pub few : m ≤ 128
  pub long : length b' ≡ length b
  pub same : release_valid n b' c sh (length ws) q ≡ release_valid n b c sh (length ws) q
  pub taken : taken_by b' sh q m ws ≡ set_outs b q 0 (map (index_of sh q) ws)
  pub cleared : clear_marks b' q m ≡ b

unfoldable pub Prepared : Result Marked Refusal → List ℕ → ℕ → List ℕ → ℕ → Shape → List ℕ → Type 0
Prepared (Err e) b' n b c sh ws = (h : ℕ) → Answered (Refused (number_of e)) b' (Heap.release_blocks n b c sh h ws)
Prepared (Ok r) b' n b c sh ws = PreparedAt r.run r.marks b' n b c sh ws

-- the first word is of a run of the class, and all listed words are its blocks, out and not marked
abbrev pub tried : ℕ → List ℕ → ℕ → Shape → List ℕ → Bool
tried n b c sh ws = in_run_of n b sh c (slice_index ws 0) && all_fresh b sh (start_of b (slice_index ws 0)) ws

pub record Attempted (r : Option ℕ) (b' : List ℕ) (n : ℕ) (b : List ℕ) (c : ℕ) (sh : Shape) (ws : List ℕ) : Type 0 where
  pub answer : r ≡ found (tried n b c sh ws) (start_of b (slice_index ws 0))
  pub left : b' ≡ cond (tried n b c sh ws) (fresh_book b sh (start_of b (slice_index ws 0)) ws) b

-- from the marked book on: number 13's last test has passed, and the blocks were taken; or the marks were cleared
pub record TakenTo (f : ℕ) (b' : List ℕ) (n : ℕ) (b : List ℕ) (c : ℕ) (sh : Shape) (h q m : ℕ) (ws : List ℕ) : Type 0 where
  pub valid : release_valid n b c sh (length ws) q ≡ true
  pub act : Parked f b' (last_step sh q (settle_at (taken_by b sh q m ws) c sh h q (map (index_of sh q) ws)))

pub record InvalidTo (k : ℕ) (b' : List ℕ) (n : ℕ) (b : List ℕ) (c : ℕ) (sh : Shape) (q m : ℕ) (ws : List ℕ) : Type 0 where
  pub number : k ≡ 13
  pub invalid : release_valid n b c sh (length ws) q ≡ false
  pub left : b' ≡ clear_marks b q m

unfoldable pub Finished : Released → List ℕ → ℕ → List ℕ → ℕ → Shape → ℕ → ℕ → ℕ → List ℕ → Type 0
Finished (Fate f) b' n b c sh h q m ws = TakenTo f b' n b c sh h q m ws
Finished (Refused k) b' n b c sh h q m ws = InvalidTo k b' n b c sh q m ws
