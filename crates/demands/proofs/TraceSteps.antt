-- One call of a trace, on the words and on the model, after the history xs from an opening.
--     take_step      a take is not refused, answers the model's blocks, and leaves the book after the history with it
--     back_step      the block of an entry not yet released is of the class that owns its page, and its release is not refused
--     report-is      a report has the model's figures
use Rattle.facts.proofs.Prelude.{ℕ, suc, ◌+◌, ◌-◌, ◌/◌, ◌≤◌, arith, Bool, true, false, cond, List, [], ◌∷◌, ◌++◌, Option, none, some, ◌≡◌, refl, sym, ap}
use Rattle.facts.proofs.Prelude.{◌∙◌, eqb, ltb, length, length-take-le, ltb-true, ltb-false, lt-ltb, le-ltb, le-leb, every, by_cases, and_left}
use Rattle.words.specs.Host.{host_max}
use Rattle.classes.specs.declared.Shape.{Shape}
use Rattle.classes.specs.Sizes.{page_bytes}
use Rattle.classes.specs.Shape.{shape_of, class_count}
use Rattle.classes.proofs.Shapes.{shape-sound}
use Rattle.rules.specs.declared.Limits.{Limits}
use Rattle.rules.specs.Rules.{rules_of}
use Rattle.model.specs.declared.Figures.{Figures}
use Rattle.model.specs.Calls as Calls
use Rattle.model.specs.Calls.{Call, Named, names, is_refused, way_of, refused, reported}
use Rattle.model.specs.Page.{Page}
use Rattle.model.specs.Class.{Class, Cold, serve, take_from, served, on_run}
use Rattle.model.specs.Release.{of_kind}
use Rattle.model.specs.Chunks.{answer}
use Rattle.model.specs.Heap.{class, Heap, is_held, figures, direct_call, step}
use Rattle.model.specs.History.{events, heap_after}
use Rattle.model.specs.Entries.{Entry, In, Live, first_byte}
use Rattle.model.specs.Ledger.{held_by}
use Rattle.model.proofs.Fold.{in_live}
use Rattle.arena.specs.Owners.{owner_code}
use Rattle.arena.specs.Calls as Arena
use Rattle.arena.specs.Calls.{report_code}
use Rattle.arena.specs.Valid.{report_valid}
use Rattle.pages.specs.Stack.{page_at}
use Rattle.direct.specs.Answer.{Report, Reported, report_of}
use Rattle.calls.specs.Take.{Took}
use Rattle.calls.specs.Release.{Released, release_blocks}
use Rattle.refinement.specs.Direct.{Reply, direct_reply}
use Rattle.refinement.specs.Classes.{take_reply}
use Rattle.refinement.specs.Releases.{list_reply}
use Rattle.refinement.specs.Run.{call_reply}
use Rattle.refinement.proofs.ArenaReached.{reached-after, held_below}
use Rattle.trace.specs.Trace.{blank, take_of, back_of}
use Rattle.trace.specs.Words as Words
use Rattle.trace.specs.Words.{take_now, owner_at, class_at, known, back_now}
use Rattle.trace.proofs.Refused.{take_spares}
use Rattle.vigbuso.specs.Direct.{open_on}
use Rattle.demands.specs.Run.{Opens, book_after, next}
use Rattle.demands.proofs.Calls.{room}
use Rattle.demands.proofs.Histories.{next-is, next-agrees, run-represents, book-split}
use Rattle.demands.proofs.Observed.{out-observed}
use Rattle.demands.proofs.Codes.{next-class, next-exactly}
use Rattle.demands.proofs.Places.{byte-held}
use Rattle.demands.proofs.Returns.{list-returns, word-returns}
use Rattle.demands.proofs.Holders.{owned}
use Rattle.demands.proofs.TraceLive.{live, own-byte}

-- ---- the book after one call more
book-next : (n : ℕ) (b : List ℕ) (xs : List Call) (x : Call) → book_after n [] b (xs ++ x ∷ []) ≡ (next n [] b xs x).book
book-next n b xs x = book-split (open_on b n []).book xs (x ∷ [])

-- ---- the class that a call of a trace names
medium_id : (c : ℕ) → ltb c class_count ≡ true → ltb c 64 ≡ false → 64 + (c - 64) ≡ c
medium_id c h e = omega (arith, ltb-false c 64 e)

medium-few : (c : ℕ) → ltb c class_count ≡ true → ltb c 64 ≡ false → ltb (c - 64) 12 ≡ true
medium-few c h e = lt-ltb (c - 64) 12 (omega (arith, ltb-true c class_count h, ltb-false c 64 e))

abbrev pub taking : ℕ → Named
taking c = record { class = c; request = Calls.take host_max blank }

abbrev pub giving : Entry → Named
giving e = record { class = e.class; request = Calls.give_back host_max (e.word ∷ []) }

pub names-take : (c : ℕ) → ltb c class_count ≡ true → names (take_of c) ≡ some (taking c)
unfolding take_of
names-take c h =
    by_cases (ltb c 64) (λ e. rw (e, e)) (λ e. rw (e, medium-few c h e, medium_id c h e))

pub names-back : (e : Entry) → ltb e.class class_count ≡ true → names (back_of e) ≡ some (giving e)
unfolding back_of
names-back e h =
    by_cases (ltb e.class 64) (λ u. rw (u, u)) (λ u. rw (u, medium-few e.class h u, medium_id e.class h u))

-- ---- a take of the model with 64 places is not refused
run-taken : (sh : Shape) (fs : List Page) (g : Option ℕ) → is_refused (on_run sh blank fs g).answer ≡ false
unfolding on_run served
run-taken sh fs none = refl
run-taken sh fs (some q) = refl

from-taken : (sh : Shape) (ps es : List Page) (cs : List Cold) (fs : List Page) (g : Option ℕ) → is_refused (serve (take_from sh blank ps es cs fs) g).answer ≡ false
unfolding take_from served
from-taken sh (p ∷ ps) es cs fs g = refl
from-taken sh [] (e ∷ es) cs fs g = refl
from-taken sh [] [] (c ∷ cs) fs g = refl
from-taken sh [] [] [] fs g = run-taken sh fs g

class-taken : (lim : Limits) (c : ℕ) (s : Class) (g : Option ℕ) → is_refused (serve (answer (shape_of c) lim s (Calls.take host_max blank)) g).answer ≡ false
unfolding answer
class-taken lim c s g = rw (le-ltb 64 (shape_of c).batch (shape-sound c).limited) (from-taken (shape_of c) s.partial s.empty s.cold s.full g)

took-blocks : (t : Took) → t.code ≡ 0 → Calls.blocks_of (take_reply t).answer ≡ Words.blocks_of t
took-blocks t e = rw e

-- ---- the release by the page's owner
back-now : (n : ℕ) (b : List ℕ) (c w : ℕ) → ltb c class_count ≡ true → owner_at n b w ≡ suc c → back_now n b w ≡ release_blocks n b c (shape_of c) host_max (w ∷ [])
unfolding back_now
back-now n b c w h e =
    let d : suc c - 1 ≡ c = omega arith in
    let k : known (suc c) ≡ true = rw (le-leb 1 (suc c) (omega arith), le-leb (suc c) class_count (omega (arith, ltb-true c class_count h))) in
    rw (e, k, d)

-- ---- a report, t being its test of number 13
observed-by : (t : Bool) (f g : Figures) → cond (eqb (cond t 0 13) 0) (reported f) (refused (cond t 0 13)) ≡ reported g → cond t (Reported f) (Report.Refused 13) ≡ Reported g
observed-by true f g e = let z : f ≡ g = cc in ap Reported z
observed-by false f g e = cc

-- ---- after a history
module _ (n : ℕ) (b : List ℕ) (o : Opens n [] b) (xs : List Call) where
  abbrev book : List ℕ
  book = book_after n [] b xs

  abbrev heap : Heap
  heap = heap_after n (rules_of []) xs

  -- a take
  pub record TakeStep (c : ℕ) : Type 0 where
    pub code : (take_now n book c).code ≡ 0
    pub left : book_after n [] b (xs ++ take_of c ∷ []) ≡ (take_now n book c).book
    pub model : Calls.blocks_of (step n heap (take_of c)).answer ≡ Words.blocks_of (take_now n book c)
    pub fine : (next n [] b xs (take_of c)).code ≡ 0
    pub gave : Calls.blocks_of (next n [] b xs (take_of c)).answer ≡ Words.blocks_of (take_now n book c)
    pub counts : length (Words.blocks_of (take_now n book c)) ≡ (take_now n book c).count

  take-is : (c : ℕ) → ltb c class_count ≡ true → next n [] b xs (take_of c) ≡ take_reply (take_now n book c)
  unfolding take_now
  take-is c h = next-class n [] b o xs (take_of c) (taking c) (names-take c h) refl

  pub take_step : (c : ℕ) → ltb c class_count ≡ true → TakeStep c
  take_step c h =
      let t = take_now n book c in
      let i = take-is c h in
      let f : (next n [] b xs (take_of c)).code ≡ 0 = (next-exactly n [] b o xs (take_of c) (taking c) (names-take c h) refl).1 (class-taken (heap.rules c) c (heap.classes c) _) in
      let z : t.code ≡ 0 = ap (λ (r : Reply). r.code) (sym i) ∙ f in
      let a : (take_reply t).answer ≡ (step n heap (take_of c)).answer = ap (λ (r : Reply). r.answer) (sym i) ∙ (next-agrees n [] b o xs (take_of c)).answer in
      let g = took-blocks t z in
      record {
        code = z;
        left = book-next n b xs (take_of c) ∙ ap (λ (r : Reply). r.book) i;
        model = ap Calls.blocks_of (sym a) ∙ g;
        fine = f;
        gave = ap (λ (r : Reply). Calls.blocks_of r.answer) i ∙ g;
        counts = length-take-le t.count t.list (take_spares n book c).within;
      }

  -- a release: the page of the block is its class's
  owner-is : (e : Entry) → Live 0 (events n (rules_of []) xs) e → owner_at n book e.word ≡ suc e.class
  unfolding owner_at
  owner-is e l =
      let x = page_at e.word in
      let p : first_byte e / page_bytes ≡ x = omega arith in
      let k : 1 ≤ held_by e.class (heap.holder x) = rw p at (byte-held n (room n [] b o).few-pages (rules_of []) xs e l (first_byte e) (own-byte e)) in
      let h : heap.holder x ≡ class e.class = owned e.class (heap.holder x) k in
      let one : is_held (heap.holder x) ≡ 1 = ap is_held h in
      let below = held_below n heap (reached-after n (rules_of []) xs) x (omega (arith, one)) in
      rw (lt-ltb x n (omega (arith, below, (reached-after n (rules_of []) xs).bound))) ((run-represents n [] b o xs).arena.owners x below ∙ ap owner_code h)

  pub record BackStep (e : Entry) : Type 0 where
    pub code : (back_now n book e.word).code ≡ 0
    pub class : class_at n book e.word ≡ e.class
    pub left : book_after n [] b (xs ++ back_of e ∷ []) ≡ (back_now n book e.word).book
    pub fine : (next n [] b xs (back_of e)).code ≡ 0
    pub gave : Calls.blocks_of (next n [] b xs (back_of e)).answer ≡ []
    pub model : is_refused (step n heap (back_of e)).answer ≡ false
    pub none : Calls.blocks_of (step n heap (back_of e)).answer ≡ []
    pub kind : of_kind (shape_of e.class).kind e.word ≡ true

  pub back_step : (e : Entry) → ltb e.class class_count ≡ true → In e (live n xs) → BackStep e
  back_step e h m =
      let w = e.word in
      let c = e.class in
      let d = names-back e h in
      let r = release_blocks n book c (shape_of c) host_max (w ∷ []) in
      let l = in_live e (events n (rules_of []) xs) m in
      let out = out-observed n [] b o xs c w (record { entry = e; live = l; class = refl; word = refl }) in
      let f : (next n [] b xs (back_of e)).code ≡ 0 = (word-returns n [] b o xs c w (back_of e) host_max (omega arith) d).1 out in
      let i : next n [] b xs (back_of e) ≡ list_reply r = next-class n [] b o xs (back_of e) (giving e) d refl in
      let z : r.code ≡ 0 = ap (λ (x : Reply). x.code) (sym i) ∙ f in
      let k = owner-is e l in
      let j = back-now n book c w h k in
      let a : (list_reply r).answer ≡ (step n heap (back_of e)).answer = ap (λ (x : Reply). x.answer) (sym i) ∙ (next-agrees n [] b o xs (back_of e)).answer in
      let y : (list_reply r).answer ≡ Calls.fate r.fate = rw z in
      record {
        code = ap (λ (x : Released). x.code) j ∙ z;
        class = rw k (omega arith);
        left = book-next n b xs (back_of e) ∙ ap (λ (x : Reply). x.book) i ∙ ap (λ (x : Released). x.book) (sym j);
        fine = f;
        gave = ap (λ (x : Reply). Calls.blocks_of x.answer) i ∙ ap Calls.blocks_of y;
        model = ap is_refused (sym a) ∙ ap is_refused y;
        none = ap Calls.blocks_of (sym a) ∙ ap Calls.blocks_of y;
        kind = and_left (of_kind (shape_of c).kind w) (every (of_kind (shape_of c).kind) []) ((list-returns n [] b o xs c (back_of e) host_max (w ∷ []) d).0 f).kinds;
      }

  -- a report
  pub report-is : report_of n book ≡ Reported (figures n heap)
  unfolding report_of report_code call_reply way_of direct_reply step direct_call
  report-is = observed-by (report_valid n book) (Arena.figures n book) (figures n heap) (ap (λ (r : Reply). r.answer) (sym (next-is n [] b o xs Calls.report)) ∙ (next-agrees n [] b o xs Calls.report).answer)
