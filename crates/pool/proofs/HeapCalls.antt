-- What the heap answers to the calls that the pool makes: none is refused, a take brings at most 64 blocks, a release none.
use Rattle.facts.proofs.Prelude.{ℕ, ◌≤◌, arith, Bool, true, false, cond, false≢true, List, [], ◌∷◌, Option, none, some}
use Rattle.facts.proofs.Prelude.{◌≡◌, refl, ltb, length, drop, length-append, take-append_seam, le-ltb, every, is_some}
use Rattle.words.specs.Host.{bad_host}
use Rattle.classes.specs.declared.Shape.{Shape}
use Rattle.classes.specs.Shape.{shape_of, class_count, pool_id}
use Rattle.rules.specs.declared.Limits.{Limits}
use Rattle.model.specs.Calls as Calls
use Rattle.model.specs.Calls.{Answer, way_of, blocks_of, is_refused, take, give_back, pooled_take, pooled_release}
use Rattle.classes.specs.way.Sound.{Sound}
use Rattle.model.specs.Page.{Page, is_out, carve, reused}
use Rattle.model.specs.Class.{Class, Cold, Ask, Filled, fill_from_list, thawed, serve, refuse, take_from, served, on_run}
use Rattle.model.proofs.Sites.{Tells, locate-tells}
use Rattle.model.proofs.TakesObserved.{fill_length}
use Rattle.model.specs.Release.{Site, of_kind, out_here, repeats, on_page, release_list, locate}
use Rattle.model.specs.Chunks.{answer}
use Rattle.model.specs.Heap.{Heap, step, class_call, interact, finish}
use Rattle.pool.specs.Stock.{blank}
use Rattle.pool.specs.Pool.{number_of}

module _ (size : ℕ) (H : Heap) (c h : ℕ) (l : List ℕ) (ok : bad_host h ≡ false) (low : ltb c class_count ≡ true) where
  pub step-take : step size H (pooled_take c h l) ≡ class_call size H (pool_id c) (take h l)
  unfolding step way_of
  step-take = rw (ok, low)

  pub step-give : step size H (pooled_release c h l) ≡ class_call size H (pool_id c) (give_back h l)
  unfolding step way_of
  step-give = rw (ok, low)

-- a release answers no block
record Quiet (g : Option ℕ) (q : Ask) : Type 0 where
  none : blocks_of (serve q g).answer ≡ []

module _ (sh : Shape) (lim : Limits) (g : Option ℕ) where
  quiet-cond : (b : Bool) (x y : Ask) → Quiet g x → Quiet g y → Quiet g (cond b x y)
  quiet-cond true x y p q = p
  quiet-cond false x y p q = q

  quiet-refuse : (s : Class) (n : ℕ) → Quiet g (refuse s n)
  quiet-refuse s n = record { none = refl }

  page-quiet : (h : ℕ) (s : Class) (ws : List ℕ) (x : Option Site) → Quiet g (on_page sh lim h s ws x)
  unfolding on_page
  page-quiet h s ws none = quiet-refuse s 10
  page-quiet h s ws (some x) = quiet-cond (every (λ w. is_out sh w x.page) ws) _ _ (record { none = refl }) (quiet-refuse s 11)

  list-quiet : (h : ℕ) (s : Class) (ws : List ℕ) → Quiet g (release_list sh lim h s ws)
  unfolding release_list
  list-quiet h s ws = search (quiet-cond, quiet-refuse, page-quiet) depth 9

pub give-none : (size : ℕ) (H : Heap) (c h : ℕ) (ws : List ℕ) → blocks_of (class_call size H c (give_back h ws)).answer ≡ []
unfolding class_call interact finish answer
give-none size H c h ws = (list-quiet (shape_of c) (H.rules c) _ h (H.classes c) ws).none

-- a refusal is its number
pub refused-is : (a : Answer) → is_refused a ≡ true → a ≡ Calls.refused (number_of a)
refused-is (Calls.refused n) e = refl
refused-is (Calls.taken n l v) e = absurd (false≢true e)
refused-is (Calls.fate n) e = absurd (false≢true e)
refused-is (Calls.fates l) e = absurd (false≢true e)
refused-is (Calls.run q f) e = absurd (false≢true e)
refused-is Calls.no_run e = absurd (false≢true e)
refused-is Calls.released e = absurd (false≢true e)
refused-is (Calls.grown b) e = absurd (false≢true e)
refused-is (Calls.contained b) e = absurd (false≢true e)
refused-is (Calls.reported f) e = absurd (false≢true e)

-- a release of one block that is out is not refused
module _ (sh : Shape) (lim : Limits) (g : Option ℕ) (s : Class) (h w : ℕ) where
  located : (o : Option Site) → Tells (is_out sh w) s o → is_some o ≡ true → is_refused (serve (on_page sh lim h s (w ∷ []) o) g).answer ≡ false
  unfolding on_page
  located none t e = absurd (false≢true e)
  located (some x) t e = rw t refl

  seen : out_here sh s w ≡ true → is_some (locate (is_out sh w) s) ≡ true
  unfolding out_here
  seen e = e

  list_done : of_kind sh.kind w ≡ true → out_here sh s w ≡ true → is_refused (serve (release_list sh lim h s (w ∷ [])) g).answer ≡ false
  unfolding release_list repeats
  list_done k o = rw (k, o) (located (locate (is_out sh w) s) (locate-tells (is_out sh w) s) (seen o))

pub give-done : (size : ℕ) (H : Heap) (c h w : ℕ) → of_kind (shape_of c).kind w ≡ true → out_here (shape_of c) (H.classes c) w ≡ true → is_refused (class_call size H c (give_back h (w ∷ []))).answer ≡ false
unfolding class_call interact finish answer
give-done size H c h w k o = list_done (shape_of c) (H.rules c) _ (H.classes c) h w k o

-- a take with the pool's list is not refused
module _ (sh : Shape) (ok : Sound sh) (lim : Limits) (g : Option ℕ) where
  on-run : (l : List ℕ) (fs : List Page) (g : Option ℕ) → is_refused (on_run sh l fs g).answer ≡ false
  unfolding on_run served
  on-run l fs none = refl
  on-run l fs (some q) = refl

  from-done : (l : List ℕ) (ps es : List Page) (cs : List Cold) (fs : List Page) → is_refused (serve (take_from sh l ps es cs fs) g).answer ≡ false
  unfolding take_from served
  from-done l (p ∷ ps) es cs fs = refl
  from-done l [] (e ∷ es) cs fs = refl
  from-done l [] [] (c ∷ cs) fs = refl
  from-done l [] [] [] fs = on-run l fs g

  pub take_done : (s : Class) (h : ℕ) → is_refused (serve (answer sh lim s (take h blank)) g).answer ≡ false
  unfolding answer
  take_done s h = rw (le-ltb 64 sh.batch ok.limited) (from-done blank s.partial s.empty s.cold s.full)

-- and its count is within its list
abbrev pub Within : Answer → Type 0
Within (Calls.refused n) = Unit {0}
Within (Calls.taken n l v) = n ≤ length l
Within (Calls.fate n) = Unit {0}
Within (Calls.fates l) = Unit {0}
Within (Calls.run q f) = Unit {0}
Within Calls.no_run = Unit {0}
Within Calls.released = Unit {0}
Within (Calls.grown b) = Unit {0}
Within (Calls.contained b) = Unit {0}
Within (Calls.reported f) = Unit {0}

module _ (sh : Shape) where
  served-within : (l : List ℕ) (f : Filled) (es : List Page) (cs : List Cold) (fs : List Page) → Within (served l f es cs fs).answer
  unfolding served
  served-within l f es cs fs = omega (arith, length-append f.blocks (drop (length f.blocks) l))

  run-within : (l : List ℕ) (fs : List Page) (g : Option ℕ) → Within (on_run sh l fs g).answer
  unfolding on_run
  run-within l fs none = omega arith
  run-within l fs (some q) = served-within l _ [] [] fs

  from-within : (g : Option ℕ) (l : List ℕ) (ps es : List Page) (cs : List Cold) (fs : List Page) → Within (serve (take_from sh l ps es cs fs) g).answer
  unfolding take_from
  from-within g l (p ∷ ps) es cs fs = served-within l _ es cs fs
  from-within g l [] (e ∷ es) cs fs = served-within l _ es cs fs
  from-within g l [] [] (c ∷ cs) fs = served-within l _ [] cs fs
  from-within g l [] [] [] fs = run-within l fs g

pub take_within : (sh : Shape) → Sound sh → (lim : Limits) (g : Option ℕ) (s : Class) (h : ℕ) → Within (serve (answer sh lim s (take h blank)) g).answer
unfolding answer
take_within sh ok lim g s h = rw (le-ltb 64 sh.batch ok.limited) (from-within sh g blank s.partial s.empty s.cold s.full)

-- and it answers at most 64 blocks
module _ (sh : Shape) (ok : Sound sh) (lim : Limits) where
  served-few : (l : List ℕ) (ps : List Page) (es : List Page) (cs : List Cold) (fs : List Page) → length (blocks_of (served l (fill_from_list sh sh.batch ps) es cs fs).answer) ≤ sh.batch
  unfolding served
  served-few l ps es cs fs = rw take-append_seam (fill_length sh ok lim sh.batch ps)

  run-few : (l : List ℕ) (fs : List Page) (g : Option ℕ) → length (blocks_of (on_run sh l fs g).answer) ≤ sh.batch
  unfolding on_run
  run-few l fs none = omega arith
  run-few l fs (some q) = served-few l (carve sh q true ∷ []) [] [] fs

  from-few : (g : Option ℕ) (l : List ℕ) (ps es : List Page) (cs : List Cold) (fs : List Page) → length (blocks_of (serve (take_from sh l ps es cs fs) g).answer) ≤ sh.batch
  unfolding take_from
  from-few g l (p ∷ ps) es cs fs = served-few l (p ∷ ps) es cs fs
  from-few g l [] (e ∷ es) cs fs = served-few l (reused sh e ∷ []) es cs fs
  from-few g l [] [] (c ∷ cs) fs = served-few l (thawed sh c ∷ []) [] cs fs
  from-few g l [] [] [] fs = run-few l fs g

pub take-few : (sh : Shape) → Sound sh → (lim : Limits) (g : Option ℕ) (s : Class) (h : ℕ) → length (blocks_of (serve (answer sh lim s (take h blank)) g).answer) ≤ 64
unfolding answer
take-few sh ok lim g s h = rw (le-ltb 64 sh.batch ok.limited) (omega (arith, ok.limited, from-few sh ok lim g blank s.partial s.empty s.cold s.full))
