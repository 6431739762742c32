-- A take that is refused leaves the book as it was, and counts no block; none counts more blocks than the class's batch. Its blocks are the same, whatever list is lent.
use Rattle.facts.proofs.Prelude.{ℕ, suc, ◌-◌, ◌≤◌, arith, Bool, true, false, cond, not, List, [], ◌++◌, Option, some, ◌≡◌, refl, eqb, ltb, length, drop, length-append, by_cases}
use Rattle.classes.specs.declared.Shape.{Shape}
use Rattle.classes.specs.Shape.{shape_of}
use Rattle.classes.proofs.Shapes.{shape-sound}
use Rattle.fields.specs.Field.{class, partial, empty, cold, get}
use Rattle.fields.specs.Ranges.{head_valid}
use Rattle.pages.specs.Links.{link, top, unpark_run}
use Rattle.pages.specs.Carve.{new_run}
use Rattle.pages.specs.declared.Park.{Park}
use Rattle.pages.specs.declared.Park.TheVariants.{Empty, Cold}
use Rattle.arena.specs.Calls.{commit_for}
use Rattle.calls.specs.Take.{Took, Filled, took_none, took, walk, park_valid, fill_from, filled, from_partial, from_park, on_run, take_new, take_blocks, take_call}
use Rattle.take.proofs.Fill.{fill_most}

pub record Spares (b : List ℕ) (t : Took) : Type 0 where
  pub book : (t.code ≡ 0 → ⊥) → t.book ≡ b
  pub none : (t.code ≡ 0 → ⊥) → t.count ≡ 0
  pub within : t.count ≤ length t.list
  pub few : t.count ≤ 64

-- whatever list is lent, the take gives the same blocks, up to m
pub record Fixed (b : List ℕ) (m : ℕ) (t : List ℕ → Took) : Type 0 where
  pub code : ℕ
  pub filled : Filled
  pub book : (code ≡ 0 → ⊥) → filled.book ≡ b
  pub none : (code ≡ 0 → ⊥) → length filled.blocks ≡ 0
  pub most : length filled.blocks ≤ m
  pub is : (l : List ℕ) → t l ≡ record { code = code; book = filled.book; count = length filled.blocks; list = filled.blocks ++ drop (length filled.blocks) l; virgin = filled.virgin }

none-taken : {b : List ℕ} {m k : ℕ} → Fixed b m (λ l. took_none b l k)
none-taken {b} {m} {k} = record { code = k; filled = record { book = b; blocks = []; virgin = false }; book = λ z. refl; none = λ z. refl; most = omega arith; is = λ l. refl }

either : (b : List ℕ) (m : ℕ) (t : Bool) (x y : List ℕ → Took) → Fixed b m x → Fixed b m y → Fixed b m (λ l. cond t (x l) (y l))
either b m true x y h g = h
either b m false x y h g = g

took-all : (b : List ℕ) (m : ℕ) (f : Filled) → length f.blocks ≤ m → Fixed b m (λ l. took l f)
took-all b m f h = record { code = 0; filled = f; book = λ z. absurd (z refl); none = λ z. absurd (z refl); most = h; is = λ l. refl }

module _ (n : ℕ) (b : List ℕ) (c : ℕ) (sh : Shape) where
  fill_fixed : (d : List ℕ) → Fixed b sh.batch (λ l. filled d c sh l)
  fill_fixed d = took-all b sh.batch (fill_from d c sh sh.batch sh.batch) (fill_most c sh sh.batch sh.batch d)

  partial-fixed : Fixed b sh.batch (from_partial n b c sh)
  unfolding from_partial
  partial-fixed = either b sh.batch (walk n b c sh sh.batch sh.batch (get b (class partial c)) 0) (λ l. filled b c sh l) (λ l. took_none b l 13) (fill_fixed b) none-taken

  park-fixed : (k : Park) → Fixed b sh.batch (from_park n b c sh k)
  unfolding from_park
  park-fixed k =
      let d = unpark_run b c k (get b (class (top k) c) - 1) in
      either b sh.batch (park_valid n b c sh k) (λ l. filled d c sh l) (λ l. took_none b l 13) (fill_fixed d) none-taken

  run-fixed : (d : List ℕ) (r : Option ℕ) → Fixed b sh.batch (λ l. on_run d c sh l r)
  unfolding on_run
  run-fixed d Option.none = took-all b sh.batch (record { book = d; blocks = []; virgin = false }) (omega arith)
  run-fixed d (some q) = fill_fixed (link (new_run d sh q) c q)

  new-fixed : (h : ℕ) → Fixed b sh.batch (take_new n b c sh h)
  unfolding take_new
  new-fixed h =
      let g = commit_for n b h sh.pages (suc c) in
      either b sh.batch (eqb g.code 0) (λ l. on_run g.book c sh l g.run) (λ l. took_none b l g.code) (run-fixed g.book g.run) none-taken

  pub blocks-fixed : (h : ℕ) → Fixed b sh.batch (take_blocks n b c sh h)
  unfolding take_blocks
  blocks-fixed h =
      either b sh.batch (not (head_valid n b)) (λ l. took_none b l 13) _ none-taken
      (either b sh.batch (not (eqb (get b (class partial c)) 0)) (from_partial n b c sh) _ partial-fixed
      (either b sh.batch (not (eqb (get b (class empty c)) 0)) (from_park n b c sh Empty) _ (park-fixed Empty)
      (either b sh.batch (not (eqb (get b (class cold c)) 0)) (from_park n b c sh Cold) (take_new n b c sh h) (park-fixed Cold) (new-fixed h))))

pub fixed_spares : (b : List ℕ) (m : ℕ) (t : List ℕ → Took) → m ≤ 64 → Fixed b m t → (l : List ℕ) → Spares b (t l)
fixed_spares b m t h f l =
    rw (f.is l) (record { book = f.book; none = f.none; within = omega (arith, length-append f.filled.blocks (drop (length f.filled.blocks) l)); few = omega (arith, f.most) })

pub call_spares : (n : ℕ) (b : List ℕ) (c h : ℕ) (l : List ℕ) → Spares b (take_call n b c (shape_of c) h l)
unfolding take_call
call_spares n b c h l =
    by_cases (ltb (length l) (shape_of c).batch)
    (λ e. rw e (fixed_spares b 64 (λ l. took_none b l 5) (omega arith) none-taken l))
    (λ e. rw e (fixed_spares b (shape_of c).batch (take_blocks n b c (shape_of c) h) (shape-sound c).limited (blocks-fixed n b c (shape_of c) h) l))
