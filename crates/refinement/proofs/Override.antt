-- Two books put together word by word, and what a step that keeps to some words makes of them. S says which words.
--     override S b d the words of S from b, the others from d; a step F keeps to S where F (override S b d) ≡ override S (F b) d, which says at
--                    once that it reads only words of S and writes only words of S
--     get_in, put_in a read and a write of a field that lies in S
--     PageIn, RowIn  a page's words that have a field lie in S, its pair too; those of a class's row do
--     swapped        two steps, one that keeps to S and one that keeps to the other words, may change places
use Rattle.facts.proofs.Prelude.{ℕ, zero, suc, ◌+◌, ◌*◌, ◌/◌, ◌<◌, arith, Bool, true, false, cond, not, List, []}
use Rattle.facts.proofs.Prelude.{◌∷◌, ◌≡◌, refl, sym, ap, ◌∙◌, ltb, length, get_or, set, drop, ltb-true, by_cases}
use Rattle.fields.specs.Field.{Field, ClassField, PageField, class, page, mark, slot, out, class_off, page_off, pair, part, place, read, word, get, put}
use Rattle.fields.proofs.Laws.{class_off-lt, page_off-lt}

unfoldable pub override : (ℕ → Bool) → List ℕ → List ℕ → List ℕ
override S [] d = []
override S (x ∷ xs) d = cond (S 0) x (get_or d 0 0) ∷ override (λ i. S (suc i)) xs (drop 1 d)

pub length-override : (S : ℕ → Bool) (b d : List ℕ) → length (override S b d) ≡ length b
unfolding override
length-override S [] d = refl
length-override S (x ∷ xs) d = ap suc (length-override (λ i. S (suc i)) xs (drop 1 d))

get_d_override : (S : ℕ → Bool) (b d : List ℕ) (i : ℕ) → S i ≡ true → get_or (override S b d) i 0 ≡ get_or b i 0
unfolding override
get_d_override S [] d i e = refl
get_d_override S (x ∷ xs) d zero e = rw e
get_d_override S (x ∷ xs) d (suc i) e = get_d_override (λ i. S (suc i)) xs (drop 1 d) i e

set-override : (S : ℕ → Bool) (b d : List ℕ) (i v : ℕ) → S i ≡ true → set (override S b d) i v ≡ override S (set b i v) d
unfolding override
set-override S [] d i v e = refl
set-override S (x ∷ xs) d zero v e = rw e
set-override S (x ∷ xs) d (suc i) v e = ap (λ (l : List ℕ). cond (S 0) x (get_or d 0 0) ∷ l) (set-override (λ i. S (suc i)) xs (drop 1 d) i v e)

pub override-same : (S : ℕ → Bool) (b : List ℕ) → override S b b ≡ b
unfolding override
override-same S [] = refl
override-same S (x ∷ xs) = rw (override-same (λ i. S (suc i)) xs) (ap (λ (y : ℕ). y ∷ xs) (both (S 0) x))
  where
    both : (t : Bool) (x : ℕ) → cond t x x ≡ x
    both true x = refl
    both false x = refl

pub override-swap : (S : ℕ → Bool) (b d : List ℕ) → length b ≡ length d → override S b d ≡ override (λ i. not (S i)) d b
unfolding override
override-swap S [] [] e = refl
override-swap S [] (y ∷ ys) e = absurd (omega arith)
override-swap S (x ∷ xs) [] e = absurd (omega arith)
override-swap S (x ∷ xs) (y ∷ ys) e = rw (override-swap (λ i. S (suc i)) xs ys (omega arith)) (ap (λ (z : ℕ). z ∷ override (λ i. not (S (suc i))) ys xs) (either (S 0) x y))
  where
    either : (t : Bool) (x y : ℕ) → cond t x y ≡ cond (not t) y x
    either true x y = refl
    either false x y = refl

-- ---- fields
module _ (S : ℕ → Bool) (b d : List ℕ) (f : Field) where
  pub get_in : S (word f) ≡ true → get (override S b d) f ≡ get b f
  unfolding get
  get_in e = ap (read (part f)) (get_d_override S b d (word f) e)

  pub put_in : (v : ℕ) → S (word f) ≡ true → put (override S b d) f v ≡ override S (put b f v) d
  unfolding put
  put_in v e = ap (λ w. set (override S b d) (word f) (place (part f) w v)) (get_d_override S b d (word f) e) ∙ set-override S b d (word f) _ e

pub record PageIn (S : ℕ → Bool) (q : ℕ) : Type 0 where
  pub words : (j : ℕ) → j < 2320 → S (40000 + 4112 * q + j) ≡ true
  pub pairs : (j : ℕ) → j < 2 → S (pair q + j) ≡ true

pub record RowIn (S : ℕ → Bool) (c : ℕ) : Type 0 where
  pub words : (j : ℕ) → j < 7 → S (160 + 8 * c + j) ≡ true

pub at-word : (S : ℕ → Bool) {i j : ℕ} → i ≡ j → S i ≡ true → S j ≡ true
at-word S e h = rw (sym e) h

module _ {S : ℕ → Bool} {q : ℕ} (p : PageIn S q) (b d : List ℕ) where
  pub in_page : (k : PageField) → S (word (page k q)) ≡ true
  in_page k =
      by_cases (ltb (page_off k) 2) (λ e. rw e (p.pairs (page_off k) (ltb-true _ _ e))) (λ e. rw e (p.words (page_off k) (omega (arith, page_off-lt k))))

  pub in_slot : (i : ℕ) → i < 4096 → S (word (slot q i)) ≡ true
  in_slot i h = at-word S (omega arith) (p.words (272 + i / 2) (omega arith))

  pub in_out : (i : ℕ) → i < 4096 → S (word (out q i)) ≡ true
  in_out i h = at-word S (omega arith) (p.words (16 + i / 32) (omega arith))

  pub in_mark : (j : ℕ) → j < 128 → S (word (mark q j)) ≡ true
  in_mark j h = at-word S (omega arith) (p.words (144 + j) (omega arith))

  pub get-page : (k : PageField) → get (override S b d) (page k q) ≡ get b (page k q)
  get-page k = get_in S b d (page k q) (in_page k)

  pub put-page : (k : PageField) (v : ℕ) → put (override S b d) (page k q) v ≡ override S (put b (page k q) v) d
  put-page k v = put_in S b d (page k q) v (in_page k)

  pub get-slot : (i : ℕ) → i < 4096 → get (override S b d) (slot q i) ≡ get b (slot q i)
  get-slot i h = get_in S b d (slot q i) (in_slot i h)

  pub put-slot : (i v : ℕ) → i < 4096 → put (override S b d) (slot q i) v ≡ override S (put b (slot q i) v) d
  put-slot i v h = put_in S b d (slot q i) v (in_slot i h)

  pub put-out : (i v : ℕ) → i < 4096 → put (override S b d) (out q i) v ≡ override S (put b (out q i) v) d
  put-out i v h = put_in S b d (out q i) v (in_out i h)

  pub put-mark : (j v : ℕ) → j < 128 → put (override S b d) (mark q j) v ≡ override S (put b (mark q j) v) d
  put-mark j v h = put_in S b d (mark q j) v (in_mark j h)

module _ {S : ℕ → Bool} {c : ℕ} (r : RowIn S c) (b d : List ℕ) where
  pub in_row : (k : ClassField) → S (word (class k c)) ≡ true
  in_row k = r.words (class_off k) (class_off-lt k)

  pub get-row : (k : ClassField) → get (override S b d) (class k c) ≡ get b (class k c)
  get-row k = get_in S b d (class k c) (in_row k)

  pub put-row : (k : ClassField) (v : ℕ) → put (override S b d) (class k c) v ≡ override S (put b (class k c) v) d
  put-row k v = put_in S b d (class k c) v (in_row k)

-- ---- two steps
pub swapped : (S : ℕ → Bool) (F G : List ℕ → List ℕ) (b : List ℕ) → length (F b) ≡ length b → length (G b) ≡ length b
    → F (override S b b) ≡ override S (F b) b → (G b ≡ override S b (G b) → F (override S b (G b)) ≡ override S (F b) (G b))
    → G (override (λ i. not (S i)) b b) ≡ override (λ i. not (S i)) (G b) b → (F b ≡ override (λ i. not (S i)) b (F b) → G (override (λ i. not (S i)) b (F b)) ≡ override (λ i. not (S i)) (G b) (F b))
    → F (G b) ≡ G (F b)
swapped S F G b hf hg f₀ f g₀ g =
    let T : ℕ → Bool = λ i. not (S i) in
    let u : G b ≡ override S b (G b) = sym (ap G (override-same T b)) ∙ g₀ ∙ sym (override-swap S b (G b) (sym hg)) in
    let v : F b ≡ override (λ i. not (S i)) b (F b) = sym (ap F (override-same S b)) ∙ f₀ ∙ override-swap S (F b) b hf in
    ap F u ∙ f u ∙ override-swap S (F b) (G b) (hf ∙ sym hg) ∙ sym (g v) ∙ sym (ap G v)
