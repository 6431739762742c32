-- Numbers 1 and 2, and what of number 13 every call tests: each way out of the functions that answer them, and what their absence tells.
use Rattle.facts.proofs.Prelude.{ℕ, ◌+◌, ◌*◌, ◌≤◌, ◌<◌, arith, Bool, true, false, cond, List, [], ◌∷◌, ◌≡◌, refl, eqb, leb, length, le-leb, lt-leb, leb-true, and_left, and_right}
use Rattle.words.specs.Limits.{book_format}
use Rattle.fields.specs.Field.{arena, size, frontier, format, get, words}
use Rattle.fields.specs.Ranges.{within, between, max_pages, length_fault, meta_fault, format_valid, head_valid, Sound}

pub both : (s l : Bool) (r : ℕ) → r ≡ cond s (cond l 0 2) 1 → r ≡ 0 → (s ≡ true) × (l ≡ true)
both true true r e z = (refl, refl)
both true false r e z = absurd (omega arith)
both false l r e z = absurd (omega arith)

pub sound : (b : List ℕ) (r : ℕ) → r ≡ meta_fault b → r ≡ 0 → Sound b
unfolding meta_fault
sound b r e z =
    let h = both (within (between 1 max_pages) (get b (arena size))) (leb (words (get b (arena size))) (length b)) r e z in
    record { sized = h.0; long = h.1 }

module _ (n long : ℕ) where
  pub no-pages : n ≡ 0 → 1 ≡ length_fault n long
  no-pages e = rw e

  pub too_many : max_pages < n → 1 ≡ length_fault n long
  too_many h = rw (le-leb 1 n (omega arith), lt-leb n max_pages h)

  pub too_short : (n ≡ 0 → ⊥) → n ≤ max_pages → long < 40000 + 4112 * n → 2 ≡ length_fault n long
  too_short d h l = rw (le-leb 1 n (omega arith), le-leb n max_pages h, lt-leb (words n) long l)

  pub fits : (n ≡ 0 → ⊥) → n ≤ max_pages → 40000 + 4112 * n ≤ long → 0 ≡ length_fault n long
  fits d h l = rw (le-leb 1 n (omega arith), le-leb n max_pages h, le-leb (words n) long l)

pub no_words : (b : List ℕ) → length b ≡ 0 → 1 ≡ meta_fault b
unfolding meta_fault get
no_words [] e = refl
no_words (x ∷ xs) e = absurd (omega arith)

-- ---- of number 13: FORMAT, and FRONTIER
pub format-is : (b : List ℕ) (v : ℕ) → v ≡ get b (arena format) → eqb v book_format ≡ format_valid b
unfolding format_valid
format-is b v e = rw e

module _ (n : ℕ) (b : List ℕ) (t : Bool) (e : t ≡ format_valid b) where
  pub head-is : t ≡ true → (f : ℕ) → f ≡ get b (arena frontier) → leb f n ≡ head_valid n b
  unfolding head_valid
  head-is y f g = rw (← e, y, g)

  pub head-not : t ≡ false → false ≡ head_valid n b
  unfolding head_valid
  head-not y = rw (← e, y)

-- what a test that is passed tells, and what makes it; books with the same FORMAT and FRONTIER
module _ (n : ℕ) (b : List ℕ) where
  pub head-format : head_valid n b ≡ true → format_valid b ≡ true
  unfolding head_valid
  head-format t = and_left (format_valid b) _ t

  pub head-frontier : head_valid n b ≡ true → get b (arena frontier) ≤ n
  unfolding head_valid
  head-frontier t = leb-true _ n (and_right (format_valid b) _ t)

  pub head-made : format_valid b ≡ true → get b (arena frontier) ≤ n → head_valid n b ≡ true
  unfolding head_valid
  head-made t l = rw (t, le-leb (get b (arena frontier)) n l)

module _ (b b' : List ℕ) (e : get b' (arena format) ≡ get b (arena format)) where
  pub format-kept : format_valid b' ≡ format_valid b
  unfolding format_valid
  format-kept = rw e

  pub head-kept : (n : ℕ) → get b' (arena frontier) ≡ get b (arena frontier) → head_valid n b' ≡ head_valid n b
  unfolding head_valid
  head-kept n f = rw (format-kept, f)
