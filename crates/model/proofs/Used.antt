-- What the code counts: on a good page none is out exactly if as many blocks are free as were carved.
use Rattle.facts.proofs.Prelude.{ℕ, suc, ◌+◌, ◌≤◌, arith, Bool, true, cond, List, [], ◌∷◌, ◌++◌, ◌≡◌, refl, sym, ap}
use Rattle.facts.proofs.Prelude.{◌∙◌, eqb, length, length-append, eqb-true, eq-eqb, every, elem, count, by_cases}
use Rattle.classes.specs.declared.Shape.{Shape}
use Rattle.classes.specs.way.Sound.{Sound}
use Rattle.model.specs.Page.{Page, carved_words, none_out}
use Rattle.model.proofs.Counts.{count-append, count-elem}
use Rattle.model.proofs.NewRun.{length-words}
use Rattle.model.proofs.Pages.{GoodPage, none-out_of}

-- a list that has x, without it
record Split (x : ℕ) (t : List ℕ) : Type 0 where
  before : List ℕ
  behind : List ℕ
  is : t ≡ before ++ x ∷ behind

split : (x : ℕ) (t : List ℕ) → 1 ≤ count x t → Split x t
split x [] h = absurd (omega arith)
split x (y ∷ t) h =
    by_cases (eqb x y)
    (λ e. record { before = []; behind = t; is = ap (λ z. z ∷ t) (sym (eqb-true x y e)) })
    (λ e. let z : 1 ≤ 0 + count x t = rw e at h in
    let r = split x t (omega arith) in record { before = y ∷ r.before; behind = r.behind; is = ap (λ l. y ∷ l) r.is })

module _ (x : ℕ) (t : List ℕ) (r : Split x t) where
  rest : List ℕ
  rest = r.before ++ r.behind

  rest-count : (w : ℕ) → count w t ≡ cond (eqb w x) 1 0 + count w rest
  unfolding rest
  rest-count w = ap (count w) r.is ∙ rw (count-append, count-append) (omega arith)

  rest-length : length t ≡ suc (length rest)
  unfolding rest
  rest-length = ap length r.is ∙ rw (length-append, length-append) (omega arith)

pub itself : (x : ℕ) → ◌≡◌ {A = ℕ} (cond (eqb x x) 1 0) 1
itself x = rw (eq-eqb x x refl)

-- a list counted within another is no longer, and if it is as long the counts agree
within-length : (s t : List ℕ) → ((w : ℕ) → count w s ≤ count w t) → length s ≤ length t
within-length [] t h = omega arith
within-length (x ∷ s) t h =
    let r = split x t (omega (arith, h x, itself x)) in
    omega (arith, rest-length x t r, within-length s (rest x t r) (λ w. omega (arith, h w, rest-count x t r w)))

within_all : (s t : List ℕ) → ((w : ℕ) → count w s ≤ count w t) → length t ≤ length s → (w : ℕ) → count w t ≤ count w s
within_all [] [] h l w = omega arith
within_all [] (y ∷ t) h l w = absurd (omega arith)
within_all (x ∷ s) t h l w =
    let r = split x t (omega (arith, h x, itself x)) in
    omega (arith, rest-count x t r w, within_all s (rest x t r) (λ v. omega (arith, h v, rest-count x t r v)) (omega (arith, rest-length x t r)) w)

every-by : (t : ℕ → Bool) (l : List ℕ) → ((w : ℕ) → 1 ≤ count w l → t w ≡ true) → every t l ≡ true
every-by t [] h = refl
every-by t (x ∷ l) h = rw (h x (omega (arith, itself x))) (every-by t l (λ w k. h w (omega arith)))

module _ (sh : Shape) (ok : Sound sh) (p : Page) (good : GoodPage sh p) where
  carved-length : length (carved_words sh p) ≡ p.carved
  unfolding carved_words
  carved-length = length-words sh p.first 0 p.carved

  all-free : p.carved ≡ length p.free → none_out sh p ≡ true
  unfolding none_out
  all-free e =
      every-by (λ w. elem w p.free) (carved_words sh p) (λ w k.
      by_cases (elem w p.free) (λ y. y)
      (λ y. absurd (omega (
        arith,
        count-elem w p.free y,
        within_all p.free (carved_words sh p) good.linked (omega (arith, carved-length)) w,
      ))))

  as_many : none_out sh p ≡ true → p.carved ≡ length p.free
  as_many y =
      omega (
        arith,
        carved-length,
        within-length p.free (carved_words sh p) good.linked,
        within-length (carved_words sh p) p.free (λ w. omega (arith, none-out_of sh ok w p y, good.linked w)),
      )

  pub none_out-count : none_out sh p ≡ eqb p.carved (length p.free)
  none_out-count =
      by_cases (none_out sh p)
      (λ y. y ∙ sym (eq-eqb p.carved (length p.free) (as_many y)))
      (λ y. by_cases (eqb p.carved (length p.free)) (λ e. all-free (eqb-true p.carved (length p.free) e) ∙ sym e) (λ e. y ∙ sym e))
