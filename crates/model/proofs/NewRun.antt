-- What a class answers on a new run tells which run it is.
use Rattle.facts.proofs.Prelude.{ℕ, zero, suc, ◌-◌, ◌≤◌, min, arith, sub-zero, Bool, true, false, List, [], ◌∷◌, reverse, reverse-reverse, append-nil, head-eq_of_cons-eq}
use Rattle.facts.proofs.Prelude.{Option, none, some, ◌≡◌, refl, sym, ap, ◌∙◌, length, take, length-reverse, length-take, take-append_seam, take-nil, ne_eqb}
use Rattle.classes.specs.declared.Shape.{Shape}
use Rattle.classes.specs.way.Sound.{Sound}
use Rattle.model.specs.Calls.{blocks_of}
use Rattle.model.specs.Page.{Page, is_medium, word_of, words_from, carve_as, carved_now, pop}
use Rattle.model.specs.Class.{Result, after, fill_from_list, served, on_run}

pub length-words : (sh : Shape) (q a k : ℕ) → length (words_from sh q a k) ≡ k
length-words sh q a zero = refl
length-words sh q a (suc k) = ap suc (length-words sh q a k)

-- the answer tells what was given
abbrev pub Tells : (Option ℕ → Result) → Type 0
Tells k = (g g' : Option ℕ) → (k g).answer ≡ (k g').answer → g ≡ g'

module _ (sh : Shape) (ok : Sound sh) where
  -- the latest block's word tells the page
  words_tell : (n k q q' : ℕ) → 1 ≤ n → 1 ≤ k → take n (words_from sh q 0 k) ≡ take n (words_from sh q' 0 k) → q ≡ q'
  unfolding word_of
  words_tell zero k q q' h h' e = absurd (omega arith)
  words_tell (suc n) zero q q' h h' e = absurd (omega arith)
  words_tell (suc n) (suc k) q q' h h' e = let d = head-eq_of_cons-eq e in omega arith

  -- the blocks that a new run gives: a span's linked ones, a small page's carved now
  abbrev pub new_blocks : Bool → ℕ → List ℕ
  new_blocks true q = reverse (take sh.batch (words_from sh q 0 sh.capacity))
  new_blocks false q = words_from sh q 0 (min sh.batch sh.capacity)

  new-blocks : (b v : Bool) (q : ℕ) → (fill_from_list sh sh.batch (carve_as sh b q v ∷ [])).blocks ≡ new_blocks b q
  unfolding fill_from_list carve_as pop after carved_now
  new-blocks true v q =
      let none_left : min (sh.batch - length (words_from sh q 0 sh.capacity)) (sh.capacity - sh.capacity) ≡ 0 = omega arith in
      rw (ne_eqb sh.batch 0 (omega (arith, ok.gives))) (rw none_left)
  new-blocks false v q = rw (ne_eqb sh.batch 0 (omega (arith, ok.gives))) (simp (sub-zero, take-nil, append-nil))

  pub blocks-come : (b : Bool) (q : ℕ) → 1 ≤ length (new_blocks b q)
  blocks-come true q = rw (length-reverse, length-take, length-words) (omega (arith, ok.gives, ok.blocks))
  blocks-come false q = rw length-words (omega (arith, ok.gives, ok.blocks))

  blocks_tell : (b : Bool) (q q' : ℕ) → new_blocks b q ≡ new_blocks b q' → q ≡ q'
  blocks_tell true q q' e =
      words_tell sh.batch sh.capacity q q' ok.gives ok.blocks
      (sym (reverse-reverse _) ∙ ap reverse e ∙ reverse-reverse _)
  blocks_tell false q q' e = words_tell 1 (min sh.batch sh.capacity) q q' (omega arith) (omega (arith, ok.gives, ok.blocks)) (ap (take 1) e)

  module _ (l : List ℕ) (fs : List Page) where
    pub run-blocks : (q : ℕ) → blocks_of (on_run sh l fs (some q)).answer ≡ new_blocks (is_medium sh) q
    unfolding on_run served
    run-blocks q = take-append_seam _ _ ∙ new-blocks (is_medium sh) _ q

    pub run-tells : Tells (on_run sh l fs)
    unfolding on_run
    run-tells none none e = refl
    run-tells none (some q) e = absurd (omega (arith, blocks-come (is_medium sh) q, ap length (run-blocks q), ap (λ x. length (blocks_of x)) e))
    run-tells (some q) none e = absurd (omega (arith, blocks-come (is_medium sh) q, ap length (run-blocks q), ap (λ x. length (blocks_of x)) e))
    run-tells (some q) (some q') e = ap some (blocks_tell (is_medium sh) q q' (sym (run-blocks q) ∙ ap blocks_of e ∙ run-blocks q'))
