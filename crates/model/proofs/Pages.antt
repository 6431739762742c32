-- What a page keeps: its blocks out are the carved ones that are not free, and pops and returns move them one by one.
use Rattle.facts.proofs.Prelude.{ℕ, zero, suc, ◌+◌, ◌-◌, ◌*◌, ◌/◌, ◌^◌, ◌≤◌, ◌<◌, arith, add-zero, add-suc, zero-add, mul-le-mul_right, Bool, true, false, cond, not, List, []}
use Rattle.facts.proofs.Prelude.{◌∷◌, ◌++◌, ◌≡◌, refl, eqb, leb, length, eqb-true, ne_eqb, not-true, leb-true, leb-false, All, total, elem, count, by_cases, and_left, and_right}
use Rattle.model.specs.Cover.{covers}
use Rattle.words.specs.Word.{kind_bits}
use Rattle.classes.specs.declared.Shape.{Shape}
use Rattle.classes.specs.way.Sound.{Sound}
use Rattle.model.specs.Page.{Page, page_granules, word_of, words_from, is_medium, carve_as, carve, carved_words, is_out, none_out, carved_now, pop, returned, retire, reused}
use Rattle.model.specs.Class.{Cold, Filled, stays, after, fill_from_list, thawed}
use Rattle.model.proofs.Counts.{count-append, count-reverse, count_cut, elem-count, count-elem, every-count}
use Rattle.model.proofs.Runs.{covers_in}

pub all_append : {A : Type 0} (P : A → Type 0) (s t : List A) → All P s → All P t → All P (s ++ t)
all_append P [] t h k = k
all_append P (x ∷ s) t h k = (h.0, all_append P s t h.1 k)

-- how often w is out on the page; does the run have page x
abbrev pub out_of : Shape → ℕ → Page → ℕ
out_of sh w p = count w (carved_words sh p) - count w p.free

abbrev pub on : Shape → ℕ → Page → ℕ
on sh x p = covers sh.pages p.first x

-- its blocks are the run's, and its free list has carved ones only, each at most once
pub record GoodPage (sh : Shape) (p : Page) : Type 0 where
  pub within : p.carved ≤ sh.capacity
  pub linked : (w : ℕ) → count w p.free ≤ count w (carved_words sh p)

-- a page to be reused: it has no block out
pub record EmptyPage (sh : Shape) (p : Page) : Type 0 where
  pub good : GoodPage sh p
  pub none_out_lem : (w : ℕ) → out_of sh w p ≡ 0

module _ (sh : Shape) (ok : Sound sh) where
  -- blocks' words rise with their index, so each stands once
  pub word-rises : (q i j : ℕ) → i < j → word_of sh q i < word_of sh q j
  unfolding word_of
  word-rises q i j h = omega (arith, mul-le-mul_right sh.block h, ok.wide)

  pub words-below : (q k w : ℕ) → word_of sh q k ≤ w → count w (words_from sh q 0 k) ≡ 0
  words-below q zero w h = refl
  words-below q (suc k) w h =
      let r : word_of sh q k < word_of sh q (suc k) = word-rises q k (suc k) (omega arith) in
      rw (zero-add, ne_eqb w (word_of sh q k) (omega arith)) (let ih = words-below q k w (omega arith) in omega arith)

  pub words-once : (q k w : ℕ) → count w (words_from sh q 0 k) ≤ 1
  words-once q zero w = omega arith
  words-once q (suc k) w =
      rw zero-add
      (by_cases (eqb w (word_of sh q k))
      (λ e. rw e (let z = words-below q k w (let y = eqb-true w (word_of sh q k) e in omega arith) in omega arith))
      (λ e. rw e (let ih = words-once q k w in omega arith)))

  -- a word tells the page where its block begins, so it is out on no page but a run's that has that one
  abbrev pub begins_on : ℕ → ℕ
  begins_on w = (w - sh.kind * 2 ^ kind_bits) / page_granules

  pub words-on : (q k w : ℕ) → k ≤ sh.capacity → count w (words_from sh q 0 k) ≤ covers sh.pages q (begins_on w)
  unfolding word_of
  words-on q zero w l = omega arith
  words-on q (suc k) w l =
      rw zero-add
      (by_cases (eqb w (word_of sh q k))
      (λ e. let y = eqb-true w (word_of sh q k) e in
      let m = mul-le-mul_right sh.block l in
      let c : covers sh.pages q (begins_on w) ≡ 1 = covers_in sh.pages q (begins_on w) (omega arith) (omega (arith, ok.fits, ok.wide)) in
      rw e (omega (arith, words-below q k w (omega arith))))
      (λ e. rw e (let ih = words-on q k w (omega arith) in omega arith)))

  pub out-on : (w : ℕ) (p : Page) → GoodPage sh p → out_of sh w p ≤ on sh (begins_on w) p
  unfolding carved_words
  out-on w p good = omega (arith, words-on p.first p.carved w good.within)

  pub out-le : (w : ℕ) (p : Page) → out_of sh w p ≤ 1
  unfolding carved_words
  out-le w p = omega (arith, words-once p.first p.carved w)

  -- the test and the number agree
  pub is-out : (w : ℕ) (p : Page) → is_out sh w p ≡ true → 1 ≤ out_of sh w p
  unfolding is_out
  is-out w p e =
      let a = elem-count w (carved_words sh p) (and_left (elem w (carved_words sh p)) (not (elem w p.free)) e) in
      let b = count-elem w p.free (not-true (elem w p.free) (and_right (elem w (carved_words sh p)) (not (elem w p.free)) e)) in
      omega arith

  pub out-is : (w : ℕ) (p : Page) → 1 ≤ out_of sh w p → is_out sh w p ≡ true
  unfolding is_out carved_words
  out-is w p h =
      let once = words-once p.first p.carved w in
      let a : elem w (words_from sh p.first 0 p.carved) ≡ true = by_cases (elem w (words_from sh p.first 0 p.carved)) (λ e. e) (λ e. absurd (omega (arith, count-elem w (words_from sh p.first 0 p.carved) e))) in
      let z : elem w p.free ≡ false = by_cases (elem w p.free) (λ e. absurd (omega (arith, elem-count w p.free e))) (λ e. e) in
      rw (a, z)

  pub words-join : (q a k w : ℕ) → count w (words_from sh q 0 (a + k)) ≡ count w (words_from sh q a k) + count w (words_from sh q 0 a)
  words-join q a zero w = rw add-zero (omega arith)
  words-join q a (suc k) w = rw (add-suc, zero-add) (let ih = words-join q a k w in omega arith)

  -- popping
  module _ (n : ℕ) (p : Page) (good : GoodPage sh p) where
    pub pop-good : GoodPage sh (pop sh n p).page
    unfolding pop carved_words carved_now
    pop-good = record {
      within = omega (arith, good.within);
      linked = λ w. let j = words-join p.first p.carved (carved_now sh n p) w in
          omega (arith, good.linked w, count_cut w n p.free);
    }

    pub pop-moves : (w : ℕ) → out_of sh w p + count w (pop sh n p).blocks ≡ out_of sh w (pop sh n p).page
    unfolding pop carved_words
    pop-moves w =
        let j = words-join p.first p.carved (carved_now sh n p) w in
        rw (count-append, count-reverse) (omega (arith, good.linked w, count_cut w n p.free))

  -- carving
  pub carve-empty : (b : Bool) (q : ℕ) (v : Bool) → EmptyPage sh (carve_as sh b q v)
  unfolding carve_as carved_words
  carve-empty true q v = record { good = record { within = omega arith; linked = λ w. omega arith }; none_out_lem = λ w. omega arith }
  carve-empty false q v = record { good = record { within = omega arith; linked = λ w. omega arith }; none_out_lem = λ w. omega arith }

  pub carve-on : (b : Bool) (q x : ℕ) (v : Bool) → on sh x (carve_as sh b q v) ≡ covers sh.pages q x
  unfolding carve_as
  carve-on true q x v = refl
  carve-on false q x v = refl

  pub reused-empty : (p : Page) → EmptyPage sh p → EmptyPage sh (reused sh p)
  unfolding reused
  reused-empty p e = go p.retired
    where
      go : (b : Bool) → EmptyPage sh (cond b (carve sh p.first false) p)
      go true = carve-empty (is_medium sh) p.first false
      go false = e

  pub reused-on : (x : ℕ) (p : Page) → on sh x (reused sh p) ≡ on sh x p
  unfolding reused
  reused-on x p = go p.retired
    where
      go : (b : Bool) → on sh x (cond b (carve sh p.first false) p) ≡ on sh x p
      go true = carve-on (is_medium sh) p.first x false
      go false = refl

  pub thawed-empty : (c : Cold) → EmptyPage sh (thawed sh c)
  unfolding thawed
  thawed-empty c = carve-empty (is_medium sh) c.first _

  pub thawed-on : (x : ℕ) (c : Cold) → on sh x (thawed sh c) ≡ covers sh.pages c.first x
  unfolding thawed
  thawed-on x c = carve-on (is_medium sh) c.first x _

  -- filling
  pub record Fills (ps : List Page) (f : Filled) : Type 0 where
    pub partial : All (GoodPage sh) f.partial
    pub full : All (GoodPage sh) f.full
    pub pages : (x : ℕ) → total (on sh x) f.partial + total (on sh x) f.full ≡ total (on sh x) ps
    pub out : (w : ℕ) → total (out_of sh w) ps + count w f.blocks ≡ total (out_of sh w) f.partial + total (out_of sh w) f.full

  after-fills : (n : ℕ) (v : Bool) (p : Page) (ps : List Page) (f : Filled) → GoodPage sh p → Fills ps f → Fills (p ∷ ps) (after sh v (pop sh n p) f)
  unfolding after pop
  after-fills n v p ps f good r =
      by_cases (stays sh (pop sh n p).page)
      (λ e. record {
        partial = rw e (pop-good n p good, r.partial);
        full = rw e r.full;
        pages = λ x. rw e (omega (arith, r.pages x));
        out = λ w. rw e (rw count-append (omega (arith, r.out w, pop-moves n p good w)));
      })
      (λ e. record {
        partial = rw e r.partial;
        full = rw e (pop-good n p good, r.full);
        pages = λ x. rw e (omega (arith, r.pages x));
        out = λ w. rw e (rw count-append (omega (arith, r.out w, pop-moves n p good w)));
      })

  pub fills : (n : ℕ) (ps : List Page) → All (GoodPage sh) ps → Fills ps (fill_from_list sh n ps)
  unfolding fill_from_list
  fills n [] good = record { partial = tt; full = tt; pages = λ x. omega arith; out = λ w. omega arith }
  fills n (p ∷ ps) good =
      let r = after-fills n p.virgin p ps _ good.0 (fills (n - length (pop sh n p).blocks) ps good.1) in
      by_cases (eqb n 0)
      (λ e. rw e (record { partial = good; full = tt; pages = λ x. omega arith; out = λ w. omega arith }))
      (λ e. rw e r)

  -- returning: each word at most once, and each out on the page
  module _ (ws : List ℕ) (p : Page) (good : GoodPage sh p) (once : (w : ℕ) → count w ws ≤ 1) (outs : (w : ℕ) → 1 ≤ count w ws → is_out sh w p ≡ true) where
    returns : (w : ℕ) → count w ws + count w p.free ≤ count w (carved_words sh p)
    unfolding is_out
    returns w =
        by_cases (leb 1 (count w ws))
        (λ e. let o = outs w (leb-true 1 (count w ws) e) in
        omega (
          arith,
          once w,
          elem-count w (carved_words sh p) (and_left (elem w (carved_words sh p)) (not (elem w p.free)) o),
          count-elem w p.free (not-true (elem w p.free) (and_right (elem w (carved_words sh p)) (not (elem w p.free)) o)),
        ))
        (λ e. omega (arith, good.linked w, leb-false 1 (count w ws) e))

    pub return_good : GoodPage sh (returned ws p)
    unfolding returned carved_words
    return_good = record { within = good.within; linked = λ w. rw count-append (returns w) }

    pub return_moves : (w : ℕ) → out_of sh w (returned ws p) + count w ws ≡ out_of sh w p
    unfolding returned carved_words
    return_moves w = rw count-append (omega (arith, returns w))

  pub none-out_of : (w : ℕ) (p : Page) → none_out sh p ≡ true → out_of sh w p ≡ 0
  unfolding none_out carved_words
  none-out_of w p e =
      by_cases (leb 1 (count w (carved_words sh p)))
      (λ b. omega (arith, words-once p.first p.carved w, elem-count w p.free (every-count (λ v. elem v p.free) w (carved_words sh p) e (leb-true 1 (count w (carved_words sh p)) b))))
      (λ b. omega (arith, leb-false 1 (count w (carved_words sh p)) b))

  pub retire-empty : (p : Page) → EmptyPage sh (retire p)
  unfolding retire carved_words
  retire-empty p = record { good = record { within = omega arith; linked = λ w. omega arith }; none_out_lem = λ w. omega arith }

pub return_on : (sh : Shape) (x : ℕ) (ws : List ℕ) (p : Page) → on sh x (returned ws p) ≡ on sh x p
unfolding returned
return_on sh x ws p = refl

pub retire-on : (sh : Shape) (x : ℕ) (p : Page) → on sh x (retire p) ≡ on sh x p
unfolding retire
retire-on sh x p = refl
