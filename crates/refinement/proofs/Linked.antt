-- The linked lists after a page came in or went out.
--     chain-linked, chain-unlinked     the partial list, with a page at its head, and without one of its pages
--     stack-parked, stack-popped       a store, with a page on top, and without its newest
use Rattle.facts.proofs.Prelude.{ℕ, zero, suc, ◌-◌, ◌<◌, arith, add-one, true, false, List, [], ◌∷◌, ◌++◌, inl, inr}
use Rattle.facts.proofs.Prelude.{⊎_elim, ◌≡◌, refl, sym, ap, subst, ◌∙◌, eqb, ltb, leb, length, ltb-true, lt-ltb, ne_eqb}
use Rattle.words.specs.Limits.{class_rows}
use Rattle.fields.specs.Field.{class, page, partial, next, prev, words, get}
use Rattle.fields.proofs.Laws.{get_put_same, get-put_other, length-put}
use Rattle.fields.proofs.Changes.{Changes}
use Rattle.fields.proofs.Outcome.{length-put_at, get_put_at_same, get_put_at_other}
use Rattle.pages.specs.declared.Park.{Park}
use Rattle.pages.specs.declared.Park.TheVariants.{Empty, Cold}
use Rattle.pages.specs.Links.{point_next, linked, cut_out, link, unlink, top, stored, park_run, pop_store}
use Rattle.refinement.specs.way.Chain.{In, Distinct, Segment, Chain, Stack}
use Rattle.refinement.proofs.Lists.{in_left, in_right, in_without, Middle, middle, last_code, last_in, last-suc, first-page, last-page, segment_kept, segment_redirect, Parted, part, join}
use Rattle.refinement.proofs.Kept.{line_kept}
use Rattle.refinement.proofs.Links.{is_link, link_lets, link-changes, unlink-changes, link-next, link-prev}

-- ---- a page at the head of the partial list
module _ (n : ℕ) (b : List ℕ) (hb : leb (words n) (length b) ≡ true) (c q : ℕ) (hc : ltb c class_rows ≡ true) (hq : ltb q n ≡ true) where
  head-linked : get (link b c q) (class partial c) ≡ suc q
  unfolding link linked
  head-linked = simp (get_put_same n, get-put_other, length-put, length-put_at, hb, add-one)

  next-linked : get (link b c q) (page next q) ≡ get b (class partial c)
  unfolding link linked
  next-linked = simp (get_put_same n, get-put_other, get_put_at_other)

  prev-linked : eqb (get b (class partial c)) (suc q) ≡ false → get (link b c q) (page prev q) ≡ 0
  unfolding link linked
  prev-linked d = simp (get_put_same n, get-put_other, get_put_at_other, length-put, hb)

  old-linked : (x : ℕ) → ltb x n ≡ true → get b (class partial c) ≡ suc x → get (link b c q) (page prev x) ≡ suc q
  unfolding link linked
  old-linked x hx e = simp (get_put_at_same n, get-put_other, length-put, hb, add-one)

  changed : Changes (is_link c q (get b (class partial c)) 0) b (link b c q)
  changed = link-changes (is_link c q (get b (class partial c)) 0) b c q hc (link_lets c q (get b (class partial c)) 0)

  kept_next : (x : ℕ) → (x ≡ q → ⊥) → get (link b c q) (page next x) ≡ get b (page next x)
  kept_next x d = link-next c q (get b (class partial c)) 0 changed x d (λ e. omega arith)

  kept-prev : (x : ℕ) → (x ≡ q → ⊥) → (get b (class partial c) ≡ suc x → ⊥) → get (link b c q) (page prev x) ≡ get b (page prev x)
  kept-prev x d h = link-prev c q (get b (class partial c)) 0 changed x d h

  segment_linked : (xs : List ℕ) → (In q xs → ⊥) → Distinct xs → ((x : ℕ) → In x xs → x < n) → Segment b 0 (get b (class partial c)) xs 0
      → Segment (link b c q) (suc q) (get b (class partial c)) xs 0
  segment_linked [] f d l s = s
  segment_linked (x ∷ xs) f d l s = (
    s.0,
    old-linked x (lt-ltb x n (l x (inl refl))) s.0,
    rw (kept_next x (λ e. f (inl (sym e))))
        (segment_kept b (link b c q) (suc x) (get b (page next x)) xs 0
        (λ z i.
        let z-q : z ≡ q → ⊥ = λ e. f (inr (subst (λ (w : ℕ). In w xs) e i)) in
        let z-x : z ≡ x → ⊥ = λ e. d.0 (subst (λ (w : ℕ). In w xs) e i) in
        (kept-prev z z-q (λ h. z-x (omega (arith, s.0))), kept_next z z-q))
        s.2),
  )

  pub chain-linked : (xs : List ℕ) → (In q xs → ⊥) → Chain n b c xs → Chain n (link b c q) c (q ∷ xs)
  chain-linked xs f ch = record {
    links = (
      head-linked,
      prev-linked (ne_eqb _ _ (λ e. f (first-page b 0 _ xs q ch.links e))),
      rw next-linked (segment_linked xs f ch.distinct ch.below ch.links),
    );
    distinct = (f, ch.distinct);
    below = λ x i. ⊎_elim (λ e. omega (arith, ltb-true)) (λ j. ch.below x j) i;
  }

-- ---- a page out of the partial list; x is the code of the page behind it, y that of the page before it
module _ (n : ℕ) (b : List ℕ) (hb : leb (words n) (length b) ≡ true) (c q : ℕ) (hc : ltb c class_rows ≡ true) where
  abbrev x : ℕ
  x = get b (page next q)

  abbrev y : ℕ
  y = get b (page prev q)

  abbrev cut : List ℕ
  cut = unlink b c q

  head-cut : y ≡ 0 → get cut (class partial c) ≡ x
  unfolding unlink cut_out
  head-cut e = rw e (simp (get-put_other, get_put_at_other, get_put_same n))

  fore-cut : (w : ℕ) → ltb w n ≡ true → eqb q w ≡ false → y ≡ suc w → get cut (page next w) ≡ x
  unfolding unlink cut_out
  fore-cut w hw d e = rw e (simp (get-put_other, get_put_at_other, get_put_same n))

  long_point : (code v : ℕ) → leb (words n) (length (point_next b c code v)) ≡ true
  long_point zero v = rw length-put hb
  long_point (suc z) v = rw length-put hb

  aft-cut : (r : ℕ) → ltb r n ≡ true → eqb q r ≡ false → x ≡ suc r → get cut (page prev r) ≡ y
  unfolding unlink cut_out
  aft-cut r hr d e = simp (get-put_other) (get_put_at_same n (point_next b c y x) prev x y r (long_point y x) hr e)

  changed-cut : Changes (is_link c q x y) b cut
  changed-cut = unlink-changes (is_link c q x y) b c q hc (link_lets c q x y)

  -- the pages behind q: y stands before them now
  aft : (zs : List ℕ) → (In q zs → ⊥) → ((z : ℕ) → In z zs → y ≡ suc z → ⊥) → Distinct zs → ((z : ℕ) → In z zs → z < n)
      → Segment b (suc q) x zs 0 → Segment cut y x zs 0
  aft [] f k d l s = s
  aft (r ∷ rs) f k d l s = (
    s.0,
    aft-cut r (lt-ltb r n (l r (inl refl))) (ne_eqb q r (λ e. f (inl e))) s.0,
    rw (link-next c q x y changed-cut r (λ e. f (inl (sym e))) (k r (inl refl)))
        (segment_kept b cut (suc r) (get b (page next r)) rs 0
        (λ z i.
        let z-q : z ≡ q → ⊥ = λ e. f (inr (subst (λ (w : ℕ). In w rs) e i)) in
        let z-r : z ≡ r → ⊥ = λ e. d.0 (subst (λ (w : ℕ). In w rs) e i) in
        (link-prev c q x y changed-cut z z-q (λ h. z-r (omega (arith, s.0))), link-next c q x y changed-cut z z-q (k z (inr i))))
        s.2),
  )

  kept-head : (y ≡ 0 → ⊥) → get cut (class partial c) ≡ get b (class partial c)
  kept-head h = changed-cut.kept (class partial c) hc (rw (ne_eqb y 0 h))

  -- the pages before q: they go on to x now
  fore : (ys : List ℕ) → (In q ys → ⊥) → ((z : ℕ) → In z ys → x ≡ suc z → ⊥) → Distinct ys → ((z : ℕ) → In z ys → z < n) → y ≡ last_code 0 ys
      → Segment b 0 (get b (class partial c)) ys (suc q) → Segment cut 0 (get cut (class partial c)) ys x
  fore [] f k d l e s = head-cut e
  fore (w ∷ ws) f k d l e s =
      let (r, t) = last-suc w ws in
      let i : In r (w ∷ ws) = last_in w ws r t in
      let y-r : y ≡ suc r = e ∙ t in
      let z-q : (z : ℕ) → In z (w ∷ ws) → z ≡ q → ⊥ = λ z j h. f (subst (λ (u : ℕ). In u (w ∷ ws)) h j) in
      rw (kept-head (λ o. omega arith))
      (segment_redirect b cut 0 (get b (class partial c)) w ws (suc q) x r t d
      (λ z j. link-prev c q x y changed-cut z (z-q z j) (k z j))
      (λ z j z-r. link-next c q x y changed-cut z (z-q z j) (λ h. z-r (omega arith)))
      (fore-cut r (lt-ltb r n (l r i)) (ne_eqb q r (λ h. z-q r i (sym h))) y-r)
      s)

  pub chain-unlinked : (ys zs : List ℕ) → Chain n b c (ys ++ q ∷ zs) → Chain n (unlink b c q) c (ys ++ zs)
  chain-unlinked ys zs ch =
      let s : Parted b 0 (get b (class partial c)) ys q zs 0 = part b 0 (get b (class partial c)) ys q zs 0 ch.links in
      let m : Middle ys q zs = middle ys q zs ch.distinct in
      record {
        links =
            join cut 0 (get cut (class partial c)) ys x zs 0
            (fore ys m.front (λ z i e. m.across z i (first-page b (suc q) x zs z s.aft e)) m.fore
            (λ z i. ch.below z (in_left z ys (q ∷ zs) i)) s.before s.fore)
            (rw (← s.before)
            (aft zs m.back (λ z i e. m.across z (last-page ys z (sym s.before ∙ e)) i) m.aft
            (λ z i. ch.below z (in_right z ys (q ∷ zs) (inr i))) s.aft));
        distinct = m.rest;
        below = λ z i. ch.below z (in_without z q ys zs i);
      }

-- ---- the stores
module _ (n : ℕ) (b : List ℕ) (hb : leb (words n) (length b) ≡ true) (c q : ℕ) (hc : ltb c class_rows ≡ true) (hq : ltb q n ≡ true) where
  top-popped : (k : Park) → get (pop_store b c k q) (class (top k) c) ≡ get b (page next q)
  unfolding pop_store
  top-popped Empty = simp (get_put_same n, get-put_other)
  top-popped Cold = simp (get_put_same n, get-put_other)

  stored-popped : (k : Park) → get (pop_store b c k q) (class (stored k) c) ≡ get b (class (stored k) c) - 1
  unfolding pop_store
  stored-popped Empty = simp (get_put_same n, length-put, hb)
  stored-popped Cold = simp (get_put_same n, length-put, hb)

  next-popped : (k : Park) (x : ℕ) → get (pop_store b c k q) (page next x) ≡ get b (page next x)
  unfolding pop_store
  next-popped k x = simp get-put_other

  pub stack-popped : (k : Park) (us : List ℕ) → Stack b c k (q ∷ us) → Stack (pop_store b c k q) c k us
  stack-popped k us s = record {
    line = rw (top-popped k) (line_kept b (pop_store b c k q) (get b (page next q)) us (λ x i. next-popped k x) s.line.1);
    number = stored-popped k ∙ rw s.number (omega arith);
    few = omega (arith, s.few);
  }

  top-parked : (k : Park) → get (park_run b c k q) (class (top k) c) ≡ suc q
  unfolding park_run
  top-parked Empty = simp (get_put_same n, get-put_other, length-put, hb, add-one)
  top-parked Cold = simp (get_put_same n, get-put_other, length-put, hb, add-one)

  stored-parked : (k : Park) → get (park_run b c k q) (class (stored k) c) ≡ suc (get b (class (stored k) c))
  unfolding park_run
  stored-parked Empty = simp (get_put_same n, length-put, hb, add-one)
  stored-parked Cold = simp (get_put_same n, length-put, hb, add-one)

  next-parked : (k : Park) → get (park_run b c k q) (page next q) ≡ get b (class (top k) c)
  unfolding park_run
  next-parked Empty = simp (get_put_same n, get-put_other)
  next-parked Cold = simp (get_put_same n, get-put_other)

  others-parked : (k : Park) (x : ℕ) → eqb q x ≡ false → get (park_run b c k q) (page next x) ≡ get b (page next x)
  unfolding park_run
  others-parked k x d = simp get-put_other

  pub stack-parked : (k : Park) (us : List ℕ) → (In q us → ⊥) → length us < 256 → Stack b c k us → Stack (park_run b c k q) c k (q ∷ us)
  stack-parked k us f l s = record {
    line = (
      top-parked k,
      rw (next-parked k) (line_kept b (park_run b c k q) (get b (class (top k) c)) us
          (λ x i. others-parked k x (ne_eqb q x (λ e. f (subst (λ (w : ℕ). In w us) (sym e) i)))) s.line),
    );
    number = stored-parked k ∙ ap suc s.number;
    few = omega arith;
  }
