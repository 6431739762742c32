-- A page that is linked into an empty partial list is the whole of it: the walk passes, and the take is of that page.
--     link-changes, link-head, link-prev, link-next, link-listed    the words after
--     alone-walks      every test passes
--     alone-planned    what the take gives
use Rattle.facts.proofs.Prelude.{ℕ, zero, suc, ◌+◌, ◌-◌, ◌≤◌, arith, add-one, Bool, true, false, ◌&&◌, ◌||◌, List}
use Rattle.facts.proofs.Prelude.{◌≡◌, refl, sym, ap, ◌∙◌, eqb, ltb, leb, length, le-leb, leb-true, eq-eqb, ne_eqb}
use Rattle.words.specs.Limits.{class_rows}
use Rattle.classes.specs.declared.Shape.{Shape}
use Rattle.fields.specs.Field.{Field, arena, mark, class, hole, page, out, slot, frontier, partial, next, prev, listed, virgin, class_off, page_off, get, put, words}
use Rattle.fields.proofs.Laws.{get_put_same, get-put_other, length-put}
use Rattle.fields.proofs.Changes.{Changes}
use Rattle.pages.specs.Stack.{latest}
use Rattle.pages.specs.Links.{linked, link}
use Rattle.pages.proofs.Kept.{Owns, Body, changes-owns, changes-body, latest-kept}
use Rattle.pages.proofs.Frames.{changes-link}
use Rattle.calls.specs.Take.{walk}
use Rattle.take.proofs.TakePages.{Valid, valid-kept}
use Rattle.take.proofs.Walk.{planned_none, then_planned, planned, planned-stops, planned-goes, stops, stops-none, walk-stops, step-walk}

abbrev pub is_linked : ℕ → ℕ → Field → Bool
is_linked c q (arena k) = false
is_linked c q (mark p j) = false
is_linked c q (class k d) = eqb (class_off k) 0 && eqb d c
is_linked c q (hole k i) = false
is_linked c q (page k p) = (ltb 1 (page_off k) && ltb (page_off k) 4 || eqb (page_off k) 6) && eqb p q
is_linked c q (out p i) = false
is_linked c q (slot p i) = false

module _ (n : ℕ) (b : List ℕ) (hb : leb (words n) (length b) ≡ true) (c : ℕ) (hc : ltb c class_rows ≡ true) (q : ℕ) (hq : ltb q n ≡ true) (none : get b (class partial c) ≡ 0) where
  link-is : link b c q ≡ put (put (put (put b (page next q) 0) (page prev q) 0) (class partial c) (q + 1)) (page listed q) 1
  unfolding link linked
  link-is = rw none

  pub link-changes : Changes (is_linked c q) b (link b c q)
  link-changes =
      let qq = eq-eqb q q refl in
      changes-link (is_linked c q) b c q hc (eq-eqb c c refl) qq qq qq (λ x e. absurd (let u : 0 ≡ suc x = sym none ∙ e in omega arith))

  pub link-head : get (link b c q) (class partial c) ≡ suc q
  link-head = rw (link-is, ← (add-one q)) (simp (get-put_other, get_put_same n, length-put, hb))

  pub link-prev : get (link b c q) (page prev q) ≡ 0
  link-prev = rw link-is (simp (get-put_other, get_put_same n, length-put, hb))

  pub link-next : get (link b c q) (page next q) ≡ 0
  link-next = rw link-is (simp (get-put_other, get_put_same n))

  pub link-listed : get (link b c q) (page listed q) ≡ 1
  link-listed = rw link-is (simp (get_put_same n, length-put, hb))

  link-owns : Owns b (link b c q)
  link-owns = changes-owns link-changes (λ x. refl) (λ x. refl) refl

  link-body : Body q b (link b c q)
  link-body = changes-body link-changes q refl refl refl (λ i. refl) (λ i. refl) (λ j. refl)

  module _ (sh : Shape) (few : sh.capacity ≤ 4096) (l m k : ℕ) (f : Valid n b c sh l m q) (wanted : m ≡ 0 → ⊥) (bound : suc q ≤ get b (arena frontier)) where
    pred : suc q - 1 ≡ q
    pred = omega arith

    goes : stops m (suc q) ≡ false
    goes = rw (ne_eqb m 0 wanted, ne_eqb (suc q) 0 (λ z. omega arith))

    walks-suc : walk n (link b c q) c sh (suc k) m (get (link b c q) (class partial c)) 0 ≡ true
    walks-suc =
        rw link-head
        (step-walk n (link b c q) c sh k m (suc q) 0 goes (record {
          below = le-leb (suc q) (get (link b c q) (arena frontier)) (rw link-owns.bound bound);
          before = rw pred link-prev;
          valid = rw pred (valid-kept link-owns link-body n c sh l 1 m few link-listed f);
          rest = rw (pred, link-next) (walk-stops n (link b c q) c sh k (m - length (latest (link b c q) sh q m)) 0 (suc q) (stops-none (m - length (latest (link b c q) sh q m)) 0 refl) ∙ le-leb 0 (get (link b c q) (arena frontier)) (omega arith));
        }))

    planned-suc : planned (link b c q) sh (suc k) m (get (link b c q) (class partial c)) ≡ record { count = length (latest b sh q m); virgin = eqb (get b (page virgin q)) 1 }
    planned-suc =
        let la = latest-kept link-body sh m (omega (arith, leb-true, f.stack, f.within)) in
        rw link-head
        (planned-goes (link b c q) sh k m (suc q) goes
        ∙ rw (pred, la, link-next, link-body.virgin, planned-stops (link b c q) sh k (m - length (latest b sh q m)) 0 (stops-none (m - length (latest b sh q m)) 0 refl))
        (both (length (latest b sh q m)) (eqb (get b (page virgin q)) 1)))
      where
        both : (j : ℕ) (v : Bool) → then_planned v j planned_none ≡ record { count = j; virgin = v }
        both j true = ap (λ z. record { count = z; virgin = true }) (omega arith)
        both j false = ap (λ z. record { count = z; virgin = false }) (omega arith)

  module _ (sh : Shape) (few : sh.capacity ≤ 4096) (l m : ℕ) (f : Valid n b c sh l m q) (wanted : m ≡ 0 → ⊥) (bound : suc q ≤ get b (arena frontier)) where
    pub alone-walks : (k : ℕ) → 1 ≤ k → walk n (link b c q) c sh k m (get (link b c q) (class partial c)) 0 ≡ true
    alone-walks zero h = absurd (omega arith)
    alone-walks (suc k) h = walks-suc sh few l m k f wanted bound

    pub alone-planned : (k : ℕ) → 1 ≤ k → planned (link b c q) sh k m (get (link b c q) (class partial c)) ≡ record { count = length (latest b sh q m); virgin = eqb (get b (page virgin q)) 1 }
    alone-planned zero h = absurd (omega arith)
    alone-planned (suc k) h = planned-suc sh few l m k f wanted bound
