-- A take from a store: its newest page becomes the partial list.
use Rattle.facts.proofs.Prelude.{ℕ, suc, ◌+◌, ◌-◌, ◌≤◌, ◌<◌, arith, Bool, true, false, not, List, ◌≡◌, refl, sym, ap, ◌∙◌, eqb, ltb}
use Rattle.facts.proofs.Prelude.{leb, length, lt-ltb, le-leb, leb-true, eqb-true, eqb-false, not-true, not-false, and_left, and_right}
use Rattle.words.specs.Limits.{class_rows}
use Rattle.classes.specs.declared.Shape.{Shape}
use Rattle.fields.specs.Field.{Field, arena, class, page, frontier, partial, free, carved, listed, virgin, region, get, words, Has}
use Rattle.fields.proofs.Laws.{get-put_other}
use Rattle.fields.proofs.Changes.{Changes}
use Rattle.pages.specs.Stack.{latest}
use Rattle.pages.specs.Links.{top, stored, pop_store}
use Rattle.pages.specs.declared.Park.{Park}
use Rattle.pages.specs.declared.Park.TheVariants.{Empty, Cold}
use Rattle.pages.specs.way.Pre.{UnparkRunPre}
use Rattle.pages.proofs.Runs.{whole_says}
use Rattle.pages.proofs.Kept.{Owns, Body, changes-owns, changes-body, latest-kept}
use Rattle.pages.proofs.Frames.{changes-pop_store}
use Rattle.pages.specs.Valid.{store_valid}
use Rattle.calls.specs.Take.{park_valid}
use Rattle.std.specs.Prelude.{Ok, Err}
use Rattle.words.specs.declared.refusal.Refusal.TheVariants.{BookWord}
use Rattle.take.specs.way.TakePlan.{TakePre, SupplyPre, walks_from, fills, Foretold, ParkedPre, unparked}
use Rattle.take.proofs.TakePages.{Valid, sound-valid, valid-kept}
use Rattle.take.proofs.TakeAlone.{link-changes, alone-walks, alone-planned}
use Rattle.take.proofs.Fill.{foreseen, fill_planned}

-- ---- the page
-- a page that leaves its store: only the class's row changes
abbrev is_row : Field → Bool
is_row g = eqb (region g) 2

module _ (b : List ℕ) (c : ℕ) (hc : ltb c class_rows ≡ true) (q : ℕ) where
  pop_store-changes : (k : Park) → Changes is_row b (pop_store b c k q)
  pop_store-changes k = changes-pop_store is_row b c q hc k refl refl

  pop_store-partial : (k : Park) → get (pop_store b c k q) (class partial c) ≡ get b (class partial c)
  unfolding pop_store
  pop_store-partial Empty = simp get-put_other
  pop_store-partial Cold = simp get-put_other

  pop_store-owns : (k : Park) → Owns b (pop_store b c k q)
  pop_store-owns k = changes-owns (pop_store-changes k) (λ x. refl) (λ x. refl) refl

  pop_store-body : (k : Park) → Body q b (pop_store b c k q)
  pop_store-body k = changes-body (pop_store-changes k) q refl refl refl (λ i. refl) (λ i. refl) (λ j. refl)

module _ (n : ℕ) (b : List ℕ) (c : ℕ) (sh : Shape) (k : Park) (a : ParkedPre n b c sh k) (p : park_valid n b c sh k ≡ true) where
  abbrev newest : ℕ
  newest = get b (class (top k) c) - 1

  abbrev left : List ℕ
  left = pop_store b c k newest

  hc : ltb c class_rows ≡ true
  hc = lt-ltb c class_rows a.pre.known

  some-pages : get b (class (stored k) c) ≡ 0 → ⊥
  unfolding park_valid
  some-pages z = let t = and_left _ _ (and_right (store_valid b c k) _ p) in eqb-false _ _ (not-true _ t) z

  parked-valid : Valid n b c sh 0 sh.batch newest
  unfolding park_valid
  parked-valid =
      sound-valid n b c sh 0 sh.batch newest
      (and_left _ _
      (and_right (not (eqb (get b (class (stored k) c)) 0)) _
      (and_right (store_valid b c k) _ p)))

  below_top : get b (class (top k) c) ≤ get b (arena frontier)
  unfolding park_valid
  below_top = leb-true (get b (class (top k) c)) (get b (arena frontier)) (and_left _ _ (and_left (store_valid b c k) _ p))

  there : newest < n
  there = omega (arith, (whole_says n b sh c newest parked-valid.run).inside, a.pre.shape.paged)

  pub parked-there : words (newest + 1) ≤ length b
  parked-there = omega (arith, there, a.pre.long)

  pub parked-unparks : UnparkRunPre b c k newest
  parked-unparks =
      record {
        known = a.pre.known;
        below = omega (arith, there, a.pre.few);
        there = parked-there;
        head = rw a.alone (omega (arith, parked-there));
        some = omega (arith, some-pages);
      }

  pub parked-supply : SupplyPre b sh newest
  parked-supply =
      let f = parked-valid in
      let x = leb-true (get b (page free newest)) (get b (page carved newest)) f.stack in
      let y = leb-true (get b (page carved newest)) sh.capacity f.within in
      record { there = parked-there; some = omega (arith, a.pre.shape.few); carved = y; few = a.pre.shape.few }

  left-long : leb (words n) (length left) ≡ true
  left-long = rw (pop_store-changes b c hc newest k).long (le-leb (words n) (length b) a.pre.long)

  left-valid : Valid n left c sh 0 sh.batch newest
  left-valid =
      valid-kept (pop_store-owns b c hc newest k) (pop_store-body b c hc newest k) n c sh 0 0 sh.batch a.pre.shape.few
      ((pop_store-changes b c hc newest k).kept (page listed newest) refl refl ∙ eqb-true _ _ parked-valid.listing) parked-valid

  left_alone : get left (class partial c) ≡ 0
  left_alone = pop_store-partial b c hc newest k ∙ a.alone

  left_below : suc newest ≤ get left (arena frontier)
  left_below = rw (pop_store-owns b c hc newest k).bound (omega (arith, below_top, a.some))

  wants : sh.batch ≡ 0 → ⊥
  wants z = omega (arith, a.pre.shape.gives)

  pub unparked-pre : TakePre n (unparked b c k) c sh
  unparked-pre =
      let u = pop_store-changes b c hc newest k in
      let v = link-changes n left left-long c hc newest (lt-ltb newest n there) left_alone in
      record {
        known = a.pre.known;
        shape = a.pre.shape;
        few = a.pre.few;
        long = rw (v.long, u.long) a.pre.long;
        bound = rw (v.kept (arena frontier) refl refl, u.kept (arena frontier) refl refl) a.pre.bound;
      }

  pub unparked-walks : walks_from n (unparked b c k) c sh ≡ true
  unparked-walks = alone-walks n left left-long c hc newest (lt-ltb newest n there) left_alone sh a.pre.shape.few 0 sh.batch left-valid wants left_below sh.batch a.pre.shape.gives

  pub unparked-planned : foreseen (fills (unparked b c k) c sh) ≡ record { count = length (latest b sh newest sh.batch); virgin = eqb (get b (page virgin newest)) 1 }
  unparked-planned =
      let w = unparked-pre in
      let al = pop_store-body b c hc newest k in
      let f = parked-valid in
      let x = leb-true (get b (page free newest)) (get b (page carved newest)) f.stack in
      let y = leb-true (get b (page carved newest)) sh.capacity f.within in
      fill_planned n c hc sh a.pre.shape sh.batch sh.batch (unparked b c k) (le-leb (words n) (length (unparked b c k)) w.long) w.bound unparked-walks
      ∙ alone-planned n left left-long c hc newest (lt-ltb newest n there) left_alone sh a.pre.shape.few 0 sh.batch left-valid wants left_below sh.batch a.pre.shape.gives
      ∙ rw (latest-kept al sh sh.batch (omega (arith, a.pre.shape.few)), al.virgin)

-- ---- the plan
module _ (n : ℕ) (b : List ℕ) (c : ℕ) (sh : Shape) (k : Park) where
  pub parked-fails : (r : Bool) → r ≡ park_valid n b c sh k → not r ≡ true → Foretold (Err BookWord) (park_valid n b c sh k) (fills (unparked b c k) c sh)
  parked-fails r e h = rw (← e, not-true r h)

  pub parked-done : (r : Bool) (x m v : ℕ) → ParkedPre n b c sh k → r ≡ park_valid n b c sh k → not r ≡ false → x ≡ get b (class (top k) c)
      → m ≡ length (latest b sh (x - 1) sh.batch) → v ≡ get b (page virgin (x - 1))
      → Foretold (Ok (record { count = m; virgin = eqb v 1 })) (park_valid n b c sh k) (fills (unparked b c k) c sh)
  parked-done r x m v a e h ex em ev =
      let yes : park_valid n b c sh k ≡ true = sym e ∙ not-false r h in
      let w = unparked-planned n b c sh k a yes in
      rw (yes, em, ev, ex) (ap (λ z. Ok (record { count = z.count; virgin = z.virgin })) (sym w))

  pub plan-there : (r : Bool) (x : ℕ) → ParkedPre n b c sh k → r ≡ park_valid n b c sh k → not r ≡ false → x ≡ get b (class (top k) c) → SupplyPre b sh (x - 1)
  plan-there r x a e h ex = rw ex (parked-supply n b c sh k a (sym e ∙ not-false r h))

  pub plan-virgin : (r : Bool) (x : ℕ) → ParkedPre n b c sh k → r ≡ park_valid n b c sh k → not r ≡ false → x ≡ get b (class (top k) c) → Has b (page virgin (x - 1))
  plan-virgin r x a e h ex = omega (arith, (plan-there r x a e h ex).there)
