-- A take's fill from the partial list, on any words whose walk passes: it yields just what the walk found, turn by turn.
--     Turned        a turn of the fill leaves a book whose walk passes, with what the walk had found beyond the first page
--     turned        every turn does
--     fill-planned  so the fill yields what was planned
use Rattle.facts.proofs.Prelude.{ℕ, zero, suc, ◌-◌, ◌≤◌, arith, Bool, true, false, ◌&&◌, ◌||◌, List, [], ◌∷◌, map, ◌≡◌, refl, sym}
use Rattle.facts.proofs.Prelude.{ap, ◌∙◌, eqb, ltb, leb, length, length-append, lt-ltb, leb-true, eq-eqb, ne_eqb, by_cases, or_right}
use Rattle.words.specs.Limits.{class_rows}
use Rattle.classes.specs.declared.Shape.{Shape}
use Rattle.classes.specs.way.Sound.{Sound}
use Rattle.fields.specs.Field.{Field, arena, class, page, out, frontier, partial, next, prev, free, carved, region, off, get, ok, words}
use Rattle.fields.proofs.Laws.{get_put_same, get-put_other, length-put}
use Rattle.fields.proofs.Outcome.{get_put_at_other}
use Rattle.fields.proofs.Changes.{Changes, changes_trans}
use Rattle.pages.specs.Stack.{latest, draw, has_more}
use Rattle.pages.specs.Links.{cut_out, unlink}
use Rattle.pages.proofs.Runs.{whole_in}
use Rattle.pages.proofs.Draws.{draw-changes}
use Rattle.pages.proofs.Frames.{changes-unlink}
use Rattle.calls.specs.Take.{walk, Filled, filled_none, unlist_spent, fill_from}
use Rattle.take.proofs.TakePages.{Valid, latest-most}
use Rattle.take.proofs.TakeDraws.{latest-small, draw-full}
use Rattle.take.proofs.Walk.{Planned, planned, planned-stops, stops, stops-full, some-page, Step, walk-below, walk-stops, walk_step, is_turned, head-kept}

-- ---- the head of the list is cut out
module _ (n : ℕ) (b : List ℕ) (hb : leb (words n) (length b) ≡ true) (c : ℕ) (hc : ltb c class_rows ≡ true) (q x : ℕ) (hq : ltb q n ≡ true) (first : get b (page prev q) ≡ 0) (after : get b (page next q) ≡ x) where
  pub unlink-changes : Changes (is_turned c q x) b (unlink b c q)
  unlink-changes =
      let qq = eq-eqb q q refl in
      changes-unlink (is_turned c q x) b c q hc (λ z. eq-eqb c c refl) (λ z e. absurd (let u : 0 ≡ suc z = sym first ∙ e in omega arith))
      (λ z e. or_right (eqb z q) (eqb (suc z) x) (eq-eqb (suc z) x (sym e ∙ after))) (rw qq) (rw qq) (rw qq)

  pub unlink-head : get (unlink b c q) (class partial c) ≡ x
  unfolding unlink cut_out
  unlink-head = rw (first, after) (simp (get-put_other, get_put_at_other, get_put_same n))

  pub unlink-second : (r : ℕ) → x ≡ suc r → (r ≡ q → ⊥) → ltb r n ≡ true → get (unlink b c q) (page prev r) ≡ 0
  unfolding unlink cut_out
  unlink-second r e d hr =
      let dq : eqb q r ≡ false = ne_eqb q r (λ u. d (sym u)) in
      rw (first, after, e) (simp (get-put_other, get_put_same n, length-put, hb, dq))

-- ---- one turn
-- FREE, CARVED and the out bits
abbrev pub is_count : Field → Bool
is_count g = (eqb (region g) 4 && (ltb 3 (off g) && ltb (off g) 6)) || eqb (region g) 5

pub record Turned (n : ℕ) (b b₁ : List ℕ) (c : ℕ) (sh : Shape) (k m x : ℕ) : Type 0 where
  pub long : length b₁ ≡ length b
  pub frontier : get b₁ (arena frontier) ≡ get b (arena frontier)
  pub walks : walk n b₁ c sh k m (get b₁ (class partial c)) 0 ≡ true
  pub finds : planned b₁ sh k m (get b₁ (class partial c)) ≡ planned b sh k m x

module _ (n : ℕ) (b : List ℕ) (hb : leb (words n) (length b) ≡ true) (c : ℕ) (hc : ltb c class_rows ≡ true) (sh : Shape) (sd : Sound sh) (bound : get b (arena frontier) ≤ n) where
  pub page-there : (l m q : ℕ) → Valid n b c sh l m q → ltb q n ≡ true
  page-there l m q f = whole_in n b sd c q f.run

  module _ (k m : ℕ) (e : stops m (get b (class partial c)) ≡ false) (w : walk n b c sh (suc k) m (get b (class partial c)) 0 ≡ true) where
    abbrev code : ℕ
    code = get b (class partial c)

    abbrev page₁ : ℕ
    page₁ = code - 1

    abbrev after : ℕ
    after = get b (page next page₁)

    abbrev left : ℕ
    left = m - length (latest b sh page₁ m)

    pub step : Step n b c sh k m code 0
    step = walk_step n b c sh k m code 0 e w

    pub there : ltb page₁ n ≡ true
    there = page-there 1 m page₁ step.valid

    drawn : (t : Field → Bool) → t (page free page₁) ≡ true → t (page carved page₁) ≡ true → ((i : ℕ) → t (out page₁ i) ≡ true) → Changes t b (draw b sh page₁ m)
    drawn = draw-changes b sh page₁ m (latest-small b sh m page₁ sd.few (leb-true _ _ step.valid.within) step.valid.entries)

    pub drawn-kept : (g : Field) → ok g ≡ true → is_count g ≡ false → get (draw b sh page₁ m) g ≡ get b g
    drawn-kept g o f = (drawn is_count refl refl (λ i. refl)).kept g o f

    pub drawn-long : length (draw b sh page₁ m) ≡ length b
    drawn-long = (drawn is_count refl refl (λ i. refl)).long

    drawn-turned : Changes (is_turned c page₁ after) b (draw b sh page₁ m)
    drawn-turned = let qq = eq-eqb page₁ page₁ refl in drawn (is_turned c page₁ after) (rw qq) (rw qq) (λ i. qq)

    after-there : (r : ℕ) → after ≡ suc r → ltb r n ≡ true
    after-there r u = lt-ltb r n (omega (arith, leb-true after (get b (arena frontier)) (walk-below n b c sh k left after code step.rest)))

    -- the page gave all that was wanted
    turned-full : has_more (draw b sh page₁ m) sh page₁ ≡ true → Turned n b (draw b sh page₁ m) c sh k left after
    turned-full g =
        let j : length (latest b sh page₁ m) ≡ m = draw-full n b hb c sh 1 m page₁ there step.valid g in
        let z : (x : ℕ) → stops left x ≡ true = λ x. stops-full left x (omega arith) in
        let hd = drawn-kept (class partial c) hc refl in
        let fr = drawn-kept (arena frontier) refl refl in
        record {
          long = drawn-long;
          frontier = fr;
          walks = walk-stops n (draw b sh page₁ m) c sh k left (get (draw b sh page₁ m) (class partial c)) 0 (z (get (draw b sh page₁ m) (class partial c))) ∙ rw (hd, fr) step.below;
          finds = planned-stops (draw b sh page₁ m) sh k left (get (draw b sh page₁ m) (class partial c)) (z (get (draw b sh page₁ m) (class partial c))) ∙ sym (planned-stops b sh k left after (z after));
        }

    -- the page gave its last block, and leaves the list
    turned-spent : Turned n b (unlink (draw b sh page₁ m) c page₁) c sh k left after
    turned-spent =
        let d = draw b sh page₁ m in
        let hd : leb (words n) (length (draw b sh page₁ m)) ≡ true = rw drawn-long hb in
        let pv = drawn-kept (page prev page₁) refl refl ∙ step.before in
        let nx = drawn-kept (page next page₁) refl refl in
        let ch = changes_trans (is_turned c page₁ after) b d (unlink d c page₁) drawn-turned (unlink-changes n d hd c hc page₁ after there pv nx) in
        let top = unlink-head n d hd c hc page₁ after there pv nx in
        let z = some-page m code e in
        let y : suc page₁ ≡ code = omega (arith, z) in
        let kp = head-kept n b (unlink d c page₁) c sh sd.few page₁ after ch step.before k left
        (λ r u v. unlink-second n d hd c hc page₁ after there pv nx r u v (after-there r u)) (rw y step.rest) in
        record {
          long = ch.long;
          frontier = ch.kept (arena frontier) refl refl;
          walks = rw top kp.0;
          finds = rw top kp.1;
        }

    pub turned : Turned n b (unlist_spent (draw b sh page₁ m) c sh page₁) c sh k left after
    unfolding unlist_spent
    turned = by_cases (has_more (draw b sh page₁ m) sh page₁) (λ g. rw g (turned-full g)) (λ g. rw g turned-spent)

-- ---- the whole fill
abbrev pub foreseen : Filled → Planned
foreseen f = record { count = length f.blocks; virgin = f.virgin }

pub length-map : (f : ℕ → ℕ) (s : List ℕ) → length (map f s) ≡ length s
length-map f [] = refl
length-map f (x ∷ s) = ap suc (length-map f s)

pub fill_stops : (b : List ℕ) (c : ℕ) (sh : Shape) (k m : ℕ) → stops m (get b (class partial c)) ≡ true → fill_from b c sh k m ≡ filled_none b
unfolding fill_from
fill_stops b c sh zero m e = refl
fill_stops b c sh (suc k) m e = rw e

module _ (n c : ℕ) (hc : ltb c class_rows ≡ true) (sh : Shape) (sd : Sound sh) where
  pub fill_planned : (k m : ℕ) (b : List ℕ) → leb (words n) (length b) ≡ true → get b (arena frontier) ≤ n → walk n b c sh k m (get b (class partial c)) 0 ≡ true
      → foreseen (fill_from b c sh k m) ≡ planned b sh k m (get b (class partial c))
  unfolding fill_from planned
  fill_planned zero m b hb bound w = refl
  fill_planned (suc k) m b hb bound w =
      by_cases (stops m (get b (class partial c)))
      (λ e. rw e)
      (λ e.
      let q = get b (class partial c) - 1 in
      let ws = latest b sh (get b (class partial c) - 1) m in
      let t = turned n b hb c hc sh sd bound k m e w in
      let b₁ = unlist_spent (draw b sh q m) c sh q in
      let ih = fill_planned k (m - length ws) b₁ (rw t.long hb) (rw t.frontier bound) t.walks ∙ t.finds in
      rw (e, ← ih, length-append, length-map))

-- no more than was wanted
pub fill_most : (c : ℕ) (sh : Shape) (k m : ℕ) (b : List ℕ) → length (fill_from b c sh k m).blocks ≤ m
unfolding fill_from
fill_most c sh zero m b = omega arith
fill_most c sh (suc k) m b =
    let q = get b (class partial c) - 1 in
    let ih = fill_most c sh k (m - length (latest b sh q m)) (unlist_spent (draw b sh q m) c sh q) in
    by_cases (stops m (get b (class partial c))) (λ e. rw e (omega arith)) (λ e. rw (e, length-append, length-map) (omega (arith, ih, latest-most b sh q m)))
