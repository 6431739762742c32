-- The ways out of the functions that plan a take, and what their loops keep.
use Rattle.facts.proofs.Prelude.{ℕ, zero, suc, ◌+◌, ◌-◌, ◌≤◌, ◌<◌, min, arith, Bool, true, false, false≢true, cond, ◌&&◌, List, ◌≡◌, refl, sym, ap, ◌∙◌, eqb}
use Rattle.facts.proofs.Prelude.{leb, length, lt-ltb, le-leb, lt-leb, leb-true, eq-eqb, ne_eqb, by_cases, and_left, and_right}
use Rattle.words.specs.Limits.{class_rows}
use Rattle.classes.specs.declared.Shape.{Shape}
use Rattle.fields.specs.Field.{arena, class, page, frontier, partial, next, prev, free, carved, virgin, words, Has, get}
use Rattle.pages.specs.Runs.{whole}
use Rattle.pages.specs.Stack.{latest}
use Rattle.pages.proofs.Runs.{whole_says}
use Rattle.pages.proofs.Draws.{latest-length}
use Rattle.pages.specs.Valid.{header_valid}
use Rattle.pages.proofs.ValidLaws.{carved-low, room-left}
use Rattle.calls.specs.Take.{page_ready, sound, walk}
use Rattle.std.specs.Prelude.{Ok, Err}
use Rattle.words.specs.declared.refusal.Refusal.{Refusal}
use Rattle.words.specs.declared.refusal.Refusal.TheVariants.{BookWord}
use Rattle.take.specs.way.TakePlan.{TakePre, TopEntriesPre, SupplyPre, share, walks_from, fills, Foretold}
use Rattle.take.proofs.TakePages.{sound-valid, valid-sound, latest-some, latest-most}
use Rattle.take.proofs.Walk.{planned, planned-stops, planned-goes, stops, stops-full, stops-none, walk-stops, walk_step}
use Rattle.take.proofs.Fill.{fill_planned}

-- ---- how many blocks a page gives
module _ (b : List ℕ) (sh : Shape) (q m : ℕ) where
  given_of : (m f r : ℕ) → min (f + r) m ≡ min m f + min (m - f) r
  given_of m f r = omega arith

  pub supply-is : (f k x : ℕ) → f ≡ get b (page free q) → k ≡ get b (page carved q) → x ≡ min (f + (sh.capacity - k)) m → x ≡ length (latest b sh q m)
  supply-is f k x e e' h = h ∙ rw (latest-length b sh q m, ← e, ← e') (given_of m f (sh.capacity - k))

-- ---- a page's own words
module _ (b : List ℕ) (sh : Shape) (q : ℕ) where
  pub virgin-yes : (v : Bool) (x : ℕ) → v ≡ true → x ≡ get b (page virgin q) → eqb x 1 ≡ (v && eqb (get b (page virgin q)) 1)
  virgin-yes v x e h = rw (e, h)

-- ---- a page
module _ (n : ℕ) (b : List ℕ) (c : ℕ) (sh : Shape) (l m q : ℕ) where
  pub run-there : (w : Bool) → TakePre n b c sh → w ≡ whole n b sh c q → w ≡ true → words (q + 1) ≤ length b
  run-there w a e t = omega (arith, (whole_says n b sh c q (sym e ∙ t)).inside, a.long, a.shape.paged)

  pub run-free : (w : Bool) → TakePre n b c sh → w ≡ whole n b sh c q → w ≡ true → Has b (page free q)
  run-free w a e t = omega (arith, run-there w a e t)

  pub run-carved : (w : Bool) → TakePre n b c sh → w ≡ whole n b sh c q → w ≡ true → Has b (page carved q)
  run-carved w a e t = omega (arith, run-there w a e t)

  pub header_top_entries : (w h : Bool) (f : ℕ) → TakePre n b c sh → w ≡ whole n b sh c q → w ≡ true → h ≡ page_ready b sh l q → h ≡ true → f ≡ get b (page free q) → TopEntriesPre b q f
  unfolding page_ready
  header_top_entries w h f a e t e' t' e'' =
      let u = and_left (header_valid b sh 0 q) _ (sym e' ∙ t') in
      record { there = run-there w a e t; slots = omega (arith, room-left b sh 0 q u, carved-low b sh 0 q u, a.shape.few) }

  pub sound-supply : (s : Bool) → TakePre n b c sh → s ≡ sound n b c sh l m q → s ≡ true → SupplyPre b sh q
  sound-supply s a e t =
      let f = sound-valid n b c sh l m q (sym e ∙ t) in
      let x = leb-true (get b (page free q)) (get b (page carved q)) f.stack in
      let y = leb-true (get b (page carved q)) sh.capacity f.within in
      record { there = run-there (whole n b sh c q) a refl (rw f.run); some = omega (arith, a.shape.few); carved = y; few = a.shape.few }

-- ---- the walk: what is left of it from here comes to the whole
module _ (n : ℕ) (b : List ℕ) (c : ℕ) (sh : Shape) where
  abbrev head : ℕ
  head = get b (class partial c)

  pub record PlanInv (code y left : ℕ) (v : Bool) : Type 0 where
    pub fuel : ℕ
    pub enough : left ≤ fuel
    pub within : left ≤ sh.batch
    pub walks : walk n b c sh fuel left code y ≡ walk n b c sh sh.batch sh.batch head 0
    pub counts : (sh.batch - left) + (planned b sh fuel left code).count ≡ (planned b sh sh.batch sh.batch head).count
    pub virgins : (v && (planned b sh fuel left code).virgin) ≡ (planned b sh sh.batch sh.batch head).virgin

  pub plan-starts : (h : ℕ) → h ≡ get b (class partial c) → PlanInv h 0 sh.batch true
  plan-starts h e = record { fuel = sh.batch; enough = omega arith; within = omega arith; walks = rw e; counts = rw e (omega arith); virgins = rw e }

  -- what a turn found
  record Found (j m code y : ℕ) : Type 0 where
    pub below : leb code (get b (arena frontier)) ≡ true
    pub before : eqb (get b (page prev (code - 1))) y ≡ true
    pub sound : sound n b c sh 1 m (code - 1) ≡ true
    pub blocks : j ≡ length (latest b sh (code - 1) m)

  -- the three tests
  abbrev tests : ℕ → ℕ → ℕ → Bool
  tests m code y = leb code (get b (arena frontier)) && (eqb (get b (page prev (code - 1))) y && sound n b c sh 1 m (code - 1))

  shared : (t : Bool) (x j : ℕ) → Ok j ≡ cond t (Ok x) (Err BookWord) → (t ≡ true) × (j ≡ x)
  shared true x j e = let z : j ≡ x = cc in (refl, z)
  shared false x j e = absurd (let z : ◌≡◌ {A = ℕ} 0 1 = cc in omega arith)

  unshared : (t : Bool) (x : ℕ) (r : Refusal) → Err r ≡ cond t (Ok x) (Err BookWord) → (t ≡ false) × (r ≡ BookWord)
  unshared true x r e = absurd (let z : ◌≡◌ {A = ℕ} 0 1 = cc in omega arith)
  unshared false x r e = let z : r ≡ BookWord = cc in (refl, z)

  found : (j m code y : ℕ) → Ok j ≡ share n b c sh m code y → Found j m code y
  unfolding share
  found j m code y e =
      let s = shared (tests m code y) (length (latest b sh (code - 1) m)) j e in
      record {
        below = and_left _ _ s.0;
        before = and_left _ _ (and_right (leb code (get b (arena frontier))) _ s.0);
        sound = and_right (eqb (get b (page prev (code - 1))) y) _ (and_right (leb code (get b (arena frontier))) _ s.0);
        blocks = s.1;
      }

  pub turn-some : (j m code y : ℕ) → (m ≡ 0 → ⊥) → Ok j ≡ share n b c sh m code y → 1 ≤ j
  turn-some j m code y h e =
      let f = found j m code y e in
      rw f.blocks (latest-some b sh (code - 1) m h (sound-valid n b c sh 1 m (code - 1) f.sound).more)

  pub turn-most : (j m code y : ℕ) → Ok j ≡ share n b c sh m code y → j ≤ m
  turn-most j m code y e = omega (arith, (found j m code y e).blocks, latest-most b sh (code - 1) m)

  goes : (m code : ℕ) → (m ≡ 0 → ⊥) → (code ≡ 0 → ⊥) → stops m code ≡ false
  goes m code h z = rw (ne_eqb m 0 h, ne_eqb code 0 z)

  and_assoc : (x y z : Bool) → ((x && y) && z) ≡ (x && (y && z))
  and_assoc true y z = refl
  and_assoc false y z = refl

  walk-on : (k j m code y : ℕ) → stops m code ≡ false → Found j m code y → walk n b c sh (suc k) m code y ≡ walk n b c sh k (m - j) (get b (page next (code - 1))) code
  unfolding walk
  walk-on k j m code y e f = rw (e, f.below, f.before, f.sound, f.blocks)

  again : (k j code y left x : ℕ) (v v' : Bool) → (left ≡ 0 → ⊥) → (code ≡ 0 → ⊥) → left ≤ suc k → left ≤ sh.batch
      → walk n b c sh (suc k) left code y ≡ walk n b c sh sh.batch sh.batch head 0
      → (sh.batch - left) + (planned b sh (suc k) left code).count ≡ (planned b sh sh.batch sh.batch head).count
      → (v && (planned b sh (suc k) left code).virgin) ≡ (planned b sh sh.batch sh.batch head).virgin
      → Found j left code y → 1 ≤ j → v' ≡ (v && eqb (get b (page virgin (code - 1))) 1) → x ≡ get b (page next (code - 1)) → PlanInv x code (left - j) v'
  again k j code y left x v v' h z l l' w p u f o ev ex =
      let e = goes left code h z in
      let g = planned-goes b sh k left code e in
      let most = latest-most b sh (code - 1) left in
      let bl = f.blocks in
      record {
        fuel = k;
        enough = omega arith;
        within = omega arith;
        walks = rw ex (sym (walk-on k j left code y e f) ∙ w);
        counts = rw (ex, bl) (omega (arith, most, l', ap (λ t. t.count) g, p));
        virgins = rw (ev, ex, bl) (and_assoc v _ _ ∙ ap (λ t. v && t.virgin) (sym g) ∙ u);
      }

  pub plan-again : (code y left j x : ℕ) (v v' : Bool) → (left ≡ 0 → ⊥) → PlanInv code y left v → (code ≡ 0 → ⊥) → Ok j ≡ share n b c sh left code y
      → v' ≡ (v && eqb (get b (page virgin (code - 1))) 1) → x ≡ get b (page next (code - 1)) → PlanInv x code (left - j) v'
  plan-again code y left j x v v' h i z e ev ex = go i.fuel i.enough i.walks i.counts i.virgins
    where
      go : (k : ℕ) → left ≤ k → walk n b c sh k left code y ≡ walk n b c sh sh.batch sh.batch head 0
          → (sh.batch - left) + (planned b sh k left code).count ≡ (planned b sh sh.batch sh.batch head).count
          → (v && (planned b sh k left code).virgin) ≡ (planned b sh sh.batch sh.batch head).virgin → PlanInv x code (left - j) v'
      go zero l w p u = absurd (h (omega arith))
      go (suc k) l w p u = again k j code y left x v v' h z l i.within w p u (found j left code y e) (turn-some j left code y h e) ev ex

  pub turn-there : (j m code y : ℕ) → TakePre n b c sh → Ok j ≡ share n b c sh m code y → (code ≡ 0 → ⊥) → words (code - 1 + 1) ≤ length b
  turn-there j m code y a e z = omega (arith, leb-true code (get b (arena frontier)) (found j m code y e).below, a.bound, a.long, z)

  pub turn-next : (j m code y : ℕ) → TakePre n b c sh → Ok j ≡ share n b c sh m code y → (code ≡ 0 → ⊥) → Has b (page next (code - 1))
  turn-next j m code y a e z = omega (arith, turn-there j m code y a e z)

  -- ---- the ends
  ends : (code y left : ℕ) (v : Bool) → TakePre n b c sh → PlanInv code y left v → stops left code ≡ true
      → Foretold (cond (leb code (get b (arena frontier))) (Ok (record { count = sh.batch - left; virgin = v })) (Err BookWord)) (walks_from n b c sh) (fills b c sh)
  ends code y left v a i s =
      let g = planned-stops b sh i.fuel left code s in
      let w : walks_from n b c sh ≡ leb code (get b (arena frontier)) = sym i.walks ∙ walk-stops n b c sh i.fuel left code y s in
      let p : sh.batch - left ≡ (planned b sh sh.batch sh.batch head).count = omega (arith, i.counts, ap (λ t. t.count) g) in
      let u : v ≡ (planned b sh sh.batch sh.batch head).virgin = sym (and-true v) ∙ sym (ap (λ t. v && t.virgin) g) ∙ i.virgins in
      by_cases (walks_from n b c sh)
      (λ t.
      let f = fill_planned n c (lt-ltb c class_rows a.known) sh a.shape sh.batch sh.batch b (le-leb (words n) (length b) a.long) a.bound t in
      rw (← w, t, p, u) (ap (λ z. Ok (record { count = z.count; virgin = z.virgin })) (sym f)))
      (λ t. rw (← w, t))
    where
      and-true : (x : Bool) → (x && true) ≡ x
      and-true true = refl
      and-true false = refl

  pub plan-empty : (code y left : ℕ) (v : Bool) → TakePre n b c sh → PlanInv code y left v → code ≡ 0 → Foretold (Ok (record { count = sh.batch - left; virgin = v })) (walks_from n b c sh) (fills b c sh)
  plan-empty code y left v a i z = rw (le-leb code (get b (arena frontier)) (omega arith)) at (ends code y left v a i (stops-none left code z))

  module _ (code y left f : ℕ) (v : Bool) (a : TakePre n b c sh) (z : left ≡ 0) (i : PlanInv code y left v) (e : f ≡ get b (arena frontier)) where
    pub plan-above : f < code → Foretold (Err BookWord) (walks_from n b c sh) (fills b c sh)
    plan-above l = rw (lt-leb code (get b (arena frontier)) (omega arith)) at (ends code y left v a i (stops-full left code z))

    pub plan-done : code ≤ f → Foretold (Ok (record { count = sh.batch; virgin = v })) (walks_from n b c sh) (fills b c sh)
    plan-done l = rw (le-leb code (get b (arena frontier)) (omega arith), sub-none sh.batch left z) at (ends code y left v a i (stops-full left code z))
      where
        sub-none : (x y : ℕ) → y ≡ 0 → x - y ≡ x
        sub-none x y e = omega arith

  fails : (k m code y : ℕ) → (m ≡ 0 → ⊥) → m ≤ k → (code ≡ 0 → ⊥) → tests m code y ≡ false → walk n b c sh k m code y ≡ true → ⊥
  fails zero m code y h l z e w = h (omega arith)
  fails (suc k) m code y h l z e w =
      let s = walk_step n b c sh k m code y (goes m code h z) w in
      let t : tests m code y ≡ true = rw (s.below, s.before, eq-eqb y y refl, valid-sound n b c sh 1 m (code - 1) s.valid) in
      absurd (false≢true (sym e ∙ t))

  pub plan-fails : (code y left : ℕ) (v : Bool) (r : Refusal) → (left ≡ 0 → ⊥) → PlanInv code y left v → (code ≡ 0 → ⊥) → Err r ≡ share n b c sh left code y → Foretold (Err r) (walks_from n b c sh) (fills b c sh)
  unfolding share
  plan-fails code y left v r h i z e =
      let s = unshared (tests left code y) (length (latest b sh (code - 1) left)) r e in
      by_cases (walks_from n b c sh) (λ w. absurd (fails i.fuel left code y h i.enough z s.0 (i.walks ∙ w))) (λ w. rw (w, s.1))
