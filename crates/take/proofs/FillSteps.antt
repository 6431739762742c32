-- The ways out of the functions that fill a take's list, and what the loop keeps.
use Rattle.facts.proofs.Prelude.{ℕ, zero, suc, ◌+◌, ◌-◌, ◌≤◌, ◌<◌, arith, Bool, true, false, not, List, ◌++◌, map, append_assoc, ◌≡◌, refl, sym, ap, ◌∙◌}
use Rattle.facts.proofs.Prelude.{eqb, length, take, drop, length-append, length-take-le, drop_at, lt-ltb, le-leb, leb-true, not-true, not-false, by_cases}
use Rattle.words.specs.Limits.{class_rows}
use Rattle.classes.specs.declared.Shape.{Shape}
use Rattle.fields.specs.Field.{arena, class, page, frontier, partial, next, prev, virgin, words, get}
use Rattle.model.specs.Page.{word_of}
use Rattle.pages.specs.Stack.{latest, draw, has_more, spliced, Drawn}
use Rattle.pages.specs.Links.{unlink}
use Rattle.pages.specs.way.Pre.{DrawPre, UnlinkPre}
use Rattle.pages.proofs.Runs.{whole_says}
use Rattle.pages.proofs.Draws.{draw-changes}
use Rattle.pages.proofs.Spliced.{length-spliced}
use Rattle.calls.specs.Take.{walk, filled_none, then_filled, unlist_spent, fill_from}
use Rattle.take.specs.way.TakePlan.{TakePre, fills, TurnPre, GaveTurn, FillPre, Filling}
use Rattle.take.proofs.TakePages.{latest-some, latest-most, positive}
use Rattle.take.proofs.TakeDraws.{latest-small}
use Rattle.take.proofs.Walk.{stops, some-wanted, some-page, Step, walk-below, walk_step}
use Rattle.take.proofs.Fill.{is_count, Turned, turned, fill_stops, length-map}

-- ---- a page that gave its last block
module _ (b : List ℕ) (c : ℕ) (sh : Shape) (q : ℕ) where
  pub spent-stays : (r : Bool) → r ≡ has_more b sh q → not r ≡ false → b ≡ unlist_spent b c sh q
  unfolding unlist_spent
  spent-stays r e h = rw (← e, not-false r h)

  pub spent-leaves : (r : Bool) (b' : List ℕ) → r ≡ has_more b sh q → not r ≡ true → b' ≡ unlink b c q → b' ≡ unlist_spent b c sh q
  unfolding unlist_spent
  spent-leaves r b' e h e' = rw (← e, not-true r h) e'

-- ---- one turn
module _ (b : List ℕ) (c : ℕ) (sh : Shape) (l : List ℕ) (at m : ℕ) where
  pub turn_unlinks : (h r : ℕ) (b₁ l₁ : List ℕ) → TurnPre b c sh l at m → h ≡ get b (class partial c) → Drawn r b₁ l₁ b sh (h - 1) l at m → UnlinkPre b₁ c (h - 1)
  turn_unlinks h r b₁ l₁ a e d =
      let f = a.draws in
      let q = get b (class partial c) - 1 in
      let ch = draw-changes b sh q m (latest-small b sh m q f.sound.few f.carved f.entries) is_count refl refl (λ i. refl) in
      rw (e, d.book, e) (record {
        known = a.known;
        there = rw ch.long f.there;
        behind = rw (ch.long, ch.kept (page next q) refl refl) a.behind;
        before = rw (ch.long, ch.kept (page prev q) refl refl) a.before;
      })

  pub turn-draws : (h : ℕ) → TurnPre b c sh l at m → h ≡ get b (class partial c) → DrawPre b sh (h - 1) l at m
  turn-draws h a e = rw e a.draws

  pub turn-done : (h r : ℕ) (b₁ b₂ l₁ : List ℕ) → h ≡ get b (class partial c) → Drawn r b₁ l₁ b sh (h - 1) l at m → b₂ ≡ unlist_spent b₁ c sh (h - 1) → GaveTurn r b₂ l₁ b c sh l at m
  turn-done h r b₁ b₂ l₁ e d e₂ =
      let d' : Drawn r b₁ l₁ b sh (get b (class partial c) - 1) l at m = rw e at d in
      record { count = d'.count; book = e₂ ∙ rw (e, d'.book); list = d'.list }

-- ---- the loop
module _ (b₀ : List ℕ) (c : ℕ) (sh : Shape) (l₀ : List ℕ) where
  pub record FillInv (b l : List ℕ) (at m : ℕ) : Type 0 where
    pub pages : ℕ
    pub fuel : ℕ
    pub pre : TakePre pages b c sh
    pub enough : m ≤ fuel
    pub walks : walk pages b c sh fuel m (get b (class partial c)) 0 ≡ true
    pub count : at ≡ length (fill_from b c sh fuel m).blocks
    pub places : at ≤ length l
    pub book : (fill_from b c sh fuel m).book ≡ (fills b₀ c sh).book
    pub list : (fill_from b c sh fuel m).blocks ++ drop at l ≡ (fills b₀ c sh).blocks ++ drop (length (fills b₀ c sh).blocks) l₀
    pub long : length b ≡ length b₀
    pub same : length l ≡ length l₀

  pub fill_starts : (at : ℕ) → FillPre b₀ c sh l₀ at → FillInv b₀ l₀ at sh.batch
  fill_starts at a =
      record {
        pages = a.pages;
        fuel = sh.batch;
        pre = a.pre;
        enough = omega arith;
        walks = a.walks;
        count = a.count;
        places = a.places;
        book = refl;
        list = ap (λ z. (fills b₀ c sh).blocks ++ drop z l₀) a.count;
        long = refl;
        same = refl;
      }

-- what a turn is of, where something is still to be written
module _ (b : List ℕ) (c : ℕ) (sh : Shape) (l : List ℕ) (at m : ℕ) where
  abbrev code : ℕ
  code = get b (class partial c)

  abbrev blocks₁ : List ℕ
  blocks₁ = latest b sh (code - 1) m

  abbrev book₁ : List ℕ
  book₁ = unlist_spent (draw b sh (code - 1) m) c sh (code - 1)

  fill_goes : (k : ℕ) → stops m code ≡ false
      → fill_from b c sh (suc k) m ≡ then_filled (eqb (get b (page virgin (code - 1))) 1) (map (word_of sh (code - 1)) blocks₁) (fill_from book₁ c sh k (m - length blocks₁))
  unfolding fill_from
  fill_goes k e = rw e

  record Turning (n k : ℕ) : Type 0 where
    pub goes : stops m code ≡ false
    pub step : Step n b c sh k m code 0
    pub turn : Turned n b book₁ c sh k (m - length blocks₁) (get b (page next (code - 1)))
    pub count : at ≡ length (fill_from book₁ c sh k (m - length blocks₁)).blocks + length blocks₁
    pub some : 1 ≤ length blocks₁

  fill_length : (k : ℕ) → stops m code ≡ false → length (fill_from b c sh (suc k) m).blocks ≡ length (fill_from book₁ c sh k (m - length blocks₁)).blocks + length blocks₁
  fill_length k e = rw (fill_goes k e, length-append, length-map)

  writes : (n k : ℕ) → (at ≡ 0 → ⊥) → TakePre n b c sh → at ≡ length (fill_from b c sh k m).blocks → walk n b c sh k m code 0 ≡ true → (k ≡ 0 → ⊥) × (stops m code ≡ false)
  unfolding fill_from
  writes n zero z a e w = absurd (z e)
  writes n (suc k) z a e w = (λ u. omega arith, by_cases (stops m code) (λ s. absurd (z (e ∙ ap (λ f. length f.blocks) (fill_stops b c sh (suc k) m s)))) (λ s. s))

  turning : (n k : ℕ) → (at ≡ 0 → ⊥) → TakePre n b c sh → at ≡ length (fill_from b c sh (suc k) m).blocks → walk n b c sh (suc k) m code 0 ≡ true → Turning n k
  turning n k z a e w =
      let s = (writes n (suc k) z a e w).1 in
      let st = walk_step n b c sh k m code 0 s w in
      record {
        goes = s;
        step = st;
        turn = turned n b (le-leb (words n) (length b) a.long) c (lt-ltb c class_rows a.known) sh a.shape a.bound k m s w;
        count = e ∙ fill_length k s;
        some = latest-some b sh (code - 1) m (some-wanted m code s) st.valid.more;
      }

  pre_of : (n k : ℕ) → TakePre n b c sh → at ≤ length l → Turning n k → TurnPre b c sh l at m
  pre_of n k a p t =
      let f = t.step.valid in
      let r = (whole_says n b sh c (code - 1) f.run).inside in
      let nx = leb-true (get b (page next (code - 1))) (get b (arena frontier)) (walk-below n b c sh k (m - length blocks₁) (get b (page next (code - 1))) code t.step.rest) in
      record {
        known = a.known;
        some = positive code (some-page m code t.goes);
        draws = record {
          sound = a.shape;
          below = omega (arith, r, a.few);
          there = omega (arith, r, a.long, a.shape.paged);
          free = leb-true _ _ f.stack;
          carved = leb-true _ _ f.within;
          entries = f.entries;
          room = omega (arith, t.count);
          places = p;
        };
        behind = omega (arith, nx, a.bound, a.long);
        before = rw t.step.before (omega (arith, r, a.long));
      }

  pub turn-pre : (b₀ l₀ : List ℕ) → (at ≡ 0 → ⊥) → FillInv b₀ c sh l₀ b l at m → TurnPre b c sh l at m
  turn-pre b₀ l₀ z i = go i.fuel i.count i.walks
    where
      go : (k : ℕ) → at ≡ length (fill_from b c sh k m).blocks → walk i.pages b c sh k m code 0 ≡ true → TurnPre b c sh l at m
      go zero e w = absurd ((writes i.pages zero z i.pre e w).0 refl)
      go (suc k) e w = pre_of i.pages k i.pre i.places (turning i.pages k z i.pre e w)

-- words laid right before the place from which the list is as it was
drop-spliced : (l ws : List ℕ) (at : ℕ) → length ws ≤ at → at ≤ length l → drop (at - length ws) (spliced l (at - length ws) ws) ≡ ws ++ drop at l
unfolding spliced
drop-spliced l ws at h p =
    let e : at - length ws + length ws ≡ at = omega arith in
    drop_at (take (at - length ws) l) (ws ++ drop (at - length ws + length ws) l) (at - length ws) (length-take-le (at - length ws) l (omega arith))
    ∙ ap (λ z. ws ++ drop z l) e

relaid : (xs ys ws t u whole : List ℕ) → u ≡ ws ++ t → ys ≡ xs ++ ws → ys ++ t ≡ whole → xs ++ u ≡ whole
relaid xs ys ws t u whole e f g = rw e (sym (append_assoc xs ws t) ∙ ap (λ z. z ++ t) (sym f) ∙ g)

module _ (b₀ : List ℕ) (c : ℕ) (sh : Shape) (l₀ : List ℕ) (b b' l l' : List ℕ) (at m r : ℕ) where
  pre-after : (n k : ℕ) → TakePre n b c sh → Turning b c sh l at m n k → TakePre n (book₁ b c sh l at m) c sh
  pre-after n k a t = record { known = a.known; shape = a.shape; few = a.few; long = rw t.turn.long a.long; bound = rw t.turn.frontier a.bound }

  after : (k : ℕ) (i : FillInv b₀ c sh l₀ b l at m) → m ≤ suc k → (fill_from b c sh (suc k) m).book ≡ (fills b₀ c sh).book
      → (fill_from b c sh (suc k) m).blocks ++ drop at l ≡ (fills b₀ c sh).blocks ++ drop (length (fills b₀ c sh).blocks) l₀
      → Turning b c sh l at m i.pages k → GaveTurn r b' l' b c sh l at m → FillInv b₀ c sh l₀ b' l' (at - r) (m - r)
  after k i enough bk ls t g =
      let d = latest b sh (get b (class partial c) - 1) m in
      let ws = map (word_of sh (get b (class partial c) - 1)) d in
      let f₁ = fill_from (book₁ b c sh l at m) c sh k (m - length d) in
      let goes = fill_goes b c sh l at m k t.goes in
      let lw : length ws ≡ length d = length-map (word_of sh (get b (class partial c) - 1)) d in
      let most : length ws ≤ at = omega (arith, t.count) in
      let l₁ : l' ≡ spliced l (at - length ws) ws = g.list ∙ rw lw in
      let keeps : length (spliced l (at - length ws) ws) ≡ length l = length-spliced l (at - length ws) ws (omega (arith, i.places)) in
      let drops : drop (at - length d) l' ≡ ws ++ drop at l = ap (λ z. drop (at - length d) z) l₁ ∙ ap (λ z. drop (at - z) (spliced l (at - length ws) ws)) (sym lw) ∙ drop-spliced l ws at most i.places in
      rw (g.book, g.count) (record {
        pages = i.pages;
        fuel = k;
        pre = pre-after i.pages k i.pre t;
        enough = omega (arith, t.some);
        walks = t.turn.walks;
        count = omega (arith, t.count);
        places = rw (ap length l₁ ∙ keeps) (omega (arith, i.places));
        book = sym (ap (λ z. z.book) goes) ∙ bk;
        list = relaid f₁.blocks (fill_from b c sh (suc k) m).blocks ws (drop at l) (drop (at - length d) l') _ drops (ap (λ z. z.blocks) goes) ls;
        long = t.turn.long ∙ i.long;
        same = ap length l₁ ∙ keeps ∙ i.same;
      })

  pub fill_again : (at ≡ 0 → ⊥) → FillInv b₀ c sh l₀ b l at m → GaveTurn r b' l' b c sh l at m → FillInv b₀ c sh l₀ b' l' (at - r) (m - r)
  fill_again z i g = go i.fuel i.enough i.count i.walks i.book i.list
    where
      go : (k : ℕ) → m ≤ k → at ≡ length (fill_from b c sh k m).blocks → walk i.pages b c sh k m (get b (class partial c)) 0 ≡ true → (fill_from b c sh k m).book ≡ (fills b₀ c sh).book
          → (fill_from b c sh k m).blocks ++ drop at l ≡ (fills b₀ c sh).blocks ++ drop (length (fills b₀ c sh).blocks) l₀ → FillInv b₀ c sh l₀ b' l' (at - r) (m - r)
      go zero n e w bk ls = absurd ((writes b c sh l at m i.pages zero z i.pre e w).0 refl)
      go (suc k) n e w bk ls = after k i n bk ls (turning b c sh l at m i.pages k z i.pre e w) g

-- nothing is left to write: the fill yields nothing more
module _ (b₀ : List ℕ) (c : ℕ) (sh : Shape) (l₀ : List ℕ) (b l : List ℕ) (at m : ℕ) where
  ended : (n k : ℕ) → m ≤ k → walk n b c sh k m (get b (class partial c)) 0 ≡ true → 0 ≡ length (fill_from b c sh k m).blocks → fill_from b c sh k m ≡ filled_none b
  ended n k h w e = by_cases (stops m (get b (class partial c))) (fill_stops b c sh k m) (λ s. absurd (go k h w e s))
    where
      go : (k : ℕ) → m ≤ k → walk n b c sh k m (get b (class partial c)) 0 ≡ true → 0 ≡ length (fill_from b c sh k m).blocks → stops m (get b (class partial c)) ≡ false → ⊥
      go zero h w e s = some-wanted m (get b (class partial c)) s (omega arith)
      go (suc k) h w e s =
          let st = walk_step n b c sh k m (get b (class partial c)) 0 s w in
          omega (arith, fill_length b c sh l at m k s, latest-some b sh (get b (class partial c) - 1) m (some-wanted m (get b (class partial c)) s) st.valid.more)

  pub fill_done : at ≡ 0 → FillInv b₀ c sh l₀ b l at m → Filling b l (fills b₀ c sh) l₀
  fill_done z i =
      let f = ended i.pages i.fuel i.enough i.walks (sym z ∙ i.count) in
      let ls : (fill_from b c sh i.fuel m).blocks ++ drop 0 l ≡ (fills b₀ c sh).blocks ++ drop (length (fills b₀ c sh).blocks) l₀ = rw z at i.list in
      record { book = sym (ap (λ t. t.book) f) ∙ i.book; list = sym (ap (λ t. t.blocks ++ drop 0 l) f) ∙ ls }

  pub turn-written : (r : ℕ) (b' l' : List ℕ) → (at ≡ 0 → ⊥) → FillInv b₀ c sh l₀ b l at m → GaveTurn r b' l' b c sh l at m → r ≤ at
  turn-written r b' l' z i g = omega (arith, g.count, (turn-pre b c sh l at m b₀ l₀ z i).draws.room)

  pub turn-wanted : (r : ℕ) (b' l' : List ℕ) → GaveTurn r b' l' b c sh l at m → r ≤ m
  turn-wanted r b' l' g = omega (arith, g.count, latest-most b sh (get b (class partial c) - 1) m)

  pub turn-some : (r : ℕ) (b' l' : List ℕ) → (at ≡ 0 → ⊥) → FillInv b₀ c sh l₀ b l at m → GaveTurn r b' l' b c sh l at m → at - r < at
  turn-some r b' l' z i g = go i.fuel i.count i.walks
    where
      go : (k : ℕ) → at ≡ length (fill_from b c sh k m).blocks → walk i.pages b c sh k m (get b (class partial c)) 0 ≡ true → at - r < at
      go zero e w = absurd ((writes b c sh l at m i.pages zero z i.pre e w).0 refl)
      go (suc k) e w = let t = turning b c sh l at m i.pages k z i.pre e w in omega (arith, g.count, t.some, z)
