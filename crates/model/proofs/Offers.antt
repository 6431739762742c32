-- What is at hand is offered: a class's lists and what the history tells of its runs.
use Rattle.facts.proofs.Prelude.{ℕ, zero, suc, ◌+◌, ◌-◌, ◌≤◌, ◌<◌, arith, Bool, true, false, cond, not, ◌&&◌, ◌||◌, true≢false, false≢true, List, [], ◌∷◌, ◌↔◌, ◌≡◌}
use Rattle.facts.proofs.Prelude.{refl, sym, ap, ◌∙◌, subst, eqb, ltb, eqb-true, eq-eqb, ltb-true, ltb-false, is_nil, All, total, elem, count, by_cases, and_right}
use Rattle.classes.specs.declared.Shape.{Shape}
use Rattle.classes.specs.Shape.{shape_of}
use Rattle.classes.specs.way.Sound.{Sound}
use Rattle.classes.proofs.Shapes.{shape-sound}
use Rattle.rules.specs.Rules.{Rules}
use Rattle.model.specs.Calls.{Call}
use Rattle.model.specs.Cover.{covers}
use Rattle.model.specs.Page.{Page, word_of, words_from, carved_words, has_more, reused}
use Rattle.model.specs.Class.{Class, Cold, thawed}
use Rattle.model.specs.Chunks.{starts_at}
use Rattle.model.specs.History.{Event, events, heap_after}
use Rattle.model.specs.Entries.{OutIn}
use Rattle.model.specs.Yields.{Listed}
use Rattle.model.specs.Offered.{blocks_at, gets, yields_up, renews, releases_to, HasRun, Spent, NonePartial, NoneListed, Clean}
use Rattle.model.proofs.Counts.{elem-count, count_in_lem}
use Rattle.model.proofs.Pages.{out_of, on, begins_on, out-on, words-below, words-once, words-join, GoodPage}
use Rattle.model.proofs.Sites.{out_count, Once, GoodClass, here_out, out-here}
use Rattle.model.proofs.Weights.{weigh}
use Rattle.model.proofs.RunsObserved.{each, clean, total-le, block_on, at-le}
use Rattle.model.proofs.Since.{since_from, observed, untold}
use Rattle.model.proofs.HeapLaws.{kept}
use Rattle.model.proofs.RunHistories.{inv-once, runs-observed}
use Rattle.model.proofs.Yields.{after-listed}
use Rattle.model.proofs.Outs as Blocks

module _ (sh : Shape) (ok : Sound sh) where
  -- the words of a run
  pub word_in : (q i k : ℕ) → i < k → 1 ≤ count (word_of sh q i) (words_from sh q 0 k)
  word_in q i zero h = absurd (omega arith)
  word_in q i (suc k) h =
      by_cases (eqb (word_of sh q i) (word_of sh q (0 + k)))
      (λ e. rw e (omega arith))
      (λ e. rw e (let d : (i ≡ k) → ⊥ = λ p. true≢false (sym (eq-eqb (word_of sh q i) (word_of sh q (0 + k)) (ap (word_of sh q) (omega arith))) ∙ e) in
      omega (arith, word_in q i k (omega arith))))

  carved-le : (q a w : ℕ) → a ≤ sh.capacity → count w (words_from sh q 0 a) ≤ count w (blocks_at sh q)
  carved-le q a w h =
      let j = words-join sh ok q a (sh.capacity - a) w in
      let c : a + (sh.capacity - a) ≡ sh.capacity = omega arith in
      let j' : count w (blocks_at sh q) ≡ _ = rw c at j in
      omega arith

  -- a page with no more has all its blocks out
  pub full-out : (p : Page) → GoodPage sh p → has_more sh p ≡ false → (w : ℕ) → elem w (blocks_at sh p.first) ≡ true → 1 ≤ out_of sh w p
  unfolding has_more carved_words
  full-out p good e w m = go p.free (ltb p.carved sh.capacity) refl e
    where
      go : (f : List ℕ) (b : Bool) → ltb p.carved sh.capacity ≡ b → (not (is_nil f) || b) ≡ false → 1 ≤ count w (words_from sh p.first 0 p.carved) - count w f
      go [] true d e = absurd (true≢false e)
      go [] false d e =
          let c : p.carved ≡ sh.capacity = omega (arith, ltb-false p.carved sh.capacity d, good.within) in
          rw c (omega (arith, elem-count w (blocks_at sh p.first) m))
      go (x ∷ f) b d e = absurd (true≢false e)

  -- one with more has a block that is not
  pub record Spare (p : Page) : Type 0 where
    pub word : ℕ
    pub block : elem word (blocks_at sh p.first) ≡ true
    pub in_hand : out_of sh word p ≡ 0

  pub spare : (p : Page) → GoodPage sh p → has_more sh p ≡ true → Spare p
  unfolding has_more carved_words
  spare p good e = go p.free refl (ltb p.carved sh.capacity) refl e
    where
      go : (f : List ℕ) → p.free ≡ f → (b : Bool) → ltb p.carved sh.capacity ≡ b → (not (is_nil f) || b) ≡ true → Spare p
      go [] d true b e =
          let l = ltb-true p.carved sh.capacity b in
          record {
            word = word_of sh p.first p.carved;
            block = count_in_lem _ (blocks_at sh p.first) (word_in p.first p.carved sh.capacity l);
            in_hand = omega (arith, words-below sh ok p.first p.carved (word_of sh p.first p.carved) (omega arith));
          }
      go [] d false b e = absurd (false≢true e)
      go (x ∷ f) d b c e =
          let n : 1 ≤ count x p.free = rw (d, eq-eqb x x refl) (omega arith) in
          record {
            word = x;
            block = count_in_lem x (blocks_at sh p.first) (omega (arith, good.linked x, carved-le p.first p.carved x good.within));
            in_hand = omega (arith, words-once sh ok p.first p.carved x);
          }

  pub outs-on : (w : ℕ) (ps : List Page) → All (GoodPage sh) ps → total (out_of sh w) ps ≤ total (on sh (begins_on sh ok w)) ps
  outs-on w [] g = omega arith
  outs-on w (p ∷ ps) g = omega (arith, out-on sh ok w p g.0, outs-on w ps g.1)

  starts-out : (q w : ℕ) → elem w (blocks_at sh q) ≡ true → (ps : List Page) → All (GoodPage sh) ps → All (λ p. has_more sh p ≡ false) ps → total (λ p. cond (starts_at q p) 1 0) ps ≤ total (out_of sh w) ps
  starts-out q w m [] g l = omega arith
  starts-out q w m (p ∷ ps) g l =
      let ih = starts-out q w m ps g.1 l.1 in
      by_cases (starts_at q p)
      (λ e. rw e (omega (arith, full-out p g.0 l.0 w (rw (eqb-true p.first q e) m))))
      (λ e. rw e (omega arith))

  module _ (s : Class) (good : GoodClass sh s) (one : Once sh s) (listed : Listed sh s) (q : ℕ) where
    abbrev starts : List Page → ℕ
    starts ps = total (λ p. cond (starts_at q p) 1 0) ps

    abbrev starts_cold : List Cold → ℕ
    starts_cold cs = total (λ (c : Cold). cond (eqb c.first q) 1 0) cs

    -- a run at q of the full list has every block out
    listed-full : 1 ≤ starts s.full → (w : ℕ) → elem w (blocks_at sh q) ≡ true → 1 ≤ out_count sh w s
    listed-full n w m = omega (arith, starts-out q w m s.full good.full listed.full)

    -- where no page is partial, a run with a block out stands there
    used-full : s.partial ≡ [] → 1 ≤ weigh sh q each s → (w : ℕ) → elem w (blocks_at sh q) ≡ true → 1 ≤ out_count sh w s → 1 ≤ starts s.full
    used-full e n w m o =
        let z = begins_on sh ok w in
        let c = block_on sh ok w q m in
        omega (
          arith,
          outs-on w s.partial good.partial,
          outs-on w s.full good.full,
          one z,
          ap starts e,
          ap (total (out_of sh w)) e,
          total-le _ (on sh z) s.empty (λ (p : Page). at-le sh ok q z p.first c),
          total-le _ (λ (p : Cold). covers sh.pages p.first z) s.cold (λ (p : Cold). at-le sh ok q z p.first c),
        )

  -- where all blocks of all runs are out, nothing is listed
  module _ (s : Class) (good : GoodClass sh s) (one : Once sh s) (listed : Listed sh s) (out : (q : ℕ) → 1 ≤ weigh sh q each s → (w : ℕ) → elem w (blocks_at sh q) ≡ true → 1 ≤ out_count sh w s) where
    first_block : (q : ℕ) → elem (word_of sh q 0) (blocks_at sh q) ≡ true
    first_block q = count_in_lem (word_of sh q 0) (blocks_at sh q) (word_in q 0 sh.capacity (omega (arith, ok.blocks)))

    no-partial : (ps : List Page) → s.partial ≡ ps → ps ≡ []
    no-partial [] e = refl
    no-partial (p ∷ ps) e =
        let goods : All (GoodPage sh) (p ∷ ps) = subst (All (GoodPage sh)) e good.partial in
        let mores : All (λ p. has_more sh p ≡ true) (p ∷ ps) = subst (All (λ p. has_more sh p ≡ true)) e listed.partial in
        let q = p.first in
        let sp = spare p goods.0 mores.0 in
        let z = begins_on sh ok sp.word in
        let n : total (λ p. cond (starts_at q p) 1 0) s.partial ≡ 1 + total (λ p. cond (starts_at q p) 1 0) ps = ap (total (λ p. cond (starts_at q p) 1 0)) e ∙ rw (eq-eqb q q refl) in
        absurd (omega (arith, out q (omega arith) sp.word sp.block, sp.in_hand, ap (total (out_of sh sp.word)) e, ap (total (on sh z)) e, block_on sh ok sp.word q sp.block, one z, outs-on sp.word ps goods.1, outs-on sp.word s.full good.full))

    no-empty : (es : List Page) → s.empty ≡ es → es ≡ []
    no-empty [] e = refl
    no-empty (p ∷ es) e =
        let q = p.first in
        let w = word_of sh q 0 in
        let z = begins_on sh ok w in
        let n : total (λ p. cond (starts_at q p) 1 0) s.empty ≡ 1 + total (λ p. cond (starts_at q p) 1 0) es = ap (total (λ p. cond (starts_at q p) 1 0)) e ∙ rw (eq-eqb q q refl) in
        absurd (omega (arith, out q (omega arith) w (first_block q), ap (total (on sh z)) e, block_on sh ok w q (first_block q), one z, outs-on w s.partial good.partial, outs-on w s.full good.full))

    no-cold : (cs : List Cold) → s.cold ≡ cs → cs ≡ []
    no-cold [] e = refl
    no-cold (p ∷ cs) e =
        let q = p.first in
        let w = word_of sh q 0 in
        let z = begins_on sh ok w in
        let n : total (λ (c : Cold). cond (eqb c.first q) 1 0) s.cold ≡ 1 + total (λ (c : Cold). cond (eqb c.first q) 1 0) cs = ap (total (λ (c : Cold). cond (eqb c.first q) 1 0)) e ∙ rw (eq-eqb q q refl) in
        absurd (omega (arith, out q (omega arith) w (first_block q), ap (total (λ (c : Cold). covers sh.pages c.first z)) e, block_on sh ok w q (first_block q), one z, outs-on w s.partial good.partial, outs-on w s.full good.full))

    none-listed : NoneListed s
    none-listed = record { partial = no-partial s.partial refl; empty = no-empty s.empty refl; cold = no-cold s.cold refl }

-- ---- after a history
module _ (size : ℕ) (rules : Rules) (xs : List Call) (c : ℕ) where
  abbrev class : Class
  class = (heap_after size rules xs).classes c

  abbrev vs : List Event
  vs = events size rules xs

  pub good : GoodClass (shape_of c) class
  good = (kept size rules xs).inv.good c

  pub once : Once (shape_of c) class
  once = let k = kept size rules xs in inv-once size k.number _ _ _ _ k.inv c

  pub run-counted : (q : ℕ) → HasRun c q vs → weigh (shape_of c) q each class ≡ 1
  run-counted q h = (runs-observed size rules xs c q).runs ∙ ap (λ b. cond b 1 0) (observed (gets c q) (yields_up c q) vs h)

  pub counted-run : (q : ℕ) → 1 ≤ weigh (shape_of c) q each class → HasRun c q vs
  counted-run q n =
      by_cases (since_from (gets c q) (yields_up c q) false vs) (untold (gets c q) (yields_up c q) vs)
      (λ e. absurd (omega (arith, (runs-observed size rules xs c q).runs, ap {B = ℕ} (λ b. cond b 1 0) e)))

  pub clean-counted : (q : ℕ) → HasRun c q vs → Clean c q vs → weigh (shape_of c) q clean class ≡ 1
  clean-counted q h b =
      (runs-observed size rules xs c q).cleans
      ∙ ap {B = ℕ} (λ t. cond (t && since_from (renews c q) (releases_to c q) false vs) 1 0) (observed (gets c q) (yields_up c q) vs h)
      ∙ ap {B = ℕ} (λ t. cond t 1 0) (observed (renews c q) (releases_to c q) vs b)

  pub counted-clean : (q : ℕ) → 1 ≤ weigh (shape_of c) q clean class → Clean c q vs
  counted-clean q n =
      let h = since_from (gets c q) (yields_up c q) false vs in
      let b = since_from (renews c q) (releases_to c q) false vs in
      by_cases (h && b) (λ e. untold (renews c q) (releases_to c q) vs (and_right h b e))
      (λ e. absurd (omega (arith, (runs-observed size rules xs c q).cleans, ap {B = ℕ} (λ t. cond t 1 0) e)))

  pub out-counted : (w : ℕ) → OutIn vs c w → 1 ≤ out_count (shape_of c) w class
  out-counted w o = here_out (shape_of c) (shape-sound c) class good w (((Blocks.outs size rules xs).out c w).1 o)

  pub counted-out : (w : ℕ) → 1 ≤ out_count (shape_of c) w class → OutIn vs c w
  counted-out w n = ((Blocks.outs size rules xs).out c w).0 (out-here (shape_of c) (shape-sound c) class good w n)

  spent-listed : Spent vs c → NoneListed class
  spent-listed s = none-listed (shape_of c) (shape-sound c) class good once (after-listed size rules xs c) (λ q n w m. out-counted w (s.full q (counted-run q n) w m))

  listed-spent : NoneListed class → Spent vs c
  listed-spent e = record {
    full = λ q h w m.
        counted-out w (listed-full (shape_of c) (shape-sound c) class good once (after-listed size rules xs c) q
        (omega (arith, run-counted q h, ap (total (λ p. cond (starts_at q p) 1 0)) e.partial, ap (total (λ p. cond (starts_at q p) (each (reused (shape_of c) p).virgin) 0)) e.empty, ap (total (λ (k : Cold). cond (eqb k.first q) (each (thawed (shape_of c) k).virgin) 0)) e.cold)) w m);
  }

  pub spent-observed : Spent vs c ↔ NoneListed class
  spent-observed = (spent-listed, listed-spent)

  pub none-partial : class.partial ≡ [] → NonePartial vs c
  none-partial e = record {
    full = λ q h u w m.
        let k = after-listed size rules xs c in
        counted-out w (listed-full (shape_of c) (shape-sound c) class good once k q
        (used-full (shape_of c) (shape-sound c) class good once k q e (omega (arith, run-counted q h)) u.word u.block (out-counted u.word u.out)) w m);
  }
