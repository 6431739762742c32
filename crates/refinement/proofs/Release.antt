-- What becomes of a page whose blocks are back: the book and the fate are the model's.
--     SettledRep        the page stays with the class, or is in no list and goes to the arena next
--     park-rep          a page with none out goes to the empty store, the cold one, or the arena
--     settle-list       blocks come back by list
--     settle-chunk      blocks come back by a chunk: a page with none out is retired
use Rattle.facts.proofs.Prelude.{ℕ, suc, ◌+◌, ◌*◌, ◌≤◌, ◌<◌, arith, Bool, true, false, cond, not, ◌&&◌, List, [], ◌∷◌, ◌++◌, map}
use Rattle.facts.proofs.Prelude.{◌≡◌, refl, sym, ap, ◌∙◌, subst, eqb, ltb, leb, length, ltb-true, every, count, by_cases, and_left}
use Rattle.words.specs.Host.{discard_zeroed}
use Rattle.classes.specs.declared.Shape.{Shape}
use Rattle.rules.specs.declared.Limits.{Limits}
use Rattle.rules.specs.Rules.{Fit}
use Rattle.fields.specs.Field.{class, page, empty_count, cold_count, free, carved, get}
use Rattle.fields.specs.Ranges.{max_pages}
use Rattle.fields.proofs.Changes.{changes-none}
use Rattle.model.specs.Page.{Page, is_medium, carve_as, carve, carved_words, is_out, none_out, reused, returned, retire}
use Rattle.model.specs.Class.{Class, thawed}
use Rattle.model.specs.Release as Model
use Rattle.model.specs.Release.{Site, Settled, in_partial, in_full, destination_in, park, park_empty, let_go, settle}
use Rattle.pages.specs.Stack.{out_bit, back, index_of}
use Rattle.pages.specs.declared.Park.TheVariants.{Empty, Cold}
use Rattle.pages.specs.Links.{park_run}
use Rattle.pages.specs.Carve.{carve_anew}
use Rattle.model.specs.declared.Destination.TheVariants.{ToCold}
use Rattle.model.specs.Destination.{keeps_empty, destination_of, arena_fate, fate_of}
use Rattle.calls.specs.Release.{Released, released, unlisted, relisted, park_cold, park_as, park_at, give_back_at, emptied, set_retired}
use Rattle.calls.specs.Chunks.{chunk_back_at}
use Rattle.refinement.specs.way.Represents.{PageRep, firsts, ClassRep, RuleRep}
use Rattle.refinement.proofs.Basics.{Setting, setting_kept}
use Rattle.pages.proofs.Runs.{whole_in, whole-owner}
use Rattle.pages.proofs.Kept.{whole-kept}
use Rattle.refinement.proofs.Frames.{of_class, Only, only_trans, only_rule, data_owns}
use Rattle.refinement.proofs.Moves.{swap, at-full, to-store, park_run-only}
use Rattle.refinement.proofs.Pushes.{anew_data, anew_only, anew_out, anew_holds, carve-first, carve-rep}
use Rattle.refinement.proofs.Found.{Away, Placed, among, aside, placed-rep, placed_data, placed-out, out-only, placed_in, in_only}
use Rattle.refinement.proofs.Returned.{none_is, none-idle, return_data, return_only, return_rep, blank, emptied_data, emptied-only, emptied-rep}

-- page q stays with the class, or waits in no list to be given; `given` is the fate that says so. Pages zs waited before
pub data SettledRep (n : ℕ) (b : List ℕ) (c : ℕ) (sh : Shape) (zs : List Page) (given q : ℕ) : Released → Settled → Type 0 where
  stays : {b' : List ℕ} {s : Class} {f : ℕ} → (f ≡ given → ⊥) → Away n b' c sh s zs → Only c b b'
      → SettledRep n b c sh zs given q (released b' f) (record { class = s; fate = f; gives = [] })
  goes : {b' : List ℕ} {s : Class} (p : Page) → p.first ≡ q → Away n b' c sh s (p ∷ zs) → Only c b b'
      → SettledRep n b c sh zs given q (released b' given) (record { class = s; fate = given; gives = q ∷ [] })

module _ {n : ℕ} {b : List ℕ} {c : ℕ} {sh : Shape} {zs : List Page} {given q : ℕ} where
  settled-cond : (t : Bool) {w w' : Released} {x x' : Settled} → (t ≡ true → SettledRep n b c sh zs given q w x) → (t ≡ false → SettledRep n b c sh zs given q w' x')
      → SettledRep n b c sh zs given q (cond t w w') (cond t x x')
  settled-cond true f g = f refl
  settled-cond false f g = g refl

  settled-from : {b' : List ℕ} {w : Released} {x : Settled} → Only c b b' → SettledRep n b' c sh zs given q w x → SettledRep n b c sh zs given q w x
  settled-from o (stays e r k) = stays e r (only_trans c o k)
  settled-from o (goes p e r k) = goes p e r (only_trans c o k)

retired-settled : {n : ℕ} {b : List ℕ} {c : ℕ} {sh : Shape} {zs : List Page} {q : ℕ} {w : Released} {x : Settled} → SettledRep n b c sh zs 2 q w x
    → SettledRep n b c sh zs 6 q (set_retired w) (Model.set_retired x)
retired-settled (stays {f = f} e r o) = stays (λ (z : 4 + f ≡ 6). e (omega arith)) r o
retired-settled (goes p e r o) = goes p e r o

not-given : ◌≡◌ {A = ℕ} 0 2 → ⊥
not-given z = omega arith

pub length-firsts : {A : Type 0} (f : A → Page) (l : List A) → length (firsts (map f l)) ≡ length l
length-firsts f [] = refl
length-firsts f (x ∷ l) = ap suc (length-firsts f l)

cold-stays : (sh : Shape) → fate_of sh ToCold ≡ arena_fate → ⊥
cold-stays sh = go (is_medium sh)
  where
    go : (t : Bool) → ◌≡◌ {A = ℕ} (cond t 0 1) 2 → ⊥
    go true e = omega arith
    go false e = omega arith

-- ---- a page in no list that has no block out; m is the model's, which comes back as p
module _ {n : ℕ} {b : List ℕ} {c : ℕ} {sh : Shape} (s : Setting n b c sh) (lim : Limits) (fit : Fit lim) (h : ℕ) (t : Class) (zs : List Page) (m p : Page)
    (same : reused sh m ≡ p) (mf : m.first ≡ p.first) (idle : (i : ℕ) → out_bit b sh p.first i ≡ 0) (r : Away n b c sh t (p ∷ zs)) where
  in_empty_lem : length t.empty < 256 → SettledRep n b c sh zs 2 p.first (released (park_run b c Empty p.first) 0) (park_empty sh t m)
  in_empty_lem few =
      stays not-given
      (subst (λ z. ClassRep n (park_run b c Empty p.first) c sh Empty t.partial (z ∷ map (reused sh) t.empty) (map (thawed sh) t.cold) (zs ++ t.full)) (sym same)
      (to-store s (record { rep = r.fulls.0; idle = idle }) (omega (arith, length-firsts (reused sh) t.empty)) r))
      (park_run-only s r)

  in_cold_lem : length t.cold < 256 → SettledRep n b c sh zs 2 p.first (released (park_cold b c sh h p.first) (fate_of sh ToCold)) (Model.park_cold sh h t m)
  unfolding thawed
  in_cold_lem few =
      let q = p.first in
      let u = discard_zeroed h && not (is_medium sh) in
      let b₁ = carve_anew b sh p.first (discard_zeroed h && not (is_medium sh)) in
      let p₁ = carve sh p.first (discard_zeroed h && not (is_medium sh)) in
      let run = r.fulls.0.holds.run in
      let ch = anew_data s q u in
      let o₁ = anew_only s q u (whole-owner n b s.shape c q run) in
      let s₁ = setting_kept b₁ o₁.long s in
      let first : (carve sh p.first (discard_zeroed h && not (is_medium sh))).first ≡ p.first = carve-first sh q u in
      let rep₁ = carve-rep sh q u (anew_holds s q u (whole_in n b s.shape c q run) (whole-kept (data_owns q ch) n sh c q ∙ run) r.fulls.0.holds.listing idle r.fulls.0.holds.unmarked) in
      let r₁ = at-full s p p₁ first ch r rep₁ in
      let idle₁ : (i : ℕ) → out_bit (carve_anew b sh p.first (discard_zeroed h && not (is_medium sh))) sh (carve sh p.first (discard_zeroed h && not (is_medium sh))).first i ≡ 0
      = λ i. ap (λ z. out_bit b₁ sh z i) first ∙ anew_out s q u i ∙ idle i in
      let r₂ = swap (to-store s₁ (record { rep = rep₁; idle = idle₁ }) (omega (arith, length-firsts (thawed sh) t.cold)) (swap r₁)) in
      let r₃ = subst (λ z. ClassRep n (park_run b₁ c Cold z) c sh Empty t.partial (map (reused sh) t.empty) (p₁ ∷ map (thawed sh) t.cold) (zs ++ t.full)) first r₂ in
      stays (cold-stays sh)
      (subst (λ z. ClassRep n (park_run b₁ c Cold q) c sh Empty t.partial (map (reused sh) t.empty) (carve sh z u ∷ map (thawed sh) t.cold) (zs ++ t.full)) (sym mf) r₃)
      (only_trans c o₁ (subst (λ z. Only c b₁ (park_run b₁ c Cold z)) first (park_run-only s₁ (swap r₁))))

  away : SettledRep n b c sh zs 2 p.first (released b 2) (let_go sh t m)
  away = subst (λ z. SettledRep n b c sh zs 2 p.first (released b 2) (record { class = t; fate = 2; gives = z ∷ [] })) (sym mf) (goes p refl r (changes-none (of_class b c) b))

  park-rep : SettledRep n b c sh zs 2 p.first (park_as b c sh h p.first (destination_in sh lim t)) (park sh lim h t m)
  unfolding destination_of park
  park-rep =
      by_cases (keeps_empty sh lim (length t.empty))
      (λ e. rw e (in_empty_lem (omega (
        arith,
        fit.empty,
        ltb-true (length t.empty) lim.empty
            (and_left (ltb (length t.empty) lim.empty) (leb (suc (length t.empty) * sh.pages) sh.emptypages) e),
      ))))
      (λ e. by_cases (ltb (length t.cold) lim.cold)
      (λ u. rw (e, u) (in_cold_lem (omega (arith, fit.cold, ltb-true (length t.cold) lim.cold u))))
      (λ u. rw (e, u) away))

-- ---- a page at its site
module _ {n : ℕ} {b : List ℕ} {c : ℕ} {sh : Shape} {zs : List Page} where
  pub empty-number : {l : ℕ} {p : Page} {x : Site} → Placed n b c sh zs l p x → get b (class empty_count c) ≡ length x.without.empty
  unfolding in_partial in_full
  empty-number (among t f r) = r.store.number ∙ length-firsts (reused sh) t.empty
  empty-number (aside t f r) = r.store.number ∙ length-firsts (reused sh) t.empty

  pub cold-number : {l : ℕ} {p : Page} {x : Site} → Placed n b c sh zs l p x → get b (class cold_count c) ≡ length x.without.cold
  unfolding in_partial in_full
  cold-number (among t f r) = r.beside.number ∙ length-firsts (thawed sh) t.cold
  cold-number (aside t f r) = r.beside.number ∙ length-firsts (thawed sh) t.cold

  parked-rep : Setting n b c sh → n ≤ max_pages → {lim : Limits} → RuleRep b c lim → (h : ℕ) {l : ℕ} (m p : Page) {x : Site} → reused sh m ≡ p → m.first ≡ p.first → none_out sh p ≡ true
      → Placed n b c sh zs l p x → SettledRep n b c sh zs 2 p.first (park_at b c sh h p.first) (park sh lim h x.without m)
  unfolding park_at
  parked-rep s hn {lim} rl h m p {x} same mf none pl =
      let b₁ = unlisted b c p.first in
      let o = out-only s pl in
      let s₁ = setting_kept b₁ o.long s in
      let r = placed-out s pl in
      rw (rl.same, empty-number pl, cold-number pl) (settled-from o (park-rep s₁ lim rl.fit h x.without zs m p same mf (none-idle s₁ hn r.fulls.0 none) r))

-- ---- blocks ws of the page come back
module _ {n : ℕ} {b : List ℕ} {c : ℕ} {sh : Shape} {zs : List Page} (s : Setting n b c sh) (hn : n ≤ max_pages) {lim : Limits} (rl : RuleRep b c lim) (h : ℕ)
    {l : ℕ} (x : Site) (pl : Placed n b c sh zs l x.page x) (ws : List ℕ) (outs : every (λ w. is_out sh w x.page) ws ≡ true) (once : (w : ℕ) → count w ws ≤ 1) where
  d : List ℕ
  d = back b x.page.first (map (index_of sh x.page.first) ws)

  o : Only c b d
  unfolding d
  o = return_only s hn (placed-rep pl) ws outs once

  s₁ : Setting n d c sh
  s₁ = setting_kept d o.long s

  rl₁ : RuleRep d c lim
  rl₁ = only_rule c o c s.row rl

  back-rep : PageRep n sh d c l (returned ws x.page)
  unfolding d
  back-rep = return_rep s hn (placed-rep pl) ws outs once

  placed-back : Placed n d c sh zs l (returned ws x.page) x
  unfolding d returned
  placed-back = placed_data s (returned ws x.page) refl (return_data s hn (placed-rep pl) ws outs once) back-rep pl

  kept : (given : ℕ) → (◌≡◌ {A = ℕ} 0 given → ⊥)
      → SettledRep n b c sh zs given x.page.first (released (relisted d c x.page.first) 0) (record { class = x.with (returned ws x.page); fate = 0; gives = [] })
  unfolding returned
  kept given ne = stays ne (placed_in s₁ placed-back) (only_trans c o (in_only s₁ placed-back))

  none-back : eqb (get d (page carved x.page.first)) (get d (page free x.page.first)) ≡ none_out sh (returned ws x.page)
  unfolding returned
  none-back = sym (none_is s₁ hn back-rep)

  module _ (e : none_out sh (returned ws x.page) ≡ true) where
    parked-back : SettledRep n d c sh zs 2 x.page.first (park_at d c sh h x.page.first) (park sh lim h x.without (returned ws x.page))
    unfolding returned reused
    parked-back = parked-rep s₁ hn rl₁ h (returned ws x.page) (returned ws x.page) refl refl e placed-back

    -- the words forget a retired page's blocks at once, the model when it comes back; a small class's page only
    module _ (small : is_medium sh ≡ false) where
      retired-same : reused sh (retire x.page) ≡ blank x.page.first
      unfolding reused retire carve_as
      retired-same = rw small

      idle : (i : ℕ) → out_bit d sh x.page.first i ≡ 0
      unfolding returned
      idle = none-idle s₁ hn back-rep e

      s₂ : Setting n (emptied d x.page.first) c sh
      unfolding returned
      s₂ = setting_kept _ (emptied-only s₁ back-rep.holds).long s₁

      placed-empty : Placed n (emptied d x.page.first) c sh zs l (blank x.page.first) x
      unfolding returned
      placed-empty = placed_data s₁ (blank x.page.first) refl (emptied_data s₁ back-rep.holds) (emptied-rep s₁ back-rep.holds idle) placed-back

      retired-back : SettledRep n d c sh zs 6 x.page.first (set_retired (park_at (emptied d x.page.first) c sh h x.page.first)) (Model.set_retired (park sh lim h x.without (retire x.page)))
      unfolding returned retire none_out carved_words
      retired-back =
          settled-from (emptied-only s₁ back-rep.holds)
          (retired-settled (parked-rep s₂ hn (only_rule c (emptied-only s₁ back-rep.holds) c s.row rl₁) h (retire x.page) (blank x.page.first) retired-same refl refl placed-empty))

  pub settle-list : SettledRep n b c sh zs 2 x.page.first (give_back_at b c sh h x.page.first (map (index_of sh x.page.first) ws)) (settle sh lim h false ws x)
  unfolding give_back_at settle d
  settle-list = rw none-back (settled-cond (none_out sh (returned ws x.page)) (λ e. settled-from o (parked-back e)) (λ e. kept 2 not-given))

  pub settle-chunk : is_medium sh ≡ false → SettledRep n b c sh zs 6 x.page.first (chunk_back_at b c sh h x.page.first (map (index_of sh x.page.first) ws)) (settle sh lim h true ws x)
  unfolding chunk_back_at settle d
  settle-chunk small =
      rw none-back
      (settled-cond (none_out sh (returned ws x.page)) (λ e. settled-from o (retired-back e small)) (λ e. kept 6 (λ (z : ◌≡◌ {A = ℕ} 0 6). omega arith)))
