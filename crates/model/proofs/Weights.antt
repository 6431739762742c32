-- The runs of a class that begin at page q, weighed by whether they are virgin as they come back: what a request does to that weight. With
-- weight 1 it counts them, with 1 for the virgin ones the clean ones.
use Rattle.facts.proofs.Prelude.{ℕ, ◌+◌, ◌-◌, ◌%◌, arith, Bool, true, false, cond, not, ◌&&◌, List, [], ◌∷◌}
use Rattle.facts.proofs.Prelude.{Option, none, some, ◌≡◌, refl, ap, ◌∙◌, eqb, length, total, by_cases, and_no}
use Rattle.words.specs.Host.{discard_zeroed}
use Rattle.classes.specs.declared.Shape.{Shape}
use Rattle.rules.specs.declared.Limits.{Limits}
use Rattle.model.specs.declared.Destination.{Destination}
use Rattle.model.specs.declared.Destination.TheVariants.{ToEmpty, ToCold, ToArena}
use Rattle.model.specs.Page.{Page, Popped, is_medium, carve_as, carve, none_out, pop, returned, retire, reused}
use Rattle.model.specs.Class.{Class, lists, Cold, Filled, stays, after, fill_from_list, served, thawed, on_run, take_from, serve}
use Rattle.model.specs.Release.{Found, Site, Settled, find, in_partial, in_full, or_else, map_found, locate, park_in, destination_in, park, set_retired, settle}
use Rattle.model.specs.Chunks.{starts_at}
use Rattle.model.specs.Offered.{went_cold, went_back}
use Rattle.model.proofs.Counts.{total-append, total-at}
use Rattle.model.proofs.Find.{FoundLaws, found-law}
use Rattle.model.proofs.Alone.{Fits}

-- what a release with host word h leaves of a run, by the fate v
abbrev pub cleaned : Shape → ℕ → ℕ → Bool
cleaned sh h v = went_cold v && (discard_zeroed h && not (is_medium sh))

abbrev pub left_over : Shape → ℕ → (Bool → ℕ) → ℕ → ℕ
left_over sh h k v = cond (went_back v) 0 (k (cleaned sh h v))

module _ (sh : Shape) (q : ℕ) where
  module _ (k : Bool → ℕ) where
    abbrev pub page_weight : Page → ℕ
    page_weight p = cond (starts_at q p) (k p.virgin) 0

    abbrev pub empty_weight : Page → ℕ
    empty_weight p = cond (starts_at q p) (k (reused sh p).virgin) 0

    abbrev pub cold_weight : Cold → ℕ
    cold_weight c = cond (eqb c.first q) (k (thawed sh c).virgin) 0

    abbrev pub weigh : Class → ℕ
    weigh s = total page_weight s.partial + total page_weight s.full + total empty_weight s.empty + total cold_weight s.cold

    -- a run that is given is new
    abbrev pub new_weight : Option ℕ → ℕ
    new_weight none = 0
    new_weight (some r) = cond (eqb r q) (k true) 0

    carve_weight : (b : Bool) (r : ℕ) (v : Bool) → page_weight (carve_as sh b r v) ≡ cond (eqb r q) (k v) 0
    unfolding carve_as
    carve_weight true r v = refl
    carve_weight false r v = refl

    carve-virgin : (b : Bool) (r : ℕ) (v : Bool) → (carve_as sh b r v).virgin ≡ v
    unfolding carve_as
    carve-virgin true r v = refl
    carve-virgin false r v = refl

    reused_weight : (p : Page) → page_weight (reused sh p) ≡ empty_weight p
    unfolding reused
    reused_weight p = go p.retired
      where
        go : (b : Bool) → page_weight (cond b (carve sh p.first false) p) ≡ cond (starts_at q p) (k (cond b (carve sh p.first false) p).virgin) 0
        go true = carve_weight (is_medium sh) p.first false ∙ rw (carve-virgin (is_medium sh) p.first false)
        go false = refl

    thawed_weight : (c : Cold) → page_weight (thawed sh c) ≡ cold_weight c
    unfolding thawed
    thawed_weight c = carve_weight (is_medium sh) c.first _ ∙ rw (carve-virgin (is_medium sh) c.first _)

    -- ---- takes: pages keep what they are, wherever a fill puts them
    put_weight : (t : Bool) (p : Page) (ps fs : List Page) → total page_weight (cond t (p ∷ ps) ps) + total page_weight (cond t fs (p ∷ fs)) ≡ page_weight p + (total page_weight ps + total page_weight fs)
    put_weight true p ps fs = omega arith
    put_weight false p ps fs = omega arith

    after_weight : (v : Bool) (x : Popped) (f : Filled) → total page_weight (after sh v x f).partial + total page_weight (after sh v x f).full ≡ page_weight x.page + (total page_weight f.partial + total page_weight f.full)
    unfolding after
    after_weight v x f = put_weight (stays sh x.page) x.page f.partial f.full

    pop_weight : (n : ℕ) (p : Page) → page_weight (pop sh n p).page ≡ page_weight p
    unfolding pop
    pop_weight n p = refl

    fill_weight : (n : ℕ) (ps : List Page) → total page_weight (fill_from_list sh n ps).partial + total page_weight (fill_from_list sh n ps).full ≡ total page_weight ps
    unfolding fill_from_list
    fill_weight n [] = refl
    fill_weight n (p ∷ ps) =
        let f = fill_from_list sh (n - length (pop sh n p).blocks) ps in
        let ih = fill_weight (n - length (pop sh n p).blocks) ps in
        let y = after_weight p.virgin (pop sh n p) f in
        by_cases (eqb n 0) (λ e. rw e (omega arith)) (λ e. rw e (omega (arith, pop_weight n p)))

    pub served_weight : (l : List ℕ) (n : ℕ) (ps es : List Page) (cs : List Cold) (fs : List Page)
        → weigh (served l (fill_from_list sh n ps) es cs fs).class ≡ total page_weight ps + total page_weight fs + total empty_weight es + total cold_weight cs
    unfolding served
    served_weight l n ps es cs fs = rw total-append (omega (arith, fill_weight n ps))

    run_weight : (l : List ℕ) (fs : List Page) (g : Option ℕ) → weigh (on_run sh l fs g).class ≡ total page_weight fs + new_weight g
    unfolding on_run
    run_weight l fs none = omega arith
    run_weight l fs (some r) = omega (arith, served_weight l sh.batch (carve sh r true ∷ []) [] [] fs, carve_weight (is_medium sh) r true)

    -- a take keeps the runs as they are, and adds the one that is given
    pub take_weight : (l : List ℕ) (ps es : List Page) (cs : List Cold) (fs : List Page) (g : Option ℕ) → Fits (take_from sh l ps es cs fs) g
        → weigh (serve (take_from sh l ps es cs fs) g).class ≡ weigh (lists ps es cs fs) + new_weight g
    unfolding take_from
    take_weight l (p ∷ ps) es cs fs g e = rw e (omega (arith, served_weight l sh.batch (p ∷ ps) es cs fs))
    take_weight l [] (p ∷ es) cs fs g e = rw e (omega (arith, served_weight l sh.batch (reused sh p ∷ []) es cs fs, reused_weight p))
    take_weight l [] [] (c ∷ cs) fs g e = rw e (omega (arith, served_weight l sh.batch (thawed sh c ∷ []) [] cs fs, thawed_weight c))
    take_weight l [] [] [] fs g e = omega (arith, run_weight l fs g)

    -- ---- a page with blocks out: the class without it, and with another in its stead
    pub record SiteWeight (s : Class) (x : Site) : Type 0 where
      pub rest : weigh x.without + page_weight x.page ≡ weigh s
      pub put : (p : Page) → weigh (x.with p) ≡ weigh x.without + page_weight p

    abbrev pub SiteWeights : Class → Option Site → Type 0
    SiteWeights s none = Unit {0}
    SiteWeights s (some x) = SiteWeight s x

    module _ (t : Page → Bool) (s : Class) where
      partial_weight : (o : Option Found) → FoundLaws t s.partial o → SiteWeights s (map_found (in_partial s) o)
      unfolding in_partial
      partial_weight none h = tt
      partial_weight (some f) h = record {
        rest = omega (arith, ap (total page_weight) h.is, total-at page_weight f.before f.page f.behind);
        put = λ p. omega (arith, total-at page_weight f.before p f.behind);
      }

      full_weight : (o : Option Found) → FoundLaws t s.full o → SiteWeights s (map_found (in_full s) o)
      unfolding in_full
      full_weight none h = tt
      full_weight (some f) h = record {
        rest = omega (arith, ap (total page_weight) h.is, total-at page_weight f.before f.page f.behind);
        put = λ p. omega arith;
      }

      either_weight : (x y : Option Site) → SiteWeights s x → SiteWeights s y → SiteWeights s (or_else x y)
      either_weight none y a b = b
      either_weight (some x) y a b = a

      pub site_weight : SiteWeights s (locate t s)
      unfolding locate
      site_weight = either_weight (map_found (in_partial s) (find t s.partial)) (map_found (in_full s) (find t s.full)) (partial_weight (find t s.partial) (found-law t s.partial)) (full_weight (find t s.full) (found-law t s.full))

  -- ---- a release to one page
  module _ (lim : Limits) (h : ℕ) where
    -- of a page with no block out that is parked, virgin no more unless it was zeroed
    record Parks (s : Class) (p : Page) (b : Settled) : Type 0 where
      parks : (k : Bool → ℕ) → weigh k b.class ≡ weigh k s + cond (starts_at q p) (left_over sh h k b.fate) 0

    cold-left : (k : Bool → ℕ) (first : ℕ) → cold_weight k (record { first = first; zeroed = discard_zeroed h }) ≡ cond (eqb first q) (left_over sh h k (cond (is_medium sh) 0 1)) 0
    unfolding thawed
    cold-left k first =
        by_cases (is_medium sh)
        (λ m. rw (carve-virgin k (is_medium sh) first _) (rw m (rw (and_no (discard_zeroed h)))))
        (λ m. rw (carve-virgin k (is_medium sh) first _) (rw m refl))

    module _ (s : Class) (p : Page) (used : (reused sh p).virgin ≡ false) where
      park_in_lem : (t : Destination) → Parks s p (park_in sh h s p t)
      park_in_lem ToEmpty = record { parks = λ k. rw used (omega arith) }
      park_in_lem ToCold = record { parks = λ k. rw (cold-left k p.first) (omega arith) }
      park_in_lem ToArena = record { parks = λ k. by_cases (starts_at q p) (λ e. rw e (omega arith)) (λ e. rw e (omega arith)) }

      parked : Parks s p (park sh lim h s p)
      unfolding park
      parked = park_in_lem (destination_in sh lim s)

    returned-used : (ws : List ℕ) (p : Page) → (reused sh (returned ws p)).virgin ≡ false
    unfolding reused returned
    returned-used ws p = refl

    retired-used : (p : Page) → (reused sh (retire p)).virgin ≡ false
    unfolding reused retire
    retired-used p = carve-virgin (λ v. 0) (is_medium sh) p.first false

    -- on the runs that begin at q
    pub record Weighs (s : Class) (p : Page) (b : Settled) : Type 0 where
      pub weighs : (k : Bool → ℕ) → weigh k b.class + page_weight k p ≡ weigh k s + cond (starts_at q p) (left_over sh h k b.fate) 0

    retired_weighs : (s : Class) (p : Page) (b : Settled) → Weighs s p b → Weighs s p (set_retired b)
    retired_weighs s p b w = record { weighs = λ k. rw (again b.fate) (w.weighs k) }
      where
        again : (v : ℕ) → (4 + v) % 4 ≡ v % 4
        again v = omega arith

    module _ (s : Class) (x : Site) (law : (k : Bool → ℕ) → SiteWeight k s x) where
      parked-weighs : (p : Page) → (reused sh p).virgin ≡ false → p.first ≡ x.page.first → Weighs s x.page (park sh lim h x.without p)
      parked-weighs p used same = record {
        weighs = λ k. omega (arith, (parked x.without p used).parks k, (law k).rest, ap (λ n. cond (eqb n q) (left_over sh h k (park sh lim h x.without p).fate) 0) same);
      }

      leaves : (retires : Bool) (ws : List ℕ) → Weighs s x.page (cond retires (set_retired (park sh lim h x.without (retire x.page))) (park sh lim h x.without (returned ws x.page)))
      unfolding retire returned
      leaves true ws = retired_weighs s x.page _ (parked-weighs (retire x.page) (retired-used x.page) refl)
      leaves false ws = parked-weighs (returned ws x.page) (returned-used ws x.page) refl

      pub settle-weighs : (retires : Bool) (ws : List ℕ) → Weighs s x.page (settle sh lim h retires ws x)
      unfolding settle returned
      settle-weighs retires ws =
          by_cases (none_out sh (returned ws x.page))
          (λ e. rw e (leaves retires ws))
          (λ e. rw e (record { weighs = λ k. omega (arith, (law k).put (returned ws x.page), (law k).rest) }))
