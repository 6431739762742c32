-- What parking a page asks, keeps and answers.
--     moves         the fields that the act changes before a store takes the page: no count of a store, nothing of the arena
use Rattle.facts.proofs.Prelude.{ℕ, ◌≤◌, ◌<◌, arith, Bool, true, false, cond, ◌&&◌, ◌||◌, and-false, and-true, List}
use Rattle.facts.proofs.Prelude.{◌≡◌, refl, sym, ◌∙◌, eqb, leb, leb-true, lt-ltb, eq-eqb, ne_eqb, and_left, and_right}
use Rattle.words.specs.Host.{discard_zeroed}
use Rattle.words.specs.Limits.{class_rows}
use Rattle.classes.specs.declared.Shape.{Shape}
use Rattle.classes.specs.way.Sound.{Sound}
use Rattle.fields.specs.Field.{Field, arena, class, page, region, off, frontier, empty_count, cold_count, next, prev, listed, get}
use Rattle.fields.specs.Ranges.{max_parked}
use Rattle.fields.proofs.Changes.{Changes, changes-none}
use Rattle.model.specs.declared.Destination.{Destination}
use Rattle.model.specs.declared.Destination.TheVariants.{ToEmpty, ToCold, ToArena}
use Rattle.model.specs.Destination.{fate_of}
use Rattle.pages.specs.declared.Park.{Park}
use Rattle.pages.specs.declared.Park.TheVariants.{Empty, Cold}
use Rattle.pages.specs.way.Pre.{UnlinkPre, ParkPre}
use Rattle.pages.specs.Links.{link, unlink, park_run, stored}
use Rattle.pages.specs.Carve.{carve_anew}
use Rattle.pages.proofs.Frames.{changes-link, changes-unlink, changes-carve}
use Rattle.calls.specs.Release.{unlisted, relisted, park_cold, parked_in, destination_at, park_at}
use Rattle.release.specs.way.Act.{cold_virgin, ParkingPre, ColdPre, StorePre, Parked}
use Rattle.release.proofs.ValidSteps.{count_low}

abbrev pub moves : Field → Bool
moves f = leb 4 (region f) || (eqb (region f) 2 && eqb (off f) 0)

-- ---- into and out of the partial list
module _ (b : List ℕ) (c q : ℕ) where
  module _ (x : ℕ) (e : x ≡ get b (page listed q)) where
    pub left-list : (b' : List ℕ) → x ≡ 1 → b' ≡ unlink b c q → b' ≡ unlisted b c q
    unfolding unlisted
    left-list b' h k = rw (← e, eq-eqb x 1 h) k

    pub in_no_list : (x ≡ 1 → ⊥) → b ≡ unlisted b c q
    unfolding unlisted
    in_no_list h = rw (← e, ne_eqb x 1 h)

    pub headed : (b' : List ℕ) → x ≡ 0 → b' ≡ link b c q → b' ≡ relisted b c q
    unfolding relisted
    headed b' h k = rw (← e, eq-eqb x 0 h) k

    pub in_list : (x ≡ 0 → ⊥) → b ≡ relisted b c q
    unfolding relisted
    in_list h = rw (← e, ne_eqb x 0 h)

    pub links-there : (sh : Shape) → ParkingPre b c sh q → x ≡ 1 → UnlinkPre b c q
    links-there sh a h =
        let z = rw (← e, eq-eqb x 1 h) at a.links in
        let n = leb-true (get b (page next q)) (get b (arena frontier)) (and_left _ _ z) in
        let p = leb-true (get b (page prev q)) (get b (arena frontier)) (and_right (leb (get b (page next q)) (get b (arena frontier))) _ z) in
        record { known = a.known; there = a.there; behind = omega (arith, a.low); before = omega (arith, a.low) }

  pub unlisted-changes : c < class_rows → Changes moves b (unlisted b c q)
  unfolding unlisted
  unlisted-changes h = by (eqb (get b (page listed q)) 1)
    where
      by : (t : Bool) → Changes moves b (cond t (unlink b c q) b)
      by true = changes-unlink moves b c q (lt-ltb c class_rows h) (λ z. refl) (λ z k. refl) (λ z k. refl) refl refl refl
      by false = changes-none moves b

  pub relisted-changes : c < class_rows → Changes moves b (relisted b c q)
  unfolding relisted
  relisted-changes h = by (eqb (get b (page listed q)) 0)
    where
      by : (t : Bool) → Changes moves b (cond t (link b c q) b)
      by true = changes-link moves b c q (lt-ltb c class_rows h) refl refl refl refl (λ z k. refl)
      by false = changes-none moves b

-- ---- cold
module _ (sh : Shape) (h : ℕ) where
  pub span_not_virgin : sh.kind ≡ 2 → false ≡ cold_virgin sh h
  span_not_virgin e = rw (eq-eqb sh.kind 2 e) (sym (and-false (discard_zeroed h)))

  pub page-virgin : (v : ℕ) (r : Bool) → (sh.kind ≡ 2 → ⊥) → v ≡ h → r ≡ discard_zeroed v → r ≡ cold_virgin sh h
  page-virgin v r d e k = rw (ne_eqb sh.kind 2 d) (k ∙ rw e (sym (and-true (discard_zeroed h))))

module _ (b : List ℕ) (c : ℕ) (sh : Shape) (h q : ℕ) where
  pub carve-changes : (v : Bool) → Sound sh → Changes moves b (carve_anew b sh q v)
  carve-changes v s = changes-carve moves b q refl refl (λ i. refl) sh v refl s.few

  module _ (b' : List ℕ) (v : Bool) (e : b' ≡ carve_anew b sh q v) where
    pub cold-there : ColdPre b c sh q → ParkPre b' c Cold q
    cold-there a =
        let k = carve-changes v a.sound in
        record {
          known = a.known;
          below = a.below;
          there = rw e (omega (arith, k.long, a.there));
          few = rw e (rw (k.kept (class cold_count c) (lt-ltb c class_rows a.known) refl) a.few);
        }

    pub parked-cold : (b'' : List ℕ) → v ≡ cold_virgin sh h → b'' ≡ park_run b' c Cold q → b'' ≡ park_cold b c sh h q
    parked-cold b'' x k = k ∙ rw (e, x)

-- ---- by the destination
module _ (sh : Shape) (s : Destination) where
  pub fate-empty : s ≡ ToEmpty → 0 ≡ fate_of sh s
  fate-empty e = rw e

  pub span-kept : s ≡ ToCold → sh.kind ≡ 2 → 0 ≡ fate_of sh s
  span-kept e k = rw (e, eq-eqb sh.kind 2 k)

  pub page-cold : s ≡ ToCold → (sh.kind ≡ 2 → ⊥) → 1 ≡ fate_of sh s
  page-cold e d = rw (e, ne_eqb sh.kind 2 d)

  pub fate-arena : s ≡ ToArena → 2 ≡ fate_of sh s
  fate-arena e = rw e

module _ (b : List ℕ) (c : ℕ) (sh : Shape) (h q : ℕ) where
  module _ (a : StorePre b c sh q) where
    pub empty-there : ParkPre b c Empty q
    empty-there = record { known = a.known; below = a.below; there = a.there; few = a.few Empty }

    pub cold-pre : ColdPre b c sh q
    cold-pre = record { known = a.known; sound = a.sound; below = a.below; there = a.there; few = a.few Cold }

  module _ (s : Destination) where
    pub goes-empty : (b' : List ℕ) → s ≡ ToEmpty → b' ≡ park_run b c Empty q → b' ≡ parked_in b c sh h q s
    goes-empty b' e k = rw e k

    pub goes-cold : (b' : List ℕ) → s ≡ ToCold → b' ≡ park_cold b c sh h q → b' ≡ parked_in b c sh h q s
    goes-cold b' e k = rw e k

    pub goes_on : s ≡ ToArena → b ≡ parked_in b c sh h q s
    goes_on e = rw e

module _ (b : List ℕ) (c : ℕ) (sh : Shape) (q : ℕ) where
  count_kept : ParkingPre b c sh q → (p : Park) → get (unlisted b c q) (class (stored p) c) ≤ max_parked
  count_kept a Empty = rw ((unlisted-changes b c q a.known).kept (class empty_count c) (lt-ltb c class_rows a.known) refl) (count_low b c Empty a.row)
  count_kept a Cold = rw ((unlisted-changes b c q a.known).kept (class cold_count c) (lt-ltb c class_rows a.known) refl) (count_low b c Cold a.row)

  pub store-pre : ParkingPre b c sh q → (s : Destination) → s ≡ destination_at b c sh → (b' : List ℕ) → b' ≡ unlisted b c q → StorePre b' c sh q
  store-pre a s e b' k =
      rw k (record {
        known = a.known;
        sound = a.sound;
        below = a.below;
        there = omega (arith, (unlisted-changes b c q a.known).long, a.there);
        few = count_kept a;
      })

  pub parked-at : (h : ℕ) (s : Destination) → s ≡ destination_at b c sh → (b' : List ℕ) → b' ≡ unlisted b c q → (b'' : List ℕ) → b'' ≡ parked_in b' c sh h q s → (r : ℕ) → r ≡ fate_of sh s → Parked r b'' (park_at b c sh h q)
  unfolding park_at
  parked-at h s e b' k b'' l r j = rw (← e) (record { fate = j; left = l ∙ rw k })
