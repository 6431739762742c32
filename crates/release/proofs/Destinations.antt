-- What a destination tells: the store that it names has room, and its fate's number.
--     empty-room, cold-room    the store is below its limit
--     arena-alone, fate-low    only a run for the arena has the arena's fate, and no fate is above it
use Rattle.facts.proofs.Prelude.{ℕ, ◌+◌, ◌≤◌, ◌<◌, arith, Bool, true, false, cond, ◌≡◌, refl, ltb, ltb-true, and_left}
use Rattle.std.proofs.Common.{w32, Fits}
use Rattle.classes.specs.declared.Shape.{Shape}
use Rattle.rules.specs.declared.Limits.{Limits}
use Rattle.model.specs.declared.Destination.{Destination}
use Rattle.model.specs.declared.Destination.TheVariants.{ToEmpty, ToCold, ToArena}
use Rattle.model.specs.Page.{is_medium}
use Rattle.release.specs.declared.fates.Fate.{Fate}
use Rattle.release.specs.declared.fates.Fate.TheVariants.{Kept, Cold, Arena}
use Rattle.release.specs.way.Fate.{fate_number}
use Rattle.model.specs.Destination.{keeps_empty, destination_of, is_empty, is_cold, is_arena, kept_fate, arena_fate, fate_of}

module _ (sh : Shape) (lim : Limits) (e k : ℕ) where
  pub empty-room : is_empty (destination_of sh lim e k) ≡ true → e < lim.empty
  unfolding destination_of
  empty-room h = by (keeps_empty sh lim e) refl (ltb k lim.cold) h
    where
      by : (t : Bool) → keeps_empty sh lim e ≡ t → (u : Bool) → is_empty (cond t ToEmpty (cond u ToCold ToArena)) ≡ true → e < lim.empty
      by true z u h = ltb-true e lim.empty (and_left _ _ z)
      by false z true h = absurd (let z : ◌≡◌ {A = ℕ} 0 1 = cc in omega arith)
      by false z false h = absurd (let z : ◌≡◌ {A = ℕ} 0 1 = cc in omega arith)

  pub cold-room : is_cold (destination_of sh lim e k) ≡ true → k < lim.cold
  unfolding destination_of
  cold-room h = by (keeps_empty sh lim e) (ltb k lim.cold) refl h
    where
      by : (t u : Bool) → ltb k lim.cold ≡ u → is_cold (cond t ToEmpty (cond u ToCold ToArena)) ≡ true → k < lim.cold
      by true u z h = absurd (let z : ◌≡◌ {A = ℕ} 0 1 = cc in omega arith)
      by false true z h = ltb-true k lim.cold z
      by false false z h = absurd (let z : ◌≡◌ {A = ℕ} 0 1 = cc in omega arith)

cold-low : (t : Bool) → cond t kept_fate 1 ≤ 1
cold-low true = omega arith
cold-low false = omega arith

pub arena-alone : (sh : Shape) (s : Destination) → fate_of sh s ≡ arena_fate → is_arena s ≡ true
arena-alone sh ToEmpty e = absurd (omega (arith, e))
arena-alone sh ToCold e = absurd (omega (arith, e, cold-low (is_medium sh)))
arena-alone sh ToArena e = refl

-- the number of a retired page's fate
pub number-fits : (f : Fate) (k : ℕ) → k ≡ fate_number f → Fits w32 (4 + k)
number-fits Kept k e = record { fits = omega arith }
number-fits Cold k e = record { fits = omega arith }
number-fits Arena k e = record { fits = omega arith }

pub fate-low : (sh : Shape) (s : Destination) → fate_of sh s ≤ arena_fate
fate-low sh ToEmpty = omega arith
fate-low sh ToCold = omega (arith, cold-low (is_medium sh))
fate-low sh ToArena = omega arith
