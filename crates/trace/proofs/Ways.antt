-- The ways out of the calls that a trace's words stand for.
use Rattle.facts.proofs.Prelude.{ℕ, ◌+◌, ◌-◌, ◌≤◌, ◌<◌, arith, Bool, true, false, List, [], ◌∷◌, ◌≡◌, refl, sym, ◌∙◌, leb, lt-ltb, le-ltb, le-leb, lt-leb, leb-true, leb-false, by_cases}
use Rattle.std.proofs.Common.{Option, Some, None}
use Rattle.std.specs.Prelude.{SomeIff}
use Rattle.classes.specs.Shape.{shape_of, class_count}
use Rattle.classes.proofs.Shapes.{shape-sound}
use Rattle.fields.specs.Field.{page, owner, get}
use Rattle.pages.specs.Stack.{page_at}
use Rattle.calls.specs.Release.{release_blocks}
use Rattle.release.specs.Answer.{Released, Refused, Fate}
use Rattle.release.specs.way.Pre.{ClassPre}
use Rattle.release.specs.way.Act.{Answered}
use Rattle.release.specs.way.One.{OneBack}
use Rattle.release.proofs.OneSteps.{one_left, one-carried}
use Rattle.trace.specs.Words.{owner_at, back_now}
use Rattle.trace.specs.way.Pre.{BookPre, owner_of}

-- ---- a block's page
pub class-in : (n : ℕ) (b : List ℕ) (w p o : ℕ) (r : Option ℕ) → p ≡ page_at w → p < n → o ≡ get b (page owner p) → SomeIff r (1 ≤ o) (o - 1) → owner_of r ≡ owner_at n b w
unfolding owner_at
class-in n b w p o None e h f x =
    let z : o ≡ 0 = by_cases (leb 1 o) (λ t. absurd (x (leb-true 1 o t))) (λ t. omega (arith, leb-false 1 o t)) in
    rw (← e, lt-ltb p n h) (sym z ∙ f)
class-in n b w p o (Some c) e h f x = let z : c + 1 ≡ o = omega (arith, x.0, x.1) in rw (← e, lt-ltb p n h) (z ∙ f)

pub class-off : (n : ℕ) (b : List ℕ) (w p : ℕ) → p ≡ page_at w → n ≤ p → 0 ≡ owner_at n b w
unfolding owner_at
class-off n b w p e h = rw (← e, le-ltb p n h)

-- ---- a release
pub back_none : (n : ℕ) (b : List ℕ) (w : ℕ) → 0 ≡ owner_at n b w → Answered (Refused 10) b (back_now n b w)
unfolding back_now
back_none n b w e = rw (← e) (record { answer = refl; left = refl })

module _ (n : ℕ) (b : List ℕ) (w c : ℕ) (e : c + 1 ≡ owner_at n b w) where
  pub back-high : class_count ≤ c → Answered (Refused 10) b (back_now n b w)
  unfolding back_now
  back-high h = rw (← e, le-leb 1 (c + 1) (omega arith), lt-leb (c + 1) class_count (omega arith)) (record { answer = refl; left = refl })

  pub back-pre : c < class_count → BookPre n b → ClassPre n b c (shape_of c)
  back-pre h a = record { known = omega arith; sound = shape-sound c; few = a.few; long = a.long }

  done : c < class_count → (r : Released) (b' : List ℕ) → Answered r b' (release_blocks n b c (shape_of c) 15 (w ∷ [])) → Answered r b' (back_now n b w)
  unfolding back_now
  done h r b' a =
      let one : c + 1 - 1 ≡ c = omega arith in
      rw (← e, le-leb 1 (c + 1) (omega arith), le-leb (c + 1) class_count (omega arith), one) a

  module _ (h : c < class_count) (t : Bool) (b' : List ℕ) (o : OneBack t b' n b c (shape_of c) w) where
    pub back_one : t ≡ true → BookPre n b → Answered (Fate 0) b' (back_now n b w)
    back_one x a = done h (Fate 0) b' (one-carried n b c (shape_of c) w t b' o (back-pre h a) x 15)

    pub rest-pre : t ≡ false → BookPre n b → ClassPre n b' c (shape_of c)
    rest-pre x a = rw (one_left n b c (shape_of c) w t b' o x) (back-pre h a)

    pub back-rest : t ≡ false → (h : ℕ) → h ≡ 15 → (r : Released) (b'' : List ℕ) → Answered r b'' (release_blocks n b' c (shape_of c) h (w ∷ [])) → Answered r b'' (back_now n b w)
    back-rest x g u r b'' a = done h r b'' (rw (u, one_left n b c (shape_of c) w t b' o x) at a)
