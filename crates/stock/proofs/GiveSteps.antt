-- The ways out of `give`.
use Rattle.facts.proofs.Prelude.{ℕ, zero, suc, arith, Bool, true, false, List, [], ◌∷◌, ◌≡◌, refl}
use Rattle.classes.specs.declared.Shape.{Shape}
use Rattle.classes.specs.Shape.{shape_of, pool_id}
use Rattle.classes.proofs.Shapes.{shape-sound}
use Rattle.calls.specs.Release as Heap
use Rattle.calls.specs.Release.{release_blocks}
use Rattle.release.specs.way.Act.{Answered}
use Rattle.release.specs.Answer.{Released, Refused, Fate, answer_as}
use Rattle.release.specs.way.Pre.{ClassPre}
use Rattle.release.specs.way.One.{OneBack}
use Rattle.release.proofs.OneSteps.{one-carried, one_left}
use Rattle.stock.specs.way.Ends.{ReleasedOne}
use Rattle.stock.specs.way.Pre.{PoolPre}

-- what the heap's functions ask of the pool's class
module _ (n : ℕ) (b : List ℕ) (c d : ℕ) (a : PoolPre n b c) (e : d ≡ pool_id c) where
  pub class-pre : (sh : Shape) → sh ≡ shape_of d → ClassPre n b d sh
  class-pre sh f = record { known = omega (arith, a.known); sound = rw f (shape-sound d); few = a.few; long = a.long }

  pub class_pre_of : ClassPre n b d (shape_of d)
  class_pre_of = class-pre (shape_of d) refl

-- the heap's answer as a number
told-refused : (j f k : ℕ) → Refused k ≡ answer_as j f → k ≡ j
told-refused zero f k e = cc
told-refused (suc j) f k e = cc

told-fate : (j f g : ℕ) → Fate g ≡ answer_as j f → 0 ≡ j
told-fate zero f g e = refl
told-fate (suc j) f g e = cc

module _ (z : Heap.Released) (b' : List ℕ) where
  number : (k : ℕ) → Answered (Refused k) b' z → ReleasedOne k b' z
  number k h = record { code = told-refused z.code z.fate k h.answer; book = h.left }

  none : (f : ℕ) → Answered (Fate f) b' z → ReleasedOne 0 b' z
  none f h = record { code = told-fate z.code z.fate f h.answer; book = h.left }

-- by the class's id, as the code has it
module _ (n : ℕ) (b : List ℕ) (c d h w : ℕ) (ed : d ≡ pool_id c) where
  by_id : (k : ℕ) (b' : List ℕ) → ReleasedOne k b' (release_blocks n b d (shape_of d) h (w ∷ [])) → ReleasedOne k b' (release_blocks n b (pool_id c) (shape_of (pool_id c)) h (w ∷ []))
  by_id k b' z = rw ed at z

  module _ (t : Bool) (b₁ : List ℕ) (o : OneBack t b₁ n b d (shape_of d) w) where
    pub released-one : t ≡ true → PoolPre n b c → ReleasedOne 0 b₁ (release_blocks n b (pool_id c) (shape_of (pool_id c)) h (w ∷ []))
    released-one e a =
        by_id 0 b₁
        (none (release_blocks n b d (shape_of d) h (w ∷ [])) b₁ 0 (one-carried n b d (shape_of d) w t b₁ o (class_pre_of n b c d a ed) e h))

    module _ (e : t ≡ false) where
      left : b₁ ≡ b
      left = one_left n b d (shape_of d) w t b₁ o e

      pub list-pre : PoolPre n b c → ClassPre n b₁ d (shape_of d)
      list-pre a = rw left (class_pre_of n b c d a ed)

      module _ (b₂ : List ℕ) where
        answered : (r : Released) → Answered r b₂ (release_blocks n b₁ d (shape_of d) h (w ∷ [])) → Answered r b₂ (release_blocks n b d (shape_of d) h (w ∷ []))
        answered r a = rw left at a

        pub released_one_refused : (k r : ℕ) → Answered (Refused k) b₂ (release_blocks n b₁ d (shape_of d) h (w ∷ [])) → r ≡ k → ReleasedOne r b₂ (release_blocks n b (pool_id c) (shape_of (pool_id c)) h (w ∷ []))
        released_one_refused k r a e = rw e (by_id k b₂ (number (release_blocks n b d (shape_of d) h (w ∷ [])) b₂ k (answered (Refused k) a)))

        pub released_one_fate : (f : ℕ) → Answered (Fate f) b₂ (release_blocks n b₁ d (shape_of d) h (w ∷ [])) → ReleasedOne 0 b₂ (release_blocks n b (pool_id c) (shape_of (pool_id c)) h (w ∷ []))
        released_one_fate f a = by_id 0 b₂ (none (release_blocks n b d (shape_of d) h (w ∷ [])) b₂ f (answered (Fate f) a))
