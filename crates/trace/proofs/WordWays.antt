-- What a word says.
use Rattle.facts.proofs.Prelude.{ℕ, ◌/◌, ◌%◌, ◌<◌, ◌≤◌, arith, ◌&&◌, ◌≡◌, sym, eqb, ne_eqb, ltb, ltb-true, lt-ltb, le-ltb, by_cases}
use Rattle.std.proofs.Common.{Some}
use Rattle.classes.specs.Shape.{class_count}
use Rattle.trace.specs.declared.say.Say.{Say}
use Rattle.trace.specs.declared.say.Say.TheVariants.{Take}
use Rattle.trace.specs.Trace as Trace
use Rattle.trace.specs.Trace.{say, say_of, wrong}
use Rattle.trace.specs.way.Steps.{said}

-- only of a class that there is a word says a take
low-class : (k m c : ℕ) → say k m ≡ Trace.take c → c < class_count
low-class k m c h =
    by_cases (eqb k 0)
    (λ u.
    by_cases (ltb m class_count)
    (λ v. let e : Trace.take m ≡ Trace.take c = rw (u, v) at h in let f : m ≡ c = cc in omega (arith, ltb-true m class_count v, f))
    (λ v. let e : wrong ≡ Trace.take c = rw (u, v) at h in absurd (cc)))
    (λ u.
    by_cases (eqb k 1)
    (λ v. let e : Trace.back m ≡ Trace.take c = rw (u, v) at h in absurd (cc))
    (λ v.
    by_cases (eqb k 2 && eqb m 0)
    (λ x. let e : Trace.report ≡ Trace.take c = rw (u, v, x) at h in absurd (cc))
    (λ x. let e : wrong ≡ Trace.take c = rw (u, v, x) at h in absurd (cc))))

pub word-low : (w c : ℕ) (x : Say) → said (Some x) ≡ say_of w → x ≡ Take c → c < class_count
unfolding say_of
word-low w c x e f = low-class (w / 1073741824) (w % 1073741824) c (rw f at (sym e))

-- what each word says
module _ (w : ℕ) where
  pub says_take : w / 1073741824 ≡ 0 → w % 1073741824 < class_count → Trace.take (w % 1073741824) ≡ say_of w
  unfolding say_of
  says_take z h = rw (z, lt-ltb (w % 1073741824) class_count h)

  pub says_high : w / 1073741824 ≡ 0 → class_count ≤ w % 1073741824 → wrong ≡ say_of w
  unfolding say_of
  says_high z h = rw (z, le-ltb (w % 1073741824) class_count h)

  pub says_back : w / 1073741824 ≡ 1 → Trace.back (w % 1073741824) ≡ say_of w
  unfolding say_of
  says_back z = rw z

  pub says_report : w / 1073741824 ≡ 2 → w % 1073741824 ≡ 0 → Trace.report ≡ say_of w
  unfolding say_of
  says_report z h = rw (z, h)

  pub says_more : w / 1073741824 ≡ 2 → (w % 1073741824 ≡ 0 → ⊥) → wrong ≡ say_of w
  unfolding say_of
  says_more z h = rw (z, ne_eqb (w % 1073741824) 0 h)

  pub says_other : (w / 1073741824 ≡ 0 → ⊥) → (w / 1073741824 ≡ 1 → ⊥) → (w / 1073741824 ≡ 2 → ⊥) → wrong ≡ say_of w
  unfolding say_of
  says_other x y z = rw (ne_eqb (w / 1073741824) 0 x, ne_eqb (w / 1073741824) 1 y, ne_eqb (w / 1073741824) 2 z)
