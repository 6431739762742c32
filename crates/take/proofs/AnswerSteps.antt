-- What an answer tells: a refusal's number, or the count; and the same through out-parameters.
use Rattle.facts.proofs.Prelude.{ℕ, zero, suc, arith, Bool, List, ◌≡◌, refl, sym, ap, ◌∙◌, eqb, ne_eqb}
use mir.Val.{bool_byte}
use Rattle.words.proofs.Answers.{eqb-digit, byte-digit}
use Rattle.words.specs.Host.{digit}
use Rattle.calls.specs.Take as Heap
use Rattle.take.specs.way.TakeAnswer.{Takes, TakesInto}
use Rattle.take.specs.Answer.{Take, Refused, Took, answer_of}

pub told-refused : (k j : ℕ) (w : Bool) (m : ℕ) → answer_of k j w ≡ Refused m → k ≡ 0 → ⊥
told-refused zero j w m e y = let z : ◌≡◌ {A = ℕ} 0 1 = cc in omega arith
told-refused (suc k) j w m e y = omega arith

pub told-code : (k j : ℕ) (w : Bool) (m : ℕ) (v : Bool) → answer_of k j w ≡ Took m v → k ≡ 0
told-code zero j w m v e = refl
told-code (suc k) j w m v e = cc

pub told-count : (k j : ℕ) (w : Bool) (m : ℕ) (v : Bool) → answer_of k j w ≡ Took m v → m ≡ j
told-count zero j w m v e = cc
told-count (suc k) j w m v e = cc

pub told-number : (k j : ℕ) (w : Bool) (m : ℕ) → answer_of k j w ≡ Refused m → m ≡ k
told-number zero j w m e = cc
told-number (suc k) j w m e = cc

told-virgin : (k j : ℕ) (w : Bool) (m : ℕ) (v : Bool) → answer_of k j w ≡ Took m v → v ≡ w
told-virgin zero j w m v e = cc
told-virgin (suc k) j w m v e = cc

-- ---- through out-parameters
module _ (t : Heap.Took) (x y : List ℕ) where
  module _ (s : Take) (k : Takes s x y t) where
    pub into_refused : (c m v : ℕ) → s ≡ Refused c → TakesInto c x y m m v v t
    into_refused c m v e =
        let z = sym k.answer ∙ e in
        let u = ne_eqb t.code 0 (told-refused t.code t.count t.virgin c z) in
        record { code = told-number t.code t.count t.virgin c z; book = k.book; list = k.list; count = rw u; virgin = rw u }

    pub into_took : (j m v : ℕ) (g : Bool) → s ≡ Took j g → TakesInto 0 x y m j v (bool_byte g) t
    into_took j m v g e =
        let z = sym k.answer ∙ e in
        let u : t.code ≡ 0 = told-code t.code t.count t.virgin j g z in
        record { code = sym u; book = k.book; list = k.list; count = rw u (told-count t.code t.count t.virgin j g z); virgin = rw u (byte-digit g ∙ ap digit (told-virgin t.code t.count t.virgin j g z)) }

  module _ (r m m' v v' : ℕ) (k : TakesInto r x y m m' v v' t) where
    refusal : (j : ℕ) → (j ≡ 0 → ⊥) → Refused j ≡ answer_of j t.count t.virgin
    refusal zero d = absurd (d refl)
    refusal (suc j) d = refl

    pub told-no : (r ≡ 0 → ⊥) → Takes (Refused r) x y t
    told-no d = record { answer = refusal r d ∙ ap (λ j. answer_of j t.count t.virgin) k.code; book = k.book; list = k.list }

    pub told-took : r ≡ 0 → Takes (Took m' (eqb v' 1)) x y t
    told-took z =
        let u : t.code ≡ 0 = sym k.code ∙ z in
        let e : m' ≡ t.count = rw u at k.count in
        let f : v' ≡ digit t.virgin = rw u at k.virgin in
        record { answer = rw (u, e, f, eqb-digit t.virgin); book = k.book; list = k.list }
