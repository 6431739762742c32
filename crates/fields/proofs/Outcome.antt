-- The laws of `put_at`: those of `put`, at a stored number.
use Rattle.facts.proofs.Prelude.{ℕ, zero, suc, ◌-◌, sub-one, Bool, true, false, List, ◌≡◌, refl, leb, ltb, eqb·suc-suc, length}
use Rattle.fields.specs.Field.{PageField, Field, page, words, get, put, ok, same}
use Rattle.fields.specs.Outcome.{put_at, same_at}
use Rattle.fields.proofs.Laws.{get_put_same, get-put_other, length-put}
use Rattle.fields.proofs.Changes.{Changes, changes-put}

at-page : (k : PageField) (q : ℕ) (g : Field) → same_at k (suc q) g ≡ false → same (page k q) g ≡ false
at-page k q g e = rw eqb·suc-suc at e

-- a function that writes only where there is a page does `put_at`
pub put_at-some : (b b' : List ℕ) (k : PageField) (code v : ℕ) → (code ≡ 0 → ⊥) → b' ≡ put b (page k (code - 1)) v → b' ≡ put_at b k code v
put_at-some b b' k zero v h e = absurd (h refl)
put_at-some b b' k (suc q) v h e = rw sub-one at e

pub length-put_at : (b : List ℕ) (k : PageField) (code v : ℕ) → length (put_at b k code v) ≡ length b
length-put_at b k zero v = refl
length-put_at b k (suc q) v = length-put b (page k q) v

pub get_put_at_other : (b : List ℕ) (k : PageField) (code v : ℕ) (g : Field) → ok g ≡ true → same_at k code g ≡ false → get (put_at b k code v) g ≡ get b g
get_put_at_other b k zero v g hg d = refl
get_put_at_other b k (suc q) v g hg d = get-put_other b (page k q) g v refl hg (at-page k q g d)

pub get_put_at_same : (n : ℕ) (b : List ℕ) (k : PageField) (code v q : ℕ) → leb (words n) (length b) ≡ true → ltb q n ≡ true → code ≡ suc q → get (put_at b k code v) (page k q) ≡ v
get_put_at_same n b k code v q hb hq e = rw e (get_put_same n b (page k q) v hb hq refl)

pub changes-put_at : (t : Field → Bool) (b b' : List ℕ) (k : PageField) (code v : ℕ) → ((q : ℕ) → code ≡ suc q → t (page k q) ≡ true) → Changes t b b' → Changes t b (put_at b' k code v)
changes-put_at t b b' k zero v d h = h
changes-put_at t b b' k (suc q) v d h = changes-put t b b' (page k q) v refl (d q refl) h
