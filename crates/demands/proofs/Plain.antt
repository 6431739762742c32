-- The calls that a trace did are none of the pool's, and a call that is none of these names one of the heap's classes.
--     trace-plain    the takes and releases of a trace; `did-plain`, those of a start
--     names-plain    the class that such a call names
use Rattle.facts.proofs.Prelude.{ℕ, zero, suc, ◌+◌, arith, Bool, true, false, cond, true≢false, List, [], ◌∷◌, ◌++◌, some, Option·none-ne-some, ◌≡◌, refl, ltb, ltb-true, lt-ltb, All}
use Rattle.classes.specs.Shape.{class_count}
use Rattle.model.specs.Calls as Calls
use Rattle.model.specs.Calls.{Call, Request, Named, named, names, is_pooled}
use Rattle.model.specs.Entries.{Entry}
use Rattle.model.proofs.Pages.{all_append}
use Rattle.trace.specs.Trace.{Say, take, back, report, wrong, say_of, take_of, back_of, Handed, calls_at, Reach, does, reach_from, at_opening}
use Rattle.demands.specs.Trace.{words_read, did_calls}
use Rattle.demands.specs.Start.{Start, opening, trace, did}

-- ---- the calls that a trace did
abbrev pub Unpooled : List Call → Type 0
Unpooled xs = All (λ x. is_pooled x ≡ false) xs

either-plain : (b : Bool) (x y : Call) → is_pooled x ≡ false → is_pooled y ≡ false → is_pooled (cond b x y) ≡ false
either-plain true x y p q = p
either-plain false x y p q = q

take-plain : (c : ℕ) → is_pooled (take_of c) ≡ false
unfolding take_of
take-plain c = either-plain (ltb c 64) _ _ refl refl

back-plain : (e : Entry) → is_pooled (back_of e) ≡ false
unfolding back_of
back-plain e = either-plain (ltb e.class 64) _ _ refl refl

calls-plain : (p : ℕ) (hs : List Handed) → Unpooled (calls_at p hs)
calls-plain p [] = tt
calls-plain zero (h ∷ hs) = (back-plain h.entry, tt)
calls-plain (suc p) (h ∷ hs) = calls-plain p hs

plain-append : (xs ys : List Call) → Unpooled xs → Unpooled ys → Unpooled (xs ++ ys)
plain-append = all_append (λ x. is_pooled x ≡ false)

does-plain : (n : ℕ) (r : Reach) (s : Say) → Unpooled r.calls → Unpooled (does n r s).calls
does-plain n r (take c) p = plain-append r.calls (take_of c ∷ []) p (take-plain c, tt)
does-plain n r (back i) p = plain-append r.calls (calls_at i r.handed) p (calls-plain i r.handed)
does-plain n r report p = p
does-plain n r wrong p = p

reach-plain : (n : ℕ) (r : Reach) (ws : List ℕ) → Unpooled r.calls → Unpooled (reach_from n r ws).calls
reach-plain n r [] p = p
reach-plain n r (w ∷ ws) p = reach-plain n (does n r (say_of w)) ws (does-plain n r (say_of w) p)

pub trace-plain : (n : ℕ) (ws bl fl : List ℕ) → Unpooled (did_calls n ws bl fl)
trace-plain n ws bl fl = reach-plain n at_opening (words_read n ws bl fl) tt

pub did-plain : (s : Start) → Unpooled (did s)
did-plain (opening n rows b) = tt
did-plain (trace n b ws bl fl dn) = trace-plain n ws bl fl

-- ---- the class that a call names
named_as : (t : Bool) (c : ℕ) (r : Request) (d : Named) → named t c r ≡ some d → (t ≡ true) × (c ≡ d.class)
named_as true c r d e = (refl, cc)
named_as false c r d e = absurd (Option·none-ne-some d e)

small_low : (c k : ℕ) → (ltb c 64 ≡ true) × (c ≡ k) → ltb k class_count ≡ true
small_low c k e = lt-ltb k class_count (omega (arith, ltb-true c 64 e.0))

medium-low : (c k : ℕ) → (ltb c 12 ≡ true) × (64 + c ≡ k) → ltb k class_count ≡ true
medium-low c k e = lt-ltb k class_count (omega (arith, ltb-true c 12 e.0))

pub names-plain : (x : Call) (d : Named) → is_pooled x ≡ false → names x ≡ some d → ltb d.class class_count ≡ true
names-plain (Calls.take_blocks c h l) d p e = small_low c d.class (named_as (ltb c 64) c _ d e)
names-plain (Calls.medium_take_blocks c h l) d p e = medium-low c d.class (named_as (ltb c 12) (64 + c) _ d e)
names-plain (Calls.release_blocks c h ws) d p e = small_low c d.class (named_as (ltb c 64) c _ d e)
names-plain (Calls.medium_release_blocks c h ws) d p e = medium-low c d.class (named_as (ltb c 12) (64 + c) _ d e)
names-plain (Calls.pooled_take c h l) d p e = absurd (true≢false p)
names-plain (Calls.pooled_release c h ws) d p e = absurd (true≢false p)
names-plain (Calls.release_bin_chunks c h ws gs fs) d p e = small_low c d.class (named_as (ltb c 64) c _ d e)
names-plain (Calls.commit h m) d p e = absurd (Option·none-ne-some d e)
names-plain (Calls.grow_frontier h q old new) d p e = absurd (Option·none-ne-some d e)
names-plain (Calls.release h q m) d p e = absurd (Option·none-ne-some d e)
names-plain (Calls.contains o m) d p e = absurd (Option·none-ne-some d e)
names-plain Calls.report d p e = absurd (Option·none-ne-some d e)
