-- After every history a page is held by nobody, by the direct calls, or by one of the 152 classes.
use Rattle.facts.proofs.Prelude.{ℕ, ◌+◌, ◌-◌, arith, Bool, true, false, cond, List, [], ◌∷◌, some, Option·none-ne-some, ◌≡◌, refl, sym, ap, eqb, ltb, ltb-true, lt-ltb, by_cases}
use Rattle.words.specs.Limits.{class_rows}
use Rattle.rules.specs.Rules.{Rules}
use Rattle.model.specs.Cover.{covers, covers_all, covers_run}
use Rattle.classes.specs.Shape.{shape_of, class_count, pool_id}
use Rattle.model.specs.Calls as Calls
use Rattle.model.specs.Calls.{Call, Request, Named, named, names, Way, host_of}
use Rattle.model.specs.Arena.{commit, grow}
use Rattle.model.specs.Class.{serve}
use Rattle.model.specs.Chunks.{answer}
use Rattle.model.specs.Heap.{Heap, Holder, Outcome, nobody, direct, class, pass_to, new_heap, offer, finish, interact, class_call, commit_call, grow_call, release_call, unchanged, direct_call, route, step}
use Rattle.model.specs.History.{heap_from, heap_after}
use Rattle.model.proofs.Ways.{Goes, is_turned, is-straight, is-class, goes}

abbrev pub is_known : Holder → Bool
is_known nobody = true
is_known direct = true
is_known (class c) = ltb c class_rows

pub record Known (w : ℕ → Holder) : Type 0 where
  pub at : (y : ℕ) → is_known (w y) ≡ true

pub known-passed : (who : Holder) (g : ℕ → ℕ) (w : ℕ → Holder) → is_known who ≡ true → Known w → Known (pass_to who g w)
known-passed who g w e k = record { at = λ y. by_cases (eqb (g y) 0) (λ d. rw d (k.at y)) (λ d. rw d e) }

-- ---- a call that names a class names one of ours
named-below : (t : Bool) (c : ℕ) (r : Request) (d : Named) → (t ≡ true → ltb c class_rows ≡ true) → named t c r ≡ some d → ltb d.class class_rows ≡ true
named-below true c r d h e = rw (sym (at c r d e)) (h refl)
  where
    at : (c : ℕ) (r : Request) (d : Named) → some (record { class = c; request = r }) ≡ some d → c ≡ d.class
    at c r d e = let z : record { class = c; request = r } ≡ d = cc in ap (λ x. x.class) z
named-below false c r d h e = absurd (Option·none-ne-some d e)

-- a class that a caller names has a row, and so has the pool's class of its number
pub row-known : (c : ℕ) → ltb c class_count ≡ true → ltb c class_rows ≡ true
row-known c e = lt-ltb c class_rows (omega (arith, ltb-true c class_count e))

pub pooled_class : (c : ℕ) → ltb c class_count ≡ true → ltb (pool_id c) class_rows ≡ true
pooled_class c e = lt-ltb (pool_id c) class_rows (omega (arith, ltb-true c class_count e))

pub small-class : (c : ℕ) → ltb c 64 ≡ true → ltb c class_rows ≡ true
small-class c e = lt-ltb c class_rows (omega (arith, ltb-true c 64 e))

pub medium-class : (c : ℕ) → ltb c 12 ≡ true → ltb (64 + c) class_rows ≡ true
medium-class c e = lt-ltb (64 + c) class_rows (omega (arith, ltb-true c 12 e))

pub names-below : (x : Call) (d : Named) → names x ≡ some d → ltb d.class class_rows ≡ true
names-below (Calls.take_blocks c h l) d e = named-below (ltb c 64) c _ d (small-class c) e
names-below (Calls.medium_take_blocks c h l) d e = named-below (ltb c 12) (64 + c) _ d (medium-class c) e
names-below (Calls.release_blocks c h ws) d e = named-below (ltb c 64) c _ d (small-class c) e
names-below (Calls.medium_release_blocks c h ws) d e = named-below (ltb c 12) (64 + c) _ d (medium-class c) e
names-below (Calls.pooled_take c h l) d e = named-below (ltb c class_count) (pool_id c) _ d (pooled_class c) e
names-below (Calls.pooled_release c h ws) d e = named-below (ltb c class_count) (pool_id c) _ d (pooled_class c) e
names-below (Calls.release_bin_chunks c h ws gs fs) d e = named-below (ltb c 64) c _ d (small-class c) e
names-below (Calls.commit h m) d e = absurd (Option·none-ne-some d e)
names-below (Calls.grow_frontier h q old new) d e = absurd (Option·none-ne-some d e)
names-below (Calls.release h q m) d e = absurd (Option·none-ne-some d e)
names-below (Calls.contains o m) d e = absurd (Option·none-ne-some d e)
names-below Calls.report d e = absurd (Option·none-ne-some d e)

-- ---- along a call
record KnownAfter (o : Outcome) : Type 0 where
  known : Known o.heap.holder

after-cond : (b : Bool) (o p : Outcome) → KnownAfter o → KnownAfter p → KnownAfter (cond b o p)
after-cond true o p h k = h
after-cond false o p h k = k

module _ (n : ℕ) (H : Heap) (k : Known H.holder) where
  same : (x : Calls.Answer) → KnownAfter (unchanged H x)
  same x = record { known = k }

  commit-known : (h m : ℕ) → KnownAfter (commit_call n H h m)
  unfolding commit_call
  commit-known h m = record { known = known-passed direct (covers_run m (commit n h m H.arena).run) H.holder refl k }

  grow-known : (h q old new : ℕ) → KnownAfter (grow_call n H h q old new)
  unfolding grow_call
  grow-known h q old new =
      record { known = known-passed direct (λ x. cond (grow n h (q + old) (new - old) H.arena).grew (covers (new - old) (q + old) x) 0) H.holder refl k }

  release-known : (q m : ℕ) → KnownAfter (release_call H q m)
  unfolding release_call
  release-known q m = record { known = known-passed nobody (covers m q) H.holder refl k }

  direct-known : (x : Call) → KnownAfter (direct_call n H x)
  unfolding direct_call
  direct-known (Calls.take_blocks c h l) = same _
  direct-known (Calls.medium_take_blocks c h l) = same _
  direct-known (Calls.release_blocks c h ws) = same _
  direct-known (Calls.medium_release_blocks c h ws) = same _
  direct-known (Calls.pooled_take c h l) = same _
  direct-known (Calls.pooled_release c h ws) = same _
  direct-known (Calls.release_bin_chunks c h ws gs fs) = same _
  direct-known (Calls.commit h m) = search (after-cond, same, commit-known) depth 9
  direct-known (Calls.grow_frontier h q old new) = search (after-cond, same, grow-known) depth 9
  direct-known (Calls.release h q m) = search (after-cond, same, release-known) depth 9
  direct-known (Calls.contains o b) = same _
  direct-known Calls.report = same _

  class-known : (c : ℕ) (r : Request) → ltb c class_rows ≡ true → KnownAfter (class_call n H c r)
  unfolding class_call interact finish
  class-known c r e =
      let sh = shape_of c in
      let q = answer sh (H.rules c) (H.classes c) r in
      let g = offer n (host_of r) H.arena q in
      let w = pass_to (class c) (covers_run sh.pages g.run) H.holder in
      record { known = known-passed nobody (covers_all sh.pages (serve q g.run).gives) w refl (known-passed (class c) (covers_run sh.pages g.run) H.holder e k) }

  route-known : (x : Call) {w : Way} → Goes x w → KnownAfter (route n H x w)
  route-known x (is_turned t) = same _
  route-known x (is-straight t e) = direct-known x
  route-known x (is-class d t e) = class-known d.class d.request (names-below x d e)

  pub known_step : (x : Call) → Known (step n H x).heap.holder
  unfolding step
  known_step x = (route-known x (goes x)).known

known_from : (n : ℕ) (H : Heap) (xs : List Call) → Known H.holder → Known (heap_from n H xs).holder
known_from n H [] k = k
known_from n H (x ∷ xs) k = known_from n (step n H x).heap xs (known_step n H k x)

pub known-after : (n : ℕ) (rules : Rules) (xs : List Call) → Known (heap_after n rules xs).holder
unfolding new_heap
known-after n rules xs = known_from n (new_heap rules) xs (record { at = λ y. refl })
