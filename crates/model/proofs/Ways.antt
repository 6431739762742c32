-- Where a call goes, by its host word and the class that it names.
--     goes       the way of a call, with its reason
--     host-of    a call of a class brings its request's host word
use Rattle.facts.proofs.Prelude.{ℕ, ◌+◌, Bool, true, false, cond, Option, none, some, Option·none-ne-some, ◌≡◌, refl, ap, ltb}
use Rattle.words.specs.Host.{bad_host}
use Rattle.classes.specs.Shape.{class_count, pool_id}
use Rattle.model.specs.Calls as Calls
use Rattle.model.specs.Calls.{Call, Named, named, names, host_in, Request, host_of, Way, turned, straight, to_class, way_to, way_of}

pub data Goes (x : Call) : Way → Type 0 where
  is_turned : bad_host (host_in x) ≡ true → Goes x turned
  is-straight : bad_host (host_in x) ≡ false → names x ≡ none → Goes x straight
  is-class : (d : Named) → bad_host (host_in x) ≡ false → names x ≡ some d → Goes x (to_class d)

pub goes : (x : Call) → Goes x (way_of x)
unfolding way_of
goes x = by_both (bad_host (host_in x)) (names x) refl refl
  where
    by_both : (t : Bool) (d : Option Named) → bad_host (host_in x) ≡ t → names x ≡ d → Goes x (cond t turned (way_to d))
    by_both true d e f = is_turned e
    by_both false none e f = is-straight e f
    by_both false (some d) e f = is-class d e f

-- ---- a call of a class brings its request's host word
named-host : (t : Bool) (c : ℕ) (r : Request) (d : Named) → named t c r ≡ some d → host_of r ≡ host_of d.request
named-host true c r d e = let z : record { class = c; request = r } ≡ d = cc in ap (λ (x : Named). host_of x.request) z
named-host false c r d e = absurd (Option·none-ne-some d e)

pub host_of_lem : (x : Call) (d : Named) → names x ≡ some d → host_in x ≡ host_of d.request
host_of_lem (Calls.take_blocks c h l) d e = named-host (ltb c 64) c _ d e
host_of_lem (Calls.medium_take_blocks c h l) d e = named-host (ltb c 12) (64 + c) _ d e
host_of_lem (Calls.release_blocks c h ws) d e = named-host (ltb c 64) c _ d e
host_of_lem (Calls.medium_release_blocks c h ws) d e = named-host (ltb c 12) (64 + c) _ d e
host_of_lem (Calls.pooled_take c h l) d e = named-host (ltb c class_count) (pool_id c) _ d e
host_of_lem (Calls.pooled_release c h ws) d e = named-host (ltb c class_count) (pool_id c) _ d e
host_of_lem (Calls.release_bin_chunks c h ws gs fs) d e = named-host (ltb c 64) c _ d e
host_of_lem (Calls.commit h m) d e = absurd (Option·none-ne-some d e)
host_of_lem (Calls.grow_frontier h q old new) d e = absurd (Option·none-ne-some d e)
host_of_lem (Calls.release h q m) d e = absurd (Option·none-ne-some d e)
host_of_lem (Calls.contains o k) d e = absurd (Option·none-ne-some d e)
host_of_lem Calls.report d e = absurd (Option·none-ne-some d e)
