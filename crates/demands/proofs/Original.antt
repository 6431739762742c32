-- The exported calls answer as document 01's own rules do, as far as document 02 claims it: their answers are the model's.
use Rattle.facts.proofs.Prelude.{ℕ, suc, ◌*◌, ◌^◌, ◌≤◌, ◌<◌, arith, Bool, true, ◌&&◌, List, ◌++◌, append_assoc, ◌≡◌, ap, ◌∙◌}
use Rattle.facts.proofs.Prelude.{subst, leb, ltb, length, take, le-leb, lt-leb, lt-ltb, le-ltb, leb-true, is_nil, bool_eq}
use Rattle.classes.specs.declared.Sized.TheVariants.{Small, Medium}
use Rattle.classes.specs.Sizes.{max_small_size, max_medium_size, page_bytes}
use Rattle.classes.specs.Lookup.{size_class, class_for_size, medium_class_for_size}
use Rattle.classes.specs.Shape.{shape_of, class_count}
use Rattle.rules.specs.declared.Limits.{Limits}
use Rattle.rules.specs.Rules.{Rules, limits, plain_rules}
use Rattle.model.specs.Calls.{Call}
use Rattle.model.specs.History.{answers}
use Rattle.model.specs.Original.{original_answers}
use Rattle.model.proofs.Original as Model
use Rattle.refinement.specs.Run.{answers_in}
use Rattle.demands.specs.Start.{Start, pages, rule_rows, rules, lent, did, Starts, calls, replies}
use Rattle.demands.specs.Parking.{goes_to}
use Rattle.demands.specs.Original.{Equality, SameLookups}
use Rattle.demands.proofs.Histories.{run-answers}
use Rattle.demands.proofs.Starts.{as_opening}
use Rattle.demands.proofs.Parking.{parking}

-- 8 MiB are 128 pages
mebibytes : (n : ℕ) → leb n 128 ≡ leb (n * page_bytes) (8 * 2 ^ 20)
mebibytes n =
    bool_eq (leb n 128) (leb (n * page_bytes) (8 * 2 ^ 20))
    (λ t. le-leb (n * page_bytes) (8 * 2 ^ 20) (omega (arith, leb-true n 128 t)))
    (λ t. le-leb n 128 (omega (arith, leb-true (n * page_bytes) (8 * 2 ^ 20) t)))

-- document 01's limits of a class
small_plain : (c : ℕ) → c < 64 → plain_rules c ≡ limits 4 256
unfolding plain_rules
small_plain c h = rw (lt-ltb c class_count (omega arith), lt-ltb c 64 h)

medium-plain : (c : ℕ) → 64 ≤ c → c < class_count → plain_rules c ≡ limits 32 256
unfolding plain_rules
medium-plain c h l = rw (lt-ltb c class_count l, le-ltb c 64 h)

module _ (s : Start) (o : Starts s) (none : is_nil (rule_rows s) ≡ true) where
  plain : rules s ≡ plain_rules
  plain = (parking s o).no_rows none

  plain-answers : (xs : List Call) → answers_in (replies s xs) ≡ answers (pages s) plain_rules (calls s xs)
  plain-answers xs =
      ap answers_in (as_opening s o xs).answers ∙ run-answers (pages s) (rule_rows s) (lent s) o (calls s xs)
      ∙ ap (λ (r : Rules). answers (pages s) r (calls s xs)) plain

  pub equality : Equality s
  equality = record {
    answered = λ xs g. plain-answers xs ∙ (Model.equality (pages s) (calls s xs)).answered g;
    before = λ xs ys g.
        let first : (zs : List Call) → Type 0 = λ zs. take (length (calls s xs)) (answers (pages s) plain_rules zs) ≡ take (length (calls s xs)) (original_answers (pages s) zs) in
        ap (take (length (calls s xs))) (plain-answers (xs ++ ys)) ∙ subst first (append_assoc (did s) xs ys) ((Model.equality (pages s) (calls s xs)).before ys g);
    limits = λ c e k h. (parking s o).kept c e k h ∙ ap (λ (l : Limits). goes_to (ltb e l.empty) (ltb k l.cold)) (ap (λ (r : Rules). r c) plain ∙ small_plain c h);
    span_limits = λ c e k h l.
        (parking s o).kept_spans c e k h l
        ∙ ap (λ (l : Limits). goes_to (ltb e l.empty && leb (suc e * (shape_of c).pages) 128) (ltb k l.cold)) (ap (λ (r : Rules). r c) plain ∙ medium-plain c h l)
        ∙ ap (λ (b : Bool). goes_to (ltb e 32 && b) (ltb k 256)) (mebibytes (suc e * (shape_of c).pages));
  }

-- the lookups
small-lookup : (size : ℕ) → size ≤ max_small_size → size_class size ≡ Small (class_for_size size)
unfolding size_class class_for_size
small-lookup size h = rw (le-leb size max_small_size h)

medium-lookup : (size : ℕ) → max_small_size < size → size ≤ max_medium_size → size_class size ≡ Medium (medium_class_for_size size)
unfolding size_class medium_class_for_size
medium-lookup size l h = rw (lt-leb size max_small_size l, le-leb size max_medium_size h, lt-ltb max_small_size size l)

pub same_lookups : SameLookups
same_lookups = record { small = λ size r c c' h t. rw (small-lookup size h) at t; medium = λ size r c c' l h t. rw (medium-lookup size l h) at t }
