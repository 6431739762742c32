-- What of the representation a change leaves alone.
--     Ties            a page's links are as they were
--     Keeps               a page of a class is as it was, and the class's
--     class-now           a class whose row and listed pages are as they were, with other pages in no list
--     class-kept          a class that is as it was
--     other-class-kept    what changes only words of class d leaves every other class alone
use Rattle.facts.proofs.Prelude.{ℕ, suc, ◌+◌, ◌≤◌, arith, Bool, true, false, cond, List, [], ◌∷◌, ◌++◌, inl, inr, ◌≡◌, refl}
use Rattle.facts.proofs.Prelude.{ap, ◌∙◌, eqb, ltb, leb, eqb·zero-suc, ne_eqb, lt-ltb, ltb-true, All, count, by_cases}
use Rattle.words.specs.Limits.{class_rows}
use Rattle.classes.specs.declared.Shape.{Shape}
use Rattle.classes.specs.way.Sound.{Sound}
use Rattle.fields.specs.Field.{ClassField, class, page, partial, owner, next, prev, listed, get, class_off}
use Rattle.model.specs.Page.{Page}
use Rattle.model.proofs.Pages.{all_append}
use Rattle.words.specs.Host.{digit}
use Rattle.pages.specs.Runs.{whole}
use Rattle.pages.proofs.Runs.{whole-owner}
use Rattle.pages.proofs.Kept.{Body, changes-body, whole-kept}
use Rattle.pages.specs.Stack.{out_bit}
use Rattle.pages.specs.declared.Park.{Park}
use Rattle.pages.specs.Links.{other, top, stored}
use Rattle.refinement.specs.way.Chain.{In, Chain, Line, Stack}
use Rattle.refinement.specs.way.Represents.{Holds, PageRep, Parked, firsts, heads, ClassRep}
use Rattle.refinement.proofs.Lists.{segment_kept, in_count, all-along}
use Rattle.refinement.proofs.Frames.{Only, only-owns, out_bit-kept, slots_kept}

pub record Ties (q : ℕ) (b b' : List ℕ) : Type 0 where
  pub fore : get b' (page next q) ≡ get b (page next q)
  pub back : get b' (page prev q) ≡ get b (page prev q)

pub record Keeps (n : ℕ) (sh : Shape) (c : ℕ) (b b' : List ℕ) (q : ℕ) : Type 0 where
  pub body : Body q b b'
  pub listing : get b' (page listed q) ≡ get b (page listed q)
  pub ties : Ties q b b'
  pub run : whole n b' sh c q ≡ true

-- ---- one page
pub out_bit-same : {sh : Shape} → Sound sh → {b b' : List ℕ} {q : ℕ} → Body q b b' → (i : ℕ) → out_bit b' sh q i ≡ out_bit b sh q i
out_bit-same {sh} sound {b} {b'} {q} y i = out_bit-kept b b' sh q i (λ e. y.outs i (lt-ltb i 4096 (omega (arith, ltb-true i sh.capacity e, sound.few))))

module _ {n : ℕ} {sh : Shape} (sound : Sound sh) {c : ℕ} {b b' : List ℕ} where
  -- as it was, but for the list that it is in
  pub holds-moved : {l l' q : ℕ} {xs : List ℕ} {k : ℕ} {v : Bool} → Body q b b' → get b' (page listed q) ≡ l' → whole n b' sh c q ≡ true
      → Holds n sh b c l q xs k v → Holds n sh b' c l' q xs k v
  holds-moved {q = q} {xs = xs} y e w h = record {
    run = w;
    listing = e;
    height = y.free ∙ h.height;
    slots = slots_kept b b' q xs y.slots h.slots;
    ready = y.carved ∙ h.ready;
    clean = y.virgin ∙ h.clean;
    within = h.within;
    outs = λ i. ap (λ z. z + count i xs) (out_bit-same sound y i) ∙ h.outs i;
    unmarked = λ j u. y.marks j (lt-ltb j 128 (omega (arith, sound.few))) ∙ h.unmarked j u;
  }

  pub rep-moved : {l l' : ℕ} {p : Page} → Body p.first b b' → get b' (page listed p.first) ≡ l' → whole n b' sh c p.first ≡ true
      → PageRep n sh b c l p → PageRep n sh b' c l' p
  rep-moved y e w r = record { stack = r.stack; names = r.names; holds = holds-moved y e w r.holds }

  pub rep-kept : {l : ℕ} {p : Page} → Body p.first b b' → get b' (page listed p.first) ≡ get b (page listed p.first) → whole n b' sh c p.first ≡ true
      → PageRep n sh b c l p → PageRep n sh b' c l p
  rep-kept y e w r = rep-moved y (e ∙ r.holds.listing) w r

  pub parked-kept : {p : Page} → Body p.first b b' → get b' (page listed p.first) ≡ get b (page listed p.first) → whole n b' sh c p.first ≡ true
      → Parked n sh b c p → Parked n sh b' c p
  parked-kept y e w r = record { rep = rep-kept y e w r.rep; idle = λ i. out_bit-same sound y i ∙ r.idle i }

-- ---- linked lists
pub line_kept : (b b' : List ℕ) (h : ℕ) (xs : List ℕ) → ((x : ℕ) → In x xs → get b' (page next x) ≡ get b (page next x)) → Line b h xs → Line b' h xs
line_kept b b' h [] k s = s
line_kept b b' h (x ∷ xs) k s = (s.0, rw (k x (inl refl)) (line_kept b b' (get b (page next x)) xs (λ z i. k z (inr i)) s.1))

module _ {b b' : List ℕ} {c : ℕ} {xs : List ℕ} where
  pub stack-kept : {k : Park} → get b' (class (top k) c) ≡ get b (class (top k) c) → get b' (class (stored k) c) ≡ get b (class (stored k) c)
      → ((x : ℕ) → In x xs → get b' (page next x) ≡ get b (page next x)) → Stack b c k xs → Stack b' c k xs
  stack-kept {k = k} e f g s = record { line = rw e (line_kept b b' (get b (class (top k) c)) xs g s.line); number = f ∙ s.number; few = s.few }

  pub chain-kept : {n : ℕ} → get b' (class partial c) ≡ get b (class partial c) → ((x : ℕ) → In x xs → Ties x b b') → Chain n b c xs → Chain n b' c xs
  chain-kept e k s = record {
    links = rw e (segment_kept b b' 0 (get b (class partial c)) xs 0 (λ x i. ((k x i).back, (k x i).fore)) s.links);
    distinct = s.distinct;
    below = s.below;
  }

-- ---- a class
module _ {n : ℕ} {b : List ℕ} {c : ℕ} {sh : Shape} (sound : Sound sh) {k : Park} {ps xs ys gs : List Page} (r : ClassRep n b c sh k ps xs ys gs) where
  -- its row is as it was, and so are the pages of its lists, and those pages fs that are in none; to these come others
  pub class-now : {b' : List ℕ} (fs new : List Page) → ((f : ClassField) → get b' (class f c) ≡ get b (class f c))
      → ((x : ℕ) → 1 ≤ heads x ps + heads x xs + heads x ys + heads x fs → Keeps n sh c b b' x)
      → All (PageRep n sh b c 0) fs → All (PageRep n sh b' c 0) new
      → ((x : ℕ) → heads x ps + heads x xs + heads x ys + heads x (new ++ fs) ≡ digit (whole n b' sh c x)) → ClassRep n b' c sh k ps xs ys (new ++ fs)
  class-now {b'} fs new row keep old come runs =
      let kp : (x : ℕ) → In x (firsts ps) → Keeps n sh c b b' x = λ x i. keep x (omega (arith, in_count x (firsts ps) i)) in
      let kx : (x : ℕ) → In x (firsts xs) → Keeps n sh c b b' x = λ x i. keep x (omega (arith, in_count x (firsts xs) i)) in
      let ky : (x : ℕ) → In x (firsts ys) → Keeps n sh c b b' x = λ x i. keep x (omega (arith, in_count x (firsts ys) i)) in
      let kf : (x : ℕ) → In x (firsts fs) → Keeps n sh c b b' x = λ x i. keep x (omega (arith, in_count x (firsts fs) i)) in
      record {
        chain = chain-kept (row partial) (λ x i. (kp x i).ties) r.chain;
        store = stack-kept (row (top k)) (row (stored k)) (λ x i. (kx x i).ties.fore) r.store;
        beside = stack-kept (row (top (other k))) (row (stored (other k))) (λ x i. (ky x i).ties.fore) r.beside;
        partials = all-along _ _ ps (λ p i. let z = kp p.first i in rep-kept sound z.body z.listing z.run) r.partials;
        parked = all-along _ _ xs (λ p i. let z = kx p.first i in parked-kept sound z.body z.listing z.run) r.parked;
        parkeds = all-along _ _ ys (λ p i. let z = ky p.first i in parked-kept sound z.body z.listing z.run) r.parkeds;
        fulls = all_append (PageRep n sh b' c 0) new fs come
            (all-along _ _ fs (λ p i. let z = kf p.first i in rep-kept sound z.body z.listing z.run) old);
        runs = runs;
      }

  -- a page of a list is the class's
  pub listed-whole : (x : ℕ) → 1 ≤ heads x ps + heads x xs + heads x ys + heads x gs → whole n b sh c x ≡ true
  listed-whole x h = go (whole n b sh c x) (omega (arith, r.runs x))
    where
      go : (t : Bool) → 1 ≤ digit t → t ≡ true
      go true l = refl
      go false l = absurd (omega arith)

  pub class-kept : {b' : List ℕ} → ((f : ClassField) → get b' (class f c) ≡ get b (class f c)) → ((x : ℕ) → whole n b' sh c x ≡ whole n b sh c x)
      → ((x : ℕ) → whole n b sh c x ≡ true → Keeps n sh c b b' x) → ClassRep n b' c sh k ps xs ys gs
  class-kept row same keep = class-now gs [] row (λ x h. keep x (listed-whole x h)) r.fulls tt (λ x. rw (same x) (r.runs x))

-- ---- two classes
-- a page of class c stays as it is under a change of words of class d only
module _ (c d : ℕ) (ne : c ≡ d → ⊥) {b b' : List ℕ} (h : Only d b b') (q : ℕ) (o : get b (page owner q) ≡ suc c) where
  far : eqb (get b (page owner q)) (suc d) ≡ false
  far = rw o (ne_eqb (suc c) (suc d) (λ z. ne (omega arith)))

  pub keeps-far : {n : ℕ} {sh : Shape} → whole n b' sh c q ≡ true → Keeps n sh c b b' q
  keeps-far w = record {
    body = changes-body h q far far far (λ i. far) (λ i. far) (λ j. far);
    listing = h.kept (page listed q) refl far;
    ties = record { fore = h.kept (page next q) refl far; back = h.kept (page prev q) refl far };
    run = w;
  }

pub other_class_kept : {n : ℕ} {b b' : List ℕ} (c d : ℕ) {sh : Shape} {k : Park} {ps xs ys fs : List Page} → Sound sh → ltb c class_rows ≡ true → (c ≡ d → ⊥)
    → Only d b b' → ClassRep n b c sh k ps xs ys fs → ClassRep n b' c sh k ps xs ys fs
other_class_kept {n} {b} c d {sh} sound row ne h r =
    let own = only-owns d h in
    class-kept sound r (λ f. h.kept (class f c) row (not-its f)) (whole-kept own n sh c)
    (λ x e. keeps-far c d ne h x (whole-owner n b sound c x e) (whole-kept own n sh c x ∙ e))
  where
    not-its : (f : ClassField) → eqb (cond (leb (class_off f) 4) (suc c) 0) (suc d) ≡ false
    not-its f = by_cases (leb (class_off f) 4) (λ e. rw e (ne_eqb (suc c) (suc d) (λ z. ne (omega arith)))) (λ e. rw e (eqb·zero-suc d))
