-- Placing a chunk's page leaves the words that placing another reads in their ranges: each code written is the page's own, 0, or one that
-- passed its test, and a store's count grows only below its limit.
--     Row, Ties       what `row_valid` and `links_valid` test, as bounds
--     Steady b c b'   b' has the length and FRONTIER of b, the class's row is in range, and so are a page's links wherever they were in b
--     put-code ..     one write keeps a steady book so
--     link-steady ..  the steps on the class's lists
--     placed-steady   one chunk's page placed
--     pre-kept        what placing a page asks, on a steady book
use Rattle.facts.proofs.Prelude.{ℕ, zero, suc, ◌+◌, ◌≤◌, ◌<◌, arith, Bool, true, false, cond, ◌&&◌, ◌||◌, List, ◌⊎◌, inl, inr, ⊎_elim, ◌≡◌, refl, sym, ◌∙◌, eqb, ltb, leb, length}
use Rattle.facts.proofs.Prelude.{get_or, set, get_or-set_same, get_or-set_other, set_out, leb-true, ltb-true, eqb-true, eqb-false, le-leb, lt-ltb, eq-eqb, ne_eqb, and_left, and_right}
use native.Mathlib.Decide.{dec_le}
use Rattle.words.specs.Limits.{class_rows}
use Rattle.classes.specs.declared.Shape.{Shape}
use Rattle.classes.specs.way.Sound.{Sound}
use Rattle.rules.specs.Rules.{Fit}
use Rattle.fields.specs.Field.{Field, PageField, arena, class, page, word, part, whole, region, off, frontier, partial, empty_limit, cold_limit, next, prev, free, carved, listed, virgin, words, get, put, ok}
use Rattle.fields.specs.Outcome.{put_at}
use Rattle.fields.specs.Ranges.{max_parked}
use Rattle.fields.proofs.Laws.{get_put_same, get-put_other, length-put}
use Rattle.fields.proofs.Changes.{differ, Changes, changes-none, changes-put}
use Rattle.pages.specs.declared.Park.{Park}
use Rattle.pages.specs.declared.Park.TheVariants.{Empty, Cold}
use Rattle.pages.specs.Links.{point_next, linked, cut_out, link, unlink, top, stored, park_run}
use Rattle.pages.specs.Carve.{carve_anew}
use Rattle.pages.proofs.Frames.{changes-carve}
use Rattle.model.specs.declared.Destination.{Destination}
use Rattle.model.specs.declared.Destination.TheVariants.{ToEmpty, ToCold, ToArena}
use Rattle.model.specs.Destination.{is_empty, is_cold}
use Rattle.calls.specs.Release.{row_valid, unlisted, relisted, released, destination_at, parked_in, park_at, emptied, set_retired}
use Rattle.pages.specs.Valid.{links_valid, store_valid, limits_at}
use Rattle.release.specs.way.Act.{cold_virgin, ParkingPre}
use Rattle.release.proofs.ValidSteps.{count_low, limits-low}
use Rattle.release.proofs.Destinations.{empty-room, cold-room}
use Rattle.release.proofs.ParkSteps.{unlisted-changes}
use Rattle.chunks.specs.way.Pass.{place_at}

-- ---- the tests as bounds
pub record Row (b : List ℕ) (c : ℕ) : Type 0 where
  pub head : get b (class partial c) ≤ get b (arena frontier)
  pub tops : (k : Park) → get b (class (top k) c) ≤ get b (arena frontier)
  pub counts : (k : Park) → get b (class (stored k) c) ≤ max_parked
  pub limits : Fit (limits_at b c)

abbrev pub Ties : List ℕ → ℕ → Type 0
Ties b x = get b (page listed x) ≡ 1 → (get b (page next x) ≤ get b (arena frontier)) × (get b (page prev x) ≤ get b (arena frontier))

module _ (b : List ℕ) (c : ℕ) where
  row_in : Row b c → row_valid b c ≡ true
  unfolding row_valid
  row_in r =
      let f = get b (arena frontier) in
      rw (le-leb _ f r.head, le-leb _ f (r.tops Empty), le-leb _ max_parked (r.counts Empty), le-leb _ f (r.tops Cold), le-leb _ max_parked (r.counts Cold), le-leb _ max_parked r.limits.empty, le-leb _ max_parked r.limits.cold)

  pub row_out : row_valid b c ≡ true → Row b c
  unfolding row_valid
  row_out e =
      let f = get b (arena frontier) in
      let e₁ = and_right (leb (get b (class partial c)) f) _ e in
      let e₂ = and_left (store_valid b c Empty) _ e₁ in
      let e₃ = and_left (store_valid b c Cold) _ (and_right (store_valid b c Empty) _ e₁) in
      record {
        head = leb-true _ f (and_left _ _ e);
        tops = λ k. elim k as (λ k. get b (class (top k) c) ≤ f) [ Empty ↦ leb-true _ f (and_left _ _ e₂) | Cold ↦ leb-true _ f (and_left _ _ e₃) ];
        counts = λ k. count_low b c k e;
        limits = limits-low b c e;
      }

module _ (b : List ℕ) (x : ℕ) where
  ties_in : Ties b x → links_valid b x ≡ true
  ties_in h = by (eqb (get b (page listed x)) 1) refl
    where
      by : (t : Bool) → eqb (get b (page listed x)) 1 ≡ t
          → cond t (leb (get b (page next x)) (get b (arena frontier)) && leb (get b (page prev x)) (get b (arena frontier))) true ≡ true
      by true e =
          let z = h (eqb-true (get b (page listed x)) 1 e) in
          rw (le-leb _ (get b (arena frontier)) z.0, le-leb _ (get b (arena frontier)) z.1)
      by false e = refl

  pub ties-out : links_valid b x ≡ true → Ties b x
  ties-out e h =
      let z = rw (eq-eqb (get b (page listed x)) 1 h) at e in
      (leb-true _ (get b (arena frontier)) (and_left _ _ z), leb-true _ (get b (arena frontier)) (and_right (leb (get b (page next x)) (get b (arena frontier))) _ z))

-- ---- one write leaves a word as it was, or leaves the value there
le_or_lt : (m n : ℕ) → (m ≤ n) ⊎ (n < m)
le_or_lt m n = elim (dec_le m n) [ yes h ↦ inl h | no h ↦ inr (omega arith) ]

same_place : (b : List ℕ) (i v m : ℕ) → v ≤ m → get_or b i 0 ≤ m → (length b ≤ i) ⊎ (i < length b) → get_or (set b i v) i 0 ≤ m
same_place b i v m l h (inl z) = rw (set_out b i v z) h
same_place b i v m l h (inr z) = rw (get_or-set_same b i v 0 z) l

set-low : (b : List ℕ) (i j v m : ℕ) → v ≤ m → get_or b j 0 ≤ m → get_or (set b i v) j 0 ≤ m
set-low b i j v m l h = by (eqb j i) refl
  where
    by : (t : Bool) → eqb j i ≡ t → get_or (set b i v) j 0 ≤ m
    by true e = let z : j ≡ i = eqb-true j i e in rw z (same_place b i v m l (rw z at h) (le_or_lt (length b) i))
    by false e = rw (get_or-set_other b i j v 0 (eqb-false j i e)) h

low-put : (b : List ℕ) (f g : Field) (v m : ℕ) → part f ≡ whole → part g ≡ whole → v ≤ m → get b g ≤ m → get (put b f v) g ≤ m
unfolding get put
low-put b f g v m p q l h = rw (p, q) (set-low b (word f) (word g) v m l (rw q at h))

same_word : (b : List ℕ) (i v : ℕ) → get_or (set b i v) i 0 ≡ 1 → (length b ≤ i) ⊎ (i < length b) → (get_or b i 0 ≡ 1) ⊎ (v ≡ 1)
same_word b i v h (inl z) = inl (rw (set_out b i v z) at h)
same_word b i v h (inr z) = inr (rw (get_or-set_same b i v 0 z) at h)

same-page : (b : List ℕ) (q v : ℕ) → get (put b (page listed q) v) (page listed q) ≡ 1 → (get b (page listed q) ≡ 1) ⊎ (v ≡ 1)
unfolding get put
same-page b q v h = same_word b (word (page listed q)) v h (le_or_lt (length b) (word (page listed q)))

listed-put : (b : List ℕ) (q x v : ℕ) → get (put b (page listed q) v) (page listed x) ≡ 1 → (get b (page listed x) ≡ 1) ⊎ ((v ≡ 1) × (x ≡ q))
listed-put b q x v h = by (eqb x q) refl
  where
    by : (t : Bool) → eqb x q ≡ t → (get b (page listed x) ≡ 1) ⊎ ((v ≡ 1) × (x ≡ q))
    by true e =
        let z : x ≡ q = eqb-true x q e in
        ⊎_elim (λ u. inl (rw z u)) (λ u. inr (u, z)) (same-page b q v (rw z at h))
    by false e = inl (sym (get-put_other b (page listed q) (page listed x) v refl refl (ne_eqb q x (λ z. eqb-false x q e (sym z)))) ∙ h)

-- ---- what placing keeps
pub record Steady (b : List ℕ) (c : ℕ) (b' : List ℕ) : Type 0 where
  pub long : length b' ≡ length b
  pub low : get b' (arena frontier) ≡ get b (arena frontier)
  pub row : Row b' c
  pub links : (x : ℕ) → Ties b x → Ties b' x

-- codes, counts and flags that are read; all else of pages is not
abbrev is_code : Field → Bool
is_code f = (eqb (region f) 4 && (eqb (off f) 2 || eqb (off f) 3)) || (eqb (region f) 2 && (eqb (off f) 0 || (eqb (off f) 1 || eqb (off f) 3)))

abbrev is_count : Field → Bool
is_count f = eqb (region f) 2 && (eqb (off f) 2 || eqb (off f) 4)

abbrev is_listed : Field → Bool
is_listed f = eqb (region f) 4 && eqb (off f) 6

abbrev is_body : Field → Bool
is_body f = leb 5 (region f) || (eqb (region f) 4 && (eqb (off f) 4 || (eqb (off f) 5 || eqb (off f) 7)))

no_code : (k : Park) (c : ℕ) → is_code (class (stored k) c) ≡ false
no_code Empty c = refl
no_code Cold c = refl

no-count : (k : Park) (c : ℕ) → is_count (class (top k) c) ≡ false
no-count Empty c = refl
no-count Cold c = refl

code-top : (k : Park) (c : ℕ) → is_code (class (top k) c) ≡ true
code-top Empty c = refl
code-top Cold c = refl

count-tally : (k : Park) (c : ℕ) → is_count (class (stored k) c) ≡ true
count-tally Empty c = refl
count-tally Cold c = refl

module _ (b : List ℕ) (c : ℕ) (hc : ltb c class_rows ≡ true) where
  pub steady-none : Row b c → Steady b c b
  steady-none r = record { long = refl; low = refl; row = r; links = λ x h. h }

  module _ (b' : List ℕ) (s : Steady b c b') where
    -- writes to what is not read here
    still-steady : (b'' : List ℕ) → Changes is_body b' b'' → Steady b c b''
    still-steady b'' k =
        let kept = k.kept in
        let e = kept (arena frontier) refl refl in
        record {
          long = k.long ∙ s.long;
          low = e ∙ s.low;
          row = record {
            head = rw (e, kept (class partial c) hc refl) s.row.head;
            tops = λ j. rw (e, kept (class (top j) c) hc refl) (s.row.tops j);
            counts = λ j. rw (kept (class (stored j) c) hc refl) (s.row.counts j);
            limits = rw (kept (class empty_limit c) hc refl, kept (class cold_limit c) hc refl) s.row.limits;
          };
          links = λ x h d.
              let z = s.links x h (sym (kept (page listed x) refl refl) ∙ d) in
              rw (e, kept (page next x) refl refl, kept (page prev x) refl refl) z;
        }

    pub virgin-steady : (q : ℕ) → Steady b c (put b' (page virgin q) 0)
    virgin-steady q = still-steady _ (changes-put is_body b' b' (page virgin q) 0 refl refl (changes-none is_body b'))

    pub emptied-steady : (q : ℕ) → Steady b c (emptied b' q)
    unfolding emptied
    emptied-steady q = still-steady _ (changes-put is_body b' _ (page free q) 0 refl refl (changes-put is_body b' b' (page carved q) 0 refl refl (changes-none is_body b')))

    put-code : (f : Field) (v : ℕ) → ok f ≡ true → part f ≡ whole → is_code f ≡ true → v ≤ get b (arena frontier) → Steady b c (put b' f v)
    put-code f v o w t l =
        let kept : (g : Field) → ok g ≡ true → is_code g ≡ false → get (put b' f v) g ≡ get b' g = λ g k d. get-put_other b' f g v o k (differ is_code f g t d) in
        let e = kept (arena frontier) refl refl in
        let m : v ≤ get b' (arena frontier) = rw s.low l in
        let below : (g : Field) → part g ≡ whole → get b' g ≤ get b' (arena frontier) → get (put b' f v) g ≤ get (put b' f v) (arena frontier) = λ g z h. rw e (low-put b' f g v _ w z m h) in
        record {
          long = length-put b' f v ∙ s.long;
          low = e ∙ s.low;
          row = record {
            head = below (class partial c) refl s.row.head;
            tops = λ j. below (class (top j) c) refl (s.row.tops j);
            counts = λ j. rw (kept (class (stored j) c) hc (no_code j c)) (s.row.counts j);
            limits = rw (kept (class empty_limit c) hc refl, kept (class cold_limit c) hc refl) s.row.limits;
          };
          links = λ x h d.
              let z = s.links x h (sym (kept (page listed x) refl refl) ∙ d) in
              (below (page next x) refl z.0, below (page prev x) refl z.1);
        }

    put_count_lem : (k : Park) (v : ℕ) → v ≤ max_parked → Steady b c (put b' (class (stored k) c) v)
    put_count_lem k v l =
        let f = class (stored k) c in
        let kept : (g : Field) → ok g ≡ true → is_count g ≡ false → get (put b' f v) g ≡ get b' g = λ g o d. get-put_other b' f g v hc o (differ is_count f g (count-tally k c) d) in
        let e = kept (arena frontier) refl refl in
        record {
          long = length-put b' f v ∙ s.long;
          low = e ∙ s.low;
          row = record {
            head = rw (e, kept (class partial c) hc refl) s.row.head;
            tops = λ j. rw (e, kept (class (top j) c) hc (no-count j c)) (s.row.tops j);
            counts = λ j. low-put b' f (class (stored j) c) v max_parked refl refl l (s.row.counts j);
            limits = rw (kept (class empty_limit c) hc refl, kept (class cold_limit c) hc refl) s.row.limits;
          };
          links = λ x h d.
              let z = s.links x h (sym (kept (page listed x) refl refl) ∙ d) in
              rw (e, kept (page next x) refl refl, kept (page prev x) refl refl) z;
        }

    -- a page that comes to be listed has links in range
    put-listed : (q v : ℕ) → (v ≡ 1 → (get b' (page next q) ≤ get b' (arena frontier)) × (get b' (page prev q) ≤ get b' (arena frontier))) → Steady b c (put b' (page listed q) v)
    put-listed q v t =
        let f = page listed q in
        let kept : (g : Field) → ok g ≡ true → is_listed g ≡ false → get (put b' f v) g ≡ get b' g = λ g o d. get-put_other b' f g v refl o (differ is_listed f g refl d) in
        let e = kept (arena frontier) refl refl in
        record {
          long = length-put b' f v ∙ s.long;
          low = e ∙ s.low;
          row = record {
            head = rw (e, kept (class partial c) hc refl) s.row.head;
            tops = λ j. rw (e, kept (class (top j) c) hc refl) (s.row.tops j);
            counts = λ j. rw (kept (class (stored j) c) hc refl) (s.row.counts j);
            limits = rw (kept (class empty_limit c) hc refl, kept (class cold_limit c) hc refl) s.row.limits;
          };
          links = λ x h d. rw (e, kept (page next x) refl refl, kept (page prev x) refl refl) (by x h (listed-put b' q x v d));
        }
      where
        by : (x : ℕ) → Ties b x → (get b' (page listed x) ≡ 1) ⊎ ((v ≡ 1) × (x ≡ q)) → (get b' (page next x) ≤ get b' (arena frontier)) × (get b' (page prev x) ≤ get b' (arena frontier))
        by x h (inl z) = s.links x h z
        by x h (inr z) = rw z.1 (t z.0)

    put-at : (k : PageField) (code v : ℕ) → ((x : ℕ) → is_code (page k x) ≡ true) → v ≤ get b (arena frontier) → Steady b c (put_at b' k code v)
    put-at k zero v t l = s
    put-at k (suc x) v t l = put-code (page k x) v refl refl (t x) l

    point_steady : (y x : ℕ) → x ≤ get b (arena frontier) → Steady b c (point_next b' c y x)
    point_steady zero x l = put-code (class partial c) x hc refl refl l
    point_steady (suc y) x l = put-code (page next y) x refl refl refl l

at_low : (b : List ℕ) (k : PageField) (code v : ℕ) (g : Field) (m : ℕ) → part g ≡ whole → v ≤ m → get b g ≤ m → get (put_at b k code v) g ≤ m
at_low b k zero v g m p l h = h
at_low b k (suc x) v g m p l h = low-put b (page k x) g v m refl p l h

-- ---- the class's lists
module _ (b : List ℕ) (c : ℕ) (hc : ltb c class_rows ≡ true) (q : ℕ) (hq : q < get b (arena frontier)) (there : words (q + 1) ≤ length b) (b' : List ℕ) (s : Steady b c b') where
  there' : leb (words (q + 1)) (length b') ≡ true
  there' = le-leb _ (length b') (omega (arith, s.long))

  link-steady : Steady b c (link b' c q)
  unfolding link linked
  link-steady =
      let f = get b (arena frontier) in
      let h = get b' (class partial c) in
      let lh : h ≤ f = rw s.low at s.row.head in
      let lq : q + 1 ≤ f = omega arith in
      let b₁ = put b' (page next q) h in
      let b₂ = put b₁ (page prev q) 0 in
      let b₃ = put_at b₂ prev h (q + 1) in
      let b₄ = put b₃ (class partial c) (q + 1) in
      let s₁ = put-code b c hc b' s (page next q) h refl refl refl lh in
      let s₂ = put-code b c hc b₁ s₁ (page prev q) 0 refl refl refl (omega arith) in
      let s₃ = put-at b c hc b₂ s₂ prev h (q + 1) (λ x. refl) lq in
      let s₄ = put-code b c hc b₃ s₃ (class partial c) (q + 1) hc refl refl lq in
      let later : (g : Field) → part g ≡ whole → get b₂ g ≤ f → get b₄ g ≤ get b₄ (arena frontier) =
      λ g p z. rw s₄.low (low-put b₃ (class partial c) g (q + 1) f refl p lq (at_low b₂ prev h (q + 1) g f p lq z)) in
      let n₁ : get b₁ (page next q) ≤ f = rw (get_put_same (q + 1) b' (page next q) h there' (lt-ltb q (q + 1) (omega arith)) refl) lh in
      let n₂ : get b₂ (page next q) ≤ f = low-put b₁ (page prev q) (page next q) 0 f refl refl (omega arith) n₁ in
      let p₂ : get b₂ (page prev q) ≤ f = rw (get_put_same (q + 1) b₁ (page prev q) 0 (rw (length-put b' (page next q) h) there') (lt-ltb q (q + 1) (omega arith)) refl) (omega arith) in
      put-listed b c hc b₄ s₄ q 1 (λ z. (later (page next q) refl n₂, later (page prev q) refl p₂))

  unlink-steady : get b' (page next q) ≤ get b (arena frontier) → get b' (page prev q) ≤ get b (arena frontier) → Steady b c (unlink b' c q)
  unfolding unlink cut_out
  unlink-steady hx hy =
      let x = get b' (page next q) in
      let y = get b' (page prev q) in
      let s₁ = point_steady b c hc b' s y x hx in
      let s₂ = put-at b c hc _ s₁ prev x y (λ z. refl) hy in
      let s₃ = put-code b c hc _ s₂ (page next q) 0 refl refl refl (omega arith) in
      let s₄ = put-code b c hc _ s₃ (page prev q) 0 refl refl refl (omega arith) in
      put-listed b c hc _ s₄ q 0 (λ z. absurd (omega arith))

  relisted-steady : Steady b c (relisted b' c q)
  unfolding relisted
  relisted-steady = by (eqb (get b' (page listed q)) 0)
    where
      by : (t : Bool) → Steady b c (cond t (link b' c q) b')
      by true = link-steady
      by false = s

  unlisted-steady : Ties b q → Steady b c (unlisted b' c q)
  unfolding unlisted
  unlisted-steady h = by (eqb (get b' (page listed q)) 1) refl
    where
      by : (t : Bool) → eqb (get b' (page listed q)) 1 ≡ t → Steady b c (cond t (unlink b' c q) b')
      by true e =
          let z = s.links q h (eqb-true (get b' (page listed q)) 1 e) in
          unlink-steady (rw s.low at z.0) (rw s.low at z.1)
      by false e = s

  park_run-steady : (k : Park) → get b' (class (stored k) c) < max_parked → Steady b c (park_run b' c k q)
  unfolding park_run
  park_run-steady k l =
      let h = get b' (class (top k) c) in
      let lh : h ≤ get b (arena frontier) = rw s.low at (s.row.tops k) in
      let s₁ = put-code b c hc b' s (page next q) h refl refl refl lh in
      let s₂ = put-code b c hc _ s₁ (class (top k) c) (q + 1) hc refl (code-top k c) (omega arith) in
      put_count_lem b c hc _ s₂ k (get b' (class (stored k) c) + 1) (omega arith)

-- ---- a page with none out
module _ (b : List ℕ) (c : ℕ) (hc : ltb c class_rows ≡ true) (q : ℕ) (hq : q < get b (arena frontier)) (there : words (q + 1) ≤ length b) (sh : Shape) (so : Sound sh) (h : ℕ) where
  as_steady : (b' : List ℕ) → Steady b c b' → (t : Destination) → (is_empty t ≡ true → get b' (class (stored Empty) c) < max_parked) → (is_cold t ≡ true → get b' (class (stored Cold) c) < max_parked)
      → Steady b c (parked_in b' c sh h q t)
  as_steady b' s ToEmpty e k = park_run-steady b c hc q hq there b' s Empty (e refl)
  as_steady b' s ToCold e k =
      let d = carve_anew b' sh q (cold_virgin sh h) in
      let m : Changes is_body b' d = changes-carve is_body b' q refl refl (λ i. refl) sh (cold_virgin sh h) refl so.few in
      park_run-steady b c hc q hq there d (still-steady b c hc b' s d m) Cold (rw (m.kept (class (stored Cold) c) hc refl) (k refl))
  as_steady b' s ToArena e k = s

  park-steady : Ties b q → (b' : List ℕ) → Steady b c b' → Steady b c (park_at b' c sh h q).book
  unfolding park_at
  park-steady t b' s =
      let m = unlisted-changes b' c q (ltb-true c class_rows hc) in
      as_steady (unlisted b' c q) (unlisted-steady b c hc q hq there b' s t) (destination_at b' c sh)
      (λ e. rw (m.kept (class (stored Empty) c) hc refl) (omega (arith, empty-room sh _ _ _ e, s.row.limits.empty)))
      (λ e. rw (m.kept (class (stored Cold) c) hc refl) (omega (arith, cold-room sh _ _ _ e, s.row.limits.cold)))

  -- ---- a chunk's page
  pub placed-steady : Ties b q → (b' : List ℕ) → Steady b c b' → Steady b c (place_at b' c sh h q).book
  unfolding place_at
  placed-steady t b' s = by (eqb (get d (page carved q)) (get d (page free q)))
    where
      d : List ℕ
      d = put b' (page virgin q) 0

      by : (u : Bool) → Steady b c (cond u (set_retired (park_at (emptied d q) c sh h q)) (released (relisted d c q) 0)).book
      by true = park-steady t (emptied d q) (emptied-steady b c hc d (virgin-steady b c hc b' s q) q)
      by false = relisted-steady b c hc q hq there d (virgin-steady b c hc b' s q)

-- ---- what the functions ask
module _ (b : List ℕ) (c : ℕ) (sh : Shape) (q : ℕ) where
  pub pre-kept : ParkingPre b c sh q → (b' : List ℕ) → Steady b c b' → ParkingPre b' c sh q
  pre-kept a b' s =
      record {
        known = a.known;
        sound = a.sound;
        below = a.below;
        there = omega (arith, s.long, a.there);
        low = rw s.low (omega (arith, s.long, a.low));
        links = ties_in b' q (s.links q (ties-out b q a.links));
        row = row_in b' c s.row;
      }
