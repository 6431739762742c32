-- Lists of pages: distinct ones, linked ones, and how often a page stands in one.
--     Middle           what a list of distinct pages with p inside tells
--     segment-kept     a segment whose links are as they were
--     part, join       a segment parted at a page, and two segments joined
--     in_count, off    membership as a count
use Rattle.facts.proofs.Prelude.{ℕ, suc, ◌+◌, ◌≤◌, arith, cond, List, [], ◌∷◌, ◌++◌, inl, inr, ◌≡◌, refl, sym, ap, subst, ◌∙◌, eqb, eq-eqb, All, count}
use Rattle.fields.specs.Field.{page, next, prev, get}
use Rattle.model.specs.Page.{Page}
use Rattle.refinement.specs.way.Chain.{In, Distinct, Segment}
use Rattle.refinement.specs.way.Represents.{firsts, heads}

pub in_left : (z : ℕ) (ys zs : List ℕ) → In z ys → In z (ys ++ zs)
in_left z [] zs i = elim i [ ]
in_left z (y ∷ ys) zs (inl e) = inl e
in_left z (y ∷ ys) zs (inr i) = inr (in_left z ys zs i)

pub in_right : (z : ℕ) (ys zs : List ℕ) → In z zs → In z (ys ++ zs)
in_right z [] zs i = i
in_right z (y ∷ ys) zs i = inr (in_right z ys zs i)

pub in_without : (z p : ℕ) (ys zs : List ℕ) → In z (ys ++ zs) → In z (ys ++ p ∷ zs)
in_without z p [] zs i = inr i
in_without z p (y ∷ ys) zs (inl e) = inl e
in_without z p (y ∷ ys) zs (inr i) = inr (in_without z p ys zs i)

-- what distinct pages ys ++ p ∷ zs tell
pub record Middle (ys : List ℕ) (p : ℕ) (zs : List ℕ) : Type 0 where
  pub front : In p ys → ⊥
  pub back : In p zs → ⊥
  pub across : (z : ℕ) → In z ys → In z zs → ⊥
  pub fore : Distinct ys
  pub aft : Distinct zs
  pub rest : Distinct (ys ++ zs)

pub middle : (ys : List ℕ) (p : ℕ) (zs : List ℕ) → Distinct (ys ++ p ∷ zs) → Middle ys p zs
middle [] p zs d = record { front = λ i. i; back = d.0; across = λ z i j. i; fore = tt; aft = d.1; rest = d.1 }
middle (y ∷ ys) p zs d =
    let m = middle ys p zs d.1 in
    record {
      front = λ i. front d.0 m.front i;
      back = m.back;
      across = λ z i j. across d.0 m.across z i j;
      fore = (λ i. d.0 (in_left y ys (p ∷ zs) i), m.fore);
      aft = m.aft;
      rest = (λ i. d.0 (in_without y p ys zs i), m.rest);
    }
  where
    front : (In y (ys ++ p ∷ zs) → ⊥) → (In p ys → ⊥) → In p (y ∷ ys) → ⊥
    front n k (inl e) = n (in_right y ys (p ∷ zs) (inl (sym e)))
    front n k (inr i) = k i

    across : (In y (ys ++ p ∷ zs) → ⊥) → ((z : ℕ) → In z ys → In z zs → ⊥) → (z : ℕ) → In z (y ∷ ys) → In z zs → ⊥
    across n k z (inl e) j = n (in_right y ys (p ∷ zs) (inr (subst (λ (w : ℕ). In w zs) e j)))
    across n k z (inr i) j = k z i j

-- ---- segments
-- the code of the last page of xs, or y where there is none
abbrev pub last_code : ℕ → List ℕ → ℕ
last_code y [] = y
last_code y (x ∷ xs) = last_code (suc x) xs

pub last_in : (x : ℕ) (xs : List ℕ) (q : ℕ) → last_code (suc x) xs ≡ suc q → In q (x ∷ xs)
last_in x [] q e = inl (omega arith)
last_in x (w ∷ ws) q e = inr (last_in w ws q e)

pub last-suc : (x : ℕ) (xs : List ℕ) → (q : ℕ) × (last_code (suc x) xs ≡ suc q)
last-suc x [] = (x, refl)
last-suc x (w ∷ ws) = last-suc w ws

-- a code at either end of a list is of one of its pages
pub first-page : (b : List ℕ) (y h : ℕ) (xs : List ℕ) (z : ℕ) → Segment b y h xs 0 → h ≡ suc z → In z xs
first-page b y h [] z s e = absurd (omega arith)
first-page b y h (x ∷ xs) z s e = inl (omega (arith, s.0))

pub last-page : (xs : List ℕ) (z : ℕ) → last_code 0 xs ≡ suc z → In z xs
last-page [] z e = absurd (omega arith)
last-page (x ∷ xs) z e = last_in x xs z e

module _ (b b' : List ℕ) where
  pub segment_kept : (y h : ℕ) (xs : List ℕ) (e : ℕ)
      → ((x : ℕ) → In x xs → (get b' (page prev x) ≡ get b (page prev x)) × (get b' (page next x) ≡ get b (page next x)))
      → Segment b y h xs e → Segment b' y h xs e
  segment_kept y h [] e k s = s
  segment_kept y h (x ∷ xs) e k s = (
    s.0,
    (k x (inl refl)).0 ∙ s.1,
    rw (k x (inl refl)).1 (segment_kept (suc x) (get b (page next x)) xs e (λ z i. k z (inr i)) s.2),
  )

  -- the same, where the last page q now goes on to code m
  pub segment_redirect : (y h x : ℕ) (xs : List ℕ) (e m q : ℕ) → last_code (suc x) xs ≡ suc q → Distinct (x ∷ xs)
      → ((z : ℕ) → In z (x ∷ xs) → get b' (page prev z) ≡ get b (page prev z))
      → ((z : ℕ) → In z (x ∷ xs) → (z ≡ q → ⊥) → get b' (page next z) ≡ get b (page next z))
      → get b' (page next q) ≡ m → Segment b y h (x ∷ xs) e → Segment b' y h (x ∷ xs) m
  segment_redirect y h x [] e m q l d kp kn r s =
      let x-q : x ≡ q = omega arith in
      (s.0, kp x (inl refl) ∙ s.1, rw x-q r)
  segment_redirect y h x (w ∷ ws) e m q l d kp kn r s = (
    s.0,
    kp x (inl refl) ∙ s.1,
    rw (kn x (inl refl) (λ x-q. d.0 (subst (λ (z : ℕ). In z (w ∷ ws)) (sym x-q) (last_in w ws q l))))
        (segment_redirect (suc x) (get b (page next x)) w ws e m q l d.1 (λ z i. kp z (inr i)) (λ z i. kn z (inr i)) r s.2),
  )

module _ (b : List ℕ) where
  -- a segment parted at p
  pub record Parted (y h : ℕ) (ys : List ℕ) (p : ℕ) (zs : List ℕ) (e : ℕ) : Type 0 where
    pub fore : Segment b y h ys (suc p)
    pub before : get b (page prev p) ≡ last_code y ys
    pub aft : Segment b (suc p) (get b (page next p)) zs e

  pub part : (y h : ℕ) (ys : List ℕ) (p : ℕ) (zs : List ℕ) (e : ℕ) → Segment b y h (ys ++ p ∷ zs) e → Parted y h ys p zs e
  part y h [] p zs e s = record { fore = s.0; before = s.1; aft = s.2 }
  part y h (x ∷ xs) p zs e s =
      let r = part (suc x) (get b (page next x)) xs p zs e s.2 in
      record { fore = (s.0, s.1, r.fore); before = r.before; aft = r.aft }

  pub join : (y h : ℕ) (ys : List ℕ) (m : ℕ) (zs : List ℕ) (e : ℕ) → Segment b y h ys m → Segment b (last_code y ys) m zs e → Segment b y h (ys ++ zs) e
  join y h [] m zs e s t = rw s t
  join y h (x ∷ xs) m zs e s t = (s.0, s.1, join (suc x) (get b (page next x)) xs m zs e s.2 t)

-- ---- counts
pub in_count : (x : ℕ) (xs : List ℕ) → In x xs → 1 ≤ count x xs
in_count x [] i = elim i [ ]
in_count x (y ∷ ys) (inl e) = rw (eq-eqb x y e) (omega arith)
in_count x (y ∷ ys) (inr i) = let ih = in_count x ys i in omega arith

-- a page of a list in which q does not stand is not q
pub off : (q : ℕ) (xs : List ℕ) → count q xs ≡ 0 → (x : ℕ) → In x xs → x ≡ q → ⊥
off q xs e x i x-q = let z = in_count q xs (subst (λ (w : ℕ). In w xs) x-q i) in omega arith

pub not_in : (q : ℕ) (xs : List ℕ) → count q xs ≡ 0 → In q xs → ⊥
not_in q xs e i = off q xs e q i refl

-- ---- lists of pages by their first pages
pub firsts-append : (ss ts : List Page) → firsts (ss ++ ts) ≡ firsts ss ++ firsts ts
firsts-append [] ts = refl
firsts-append (s ∷ ss) ts = ap (λ l. s.first ∷ l) (firsts-append ss ts)

pub firsts_at : (ss : List Page) (p p' : Page) (ts : List Page) → p'.first ≡ p.first → firsts (ss ++ p' ∷ ts) ≡ firsts (ss ++ p ∷ ts)
firsts_at [] p p' ts e = ap (λ x. x ∷ firsts ts) e
firsts_at (s ∷ ss) p p' ts e = ap (λ l. s.first ∷ l) (firsts_at ss p p' ts e)

pub heads-at : (x : ℕ) (ss : List Page) (p : Page) (ts : List Page) → heads x (ss ++ p ∷ ts) ≡ cond (eqb x p.first) 1 0 + heads x (ss ++ ts)
heads-at x [] p ts = refl
heads-at x (s ∷ ss) p ts = let ih = heads-at x ss p ts in omega arith

pub heads-append : (x : ℕ) (ss ts : List Page) → heads x (ss ++ ts) ≡ heads x ss + heads x ts
heads-append x [] ts = omega arith
heads-append x (s ∷ ss) ts = let ih = heads-append x ss ts in omega arith

-- what holds of each page is carried along, with the page's place in the list at hand
pub all-along : (P Q : Page → Type 0) (ps : List Page) → ((p : Page) → In p.first (firsts ps) → P p → Q p) → All P ps → All Q ps
all-along P Q [] k a = tt
all-along P Q (p ∷ ps) k a = (k p (inl refl) a.0, all-along P Q ps (λ r i. k r (inr i)) a.1)
