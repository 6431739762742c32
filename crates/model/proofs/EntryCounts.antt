-- Counting entries: by class and word, and by call and place.
use Rattle.facts.proofs.Prelude.{ℕ, suc, ◌+◌, ◌≤◌, ◌<◌, arith, Bool, true, false, cond, not, ◌&&◌, true≢false, List, [], ◌∷◌, inl, inr, ◌≡◌, refl, sym}
use Rattle.facts.proofs.Prelude.{ap, ◌∙◌, eqb, eqb-true, eqb-false, eq-eqb, ne_eqb, not-false, filter, total, elem, count, by_cases, and_left, and_right}
use Rattle.model.specs.Entries.{Entry, In, entries_from, has_word}
use Rattle.model.proofs.Counts.{elem-count, count-elem}

-- 1 if the entry is of class c and has the word; 1 if it is place i of call k
abbrev pub is : ℕ → ℕ → Entry → ℕ
is c w e = cond (eqb e.class c && eqb w e.word) 1 0

abbrev pub at : ℕ → ℕ → Entry → ℕ
at k i e = cond (eqb e.call k && eqb e.place i) 1 0

-- the entries of one call: its words, and its places once each
pub entries-same : (k c w i : ℕ) (ws : List ℕ) → total (is c w) (entries_from k c i ws) ≡ count w ws
entries-same k c w i [] = refl
entries-same k c w i (x ∷ ws) = let ih = entries-same k c w (suc i) ws in rw (eq-eqb c c refl) (omega arith)

pub entries-other : (k c d w i : ℕ) (ws : List ℕ) → eqb c d ≡ false → total (is d w) (entries_from k c i ws) ≡ 0
entries-other k c d w i [] n = refl
entries-other k c d w i (x ∷ ws) n = let ih = entries-other k c d w (suc i) ws n in rw n (omega arith)

entries-before : (k c j i : ℕ) (ws : List ℕ) → j < i → total (at k j) (entries_from k c i ws) ≡ 0
entries-before k c j i [] h = refl
entries-before k c j i (x ∷ ws) h = let ih = entries-before k c j (suc i) ws (omega arith) in rw (eq-eqb k k refl, ne_eqb i j (omega arith)) (omega arith)

pub entries_at : (k c j i : ℕ) (ws : List ℕ) → total (at k j) (entries_from k c i ws) ≤ 1
entries_at k c j i [] = omega arith
entries_at k c j i (x ∷ ws) =
    by_cases (eqb i j)
    (λ e. rw (eq-eqb k k refl, e) (omega (arith, entries-before k c j (suc i) ws (let y = eqb-true i j e in omega arith))))
    (λ e. let ih = entries_at k c j (suc i) ws in rw (eq-eqb k k refl, e) (omega arith))

pub entries-not : (k m c j i : ℕ) (ws : List ℕ) → eqb k m ≡ false → total (at m j) (entries_from k c i ws) ≡ 0
entries-not k m c j i [] n = refl
entries-not k m c j i (x ∷ ws) n = let ih = entries-not k m c j (suc i) ws n in rw n (omega arith)

pub filter-total : {A : Type 0} (f : A → ℕ) (t : A → Bool) (l : List A) → total f (filter t l) ≤ total f l
filter-total f t [] = omega arith
filter-total f t (x ∷ l) = let ih = filter-total f t l in by_cases (t x) (λ e. rw e (omega arith)) (λ e. rw e (omega arith))

-- what a test drops counts for nothing
pub filter_same : {A : Type 0} (f : A → ℕ) (t : A → Bool) (l : List A) → ((x : A) → t x ≡ false → f x ≡ 0) → total f (filter t l) ≡ total f l
filter_same f t [] h = refl
filter_same f t (x ∷ l) h = let ih = filter_same f t l h in by_cases (t x) (λ e. rw e (omega arith)) (λ e. rw e (omega (arith, h x e)))

-- entries with a word that is not released stay, and so do those of another class
stays : (c d w : ℕ) (ws : List ℕ) (es : List Entry) → ((e : Entry) → has_word c ws e ≡ true → is d w e ≡ 0) → total (is d w) (filter (λ e. not (has_word c ws e)) es) ≡ total (is d w) es
stays c d w ws es h = filter_same (is d w) (λ e. not (has_word c ws e)) es (λ e r. h e (not-false (has_word c ws e) r))

pub word-stays : (c w : ℕ) (ws : List ℕ) (es : List Entry) → count w ws ≡ 0 → total (is c w) (filter (λ e. not (has_word c ws e)) es) ≡ total (is c w) es
word-stays c w ws es z =
    stays c c w ws es (λ e r. by_cases (eqb w e.word)
    (λ b. absurd (let y : count w ws ≡ count e.word ws = ap (λ v. count v ws) (eqb-true w e.word b) in omega (arith, elem-count e.word ws (and_right (eqb e.class c) (elem e.word ws) r))))
    (λ b. by_cases (eqb e.class c) (λ a. rw (a, b)) (λ a. rw a)))

pub other-stays : (c d w : ℕ) (ws : List ℕ) (es : List Entry) → eqb d c ≡ false → total (is d w) (filter (λ e. not (has_word c ws e)) es) ≡ total (is d w) es
other-stays c d w ws es n =
    stays c d w ws es (λ e r. by_cases (eqb e.class d)
    (λ a. absurd (eqb-false d c n (sym (eqb-true e.class d a) ∙ eqb-true e.class c (and_left (eqb e.class c) (elem e.word ws) r))))
    (λ a. rw a))

pub is_self : (e : Entry) → is e.class e.word e ≡ 1
is_self e = rw (eq-eqb e.class e.class refl, eq-eqb e.word e.word refl)

pub in_total : (f : Entry → ℕ) (a : Entry) (l : List Entry) → In a l → f a ≤ total f l
in_total f a [] m = absurd m
in_total f a (x ∷ l) (inl e) = omega (arith, ap f e)
in_total f a (x ∷ l) (inr m) = omega (arith, in_total f a l m)

-- a word that is counted is an entry's
pub record Has (c w : ℕ) (es : List Entry) : Type 0 where
  pub entry : Entry
  pub member : In entry es
  pub of_class_lem : entry.class ≡ c
  pub of_word : entry.word ≡ w

pub counted : (c w : ℕ) (es : List Entry) → 1 ≤ total (is c w) es → Has c w es
counted c w [] h = absurd (omega arith)
counted c w (e ∷ es) h =
    by_cases (eqb e.class c && eqb w e.word)
    (λ a. record {
      entry = e;
      member = inl refl;
      of_class_lem = eqb-true e.class c (and_left (eqb e.class c) (eqb w e.word) a);
      of_word = sym (eqb-true w e.word (and_right (eqb e.class c) (eqb w e.word) a));
    })
    (λ a. let l : 1 ≤ 0 + total (is c w) es = rw a at h in
    let r = counted c w es (omega arith) in
    record { entry = r.entry; member = inr r.member; of_class_lem = r.of_class_lem; of_word = r.of_word })

-- an entry of the class with a released word is gone
has_word_lem : (c w : ℕ) (ws : List ℕ) (e : Entry) → 1 ≤ count w ws → eqb e.class c ≡ true → w ≡ e.word → has_word c ws e ≡ true
has_word_lem c w ws e h a b = rw (a, ← b) (by_cases (elem w ws) (λ y. y) (λ y. absurd (omega (arith, count-elem w ws y))))

pub gone : (c w : ℕ) (ws : List ℕ) (es : List Entry) → 1 ≤ count w ws → total (is c w) (filter (λ e. not (has_word c ws e)) es) ≡ 0
gone c w ws [] h = refl
gone c w ws (e ∷ es) h =
    let ih = gone c w ws es h in
    by_cases (has_word c ws e)
    (λ r. rw r ih)
    (λ r. rw r (by_cases (eqb e.class c)
    (λ a. by_cases (eqb w e.word)
    (λ b. absurd (true≢false (sym (has_word_lem c w ws e h a (eqb-true w e.word b)) ∙ r)))
    (λ b. rw (a, b) (omega arith)))
    (λ a. rw a (omega arith))))
