-- The blocks that a trace handed out, as the words have them.
--     listed_word        the word of a block in the lent list on the way: flipped if the block is back
--     restored-listed   at the end each is as it was handed out
--     placed            a place that is out: its word, the call that releases it, and the counts without it
use Rattle.facts.proofs.Prelude.{ℕ, zero, suc, ◌+◌, ◌-◌, ◌*◌, ◌^◌, ◌≤◌, arith, true, false, cond, false≢true, List, [], ◌∷◌}
use Rattle.facts.proofs.Prelude.{◌++◌, map, ◌⊎◌, inl, inr, ◌≡◌, refl, ap, eqb, length, get_or, eqb-true, All, total, by_cases}
use Rattle.words.specs.Word.{kind_bits, kind_of}
use Rattle.model.specs.Entries.{Entry, In, entries_from, block_bytes}
use Rattle.trace.specs.Trace.{Handed, handed, is_out, bytes_of, out_at, back_at, calls_at, back_of}
use Rattle.trace.specs.Words as Words
use Rattle.trace.specs.Words.{is_block, flip_kind, restore_kind, size_of}
use Rattle.demands.specs.Trace.{still_out}
use Rattle.demands.proofs.TraceLive.{entry_at}

abbrev pub listed_word : Handed → ℕ
listed_word h = cond h.back (flip_kind h.entry.word) h.entry.word

abbrev pub word_of : Handed → ℕ
word_of h = h.entry.word

abbrev pub Block : Entry → Type 0
Block e = is_block e.word ≡ true

-- ---- the entries of a take
pub listed_more : (hs : List Handed) (k c i : ℕ) (ws : List ℕ) → map listed_word (hs ++ map handed (entries_from k c i ws)) ≡ map listed_word hs ++ ws
listed_more [] k c i [] = refl
listed_more [] k c i (w ∷ ws) = ap (λ (s : List ℕ). w ∷ s) (listed_more [] k c (suc i) ws)
listed_more (h ∷ hs) k c i ws = ap (λ (s : List ℕ). listed_word h ∷ s) (listed_more hs k c i ws)

pub words_more : (hs : List Handed) (k c i : ℕ) (ws : List ℕ) → map word_of (hs ++ map handed (entries_from k c i ws)) ≡ map word_of hs ++ ws
words_more [] k c i [] = refl
words_more [] k c i (w ∷ ws) = ap (λ (s : List ℕ). w ∷ s) (words_more [] k c (suc i) ws)
words_more (h ∷ hs) k c i ws = ap (λ (s : List ℕ). word_of h ∷ s) (words_more hs k c i ws)

pub out-more : (k c i : ℕ) (ws : List ℕ) → total is_out (map handed (entries_from k c i ws)) ≡ length ws
out-more k c i [] = refl
out-more k c i (w ∷ ws) = let ih = out-more k c (suc i) ws in omega arith

pub bytes-more : (k c i : ℕ) (ws : List ℕ) → total bytes_of (map handed (entries_from k c i ws)) ≡ length ws * size_of c
bytes-more k c i [] = omega arith
bytes-more k c i (w ∷ ws) =
    let ih = bytes-more k c (suc i) ws in
    let z = size_of c in
    let l : suc (length ws) * z ≡ length ws * z + z = omega arith in
    omega arith

pub entries-length : (k c i : ℕ) (ws : List ℕ) → length (entries_from k c i ws) ≡ length ws
entries-length k c i [] = refl
entries-length k c i (w ∷ ws) = ap suc (entries-length k c (suc i) ws)

module _ (P : Entry → Type 0) where
  pub all_more : (es : List Entry) → ((e : Entry) → In e es → P e) → All (λ (h : Handed). P h.entry) (map handed es)
  all_more [] f = tt
  all_more (e ∷ es) f = (f e (inl refl), all_more es (λ x m. f x (inr m)))

  pub all-behind : (s es : List Entry) → ((e : Entry) → In e (s ++ es) → P e) → All (λ (h : Handed). P h.entry) (map handed es)
  all-behind [] es f = all_more es f
  all-behind (x ∷ s) es f = all-behind s es (λ e m. f e (inr m))

  pub all_back : (p : ℕ) (hs : List Handed) → All (λ (h : Handed). P h.entry) hs → All (λ (h : Handed). P h.entry) (back_at p hs)
  all_back p [] a = tt
  all_back zero (h ∷ hs) a = a
  all_back (suc p) (h ∷ hs) a = (a.0, all_back p hs a.1)

pub all_then : (P Q : Entry → Type 0) (hs : List Handed) → All (λ (h : Handed). P h.entry → Q h.entry) hs → All (λ (h : Handed). P h.entry) hs → All (λ (h : Handed). Q h.entry) hs
all_then P Q [] f a = tt
all_then P Q (h ∷ hs) f a = (f.0 a.0, all_then P Q hs f.1 a.1)

pub more-class : (e : Entry) (k c i : ℕ) (ws : List ℕ) → In e (entries_from k c i ws) → e.class ≡ c
more-class e k c i [] m = absurd m
more-class e k c i (w ∷ ws) (inl p) = ap (λ (x : Entry). x.class) p
more-class e k c i (w ∷ ws) (inr m) = more-class e k c (suc i) ws m

-- the bytes out are those of the entries that are not back
pub bytes-still : (hs : List Handed) → total bytes_of hs ≡ total block_bytes (still_out hs)
bytes-still [] = refl
bytes-still (h ∷ hs) = let ih = bytes-still hs in by_cases h.back (λ b. rw b (omega arith)) (λ b. rw b (omega arith))

-- ---- a flipped word is no block's, and is restored
kinds : (w : ℕ) → is_block w ≡ true → (kind_of w ≡ 1) ⊎ (kind_of w ≡ 2)
kinds w h = by_cases (eqb (kind_of w) 1) (λ e. inl (eqb-true (kind_of w) 1 e)) (λ e. inr (eqb-true (kind_of w) 2 (rw e at h)))

record Turns (w : ℕ) : Type 0 where
  gone : is_block (flip_kind w) ≡ false
  again : restore_kind (flip_kind w) ≡ w
  same : restore_kind w ≡ w

turns : (w : ℕ) → is_block w ≡ true → Turns w
turns w h = elim (kinds w h) [
  | inl e ↦ (let k : kind_of (w - 2 ^ kind_bits) ≡ 0 = omega arith in record { gone = rw (e, k); again = rw (e, k) (omega arith); same = rw e })
  | inr e ↦ (let k : kind_of (w + 2 ^ kind_bits) ≡ 3 = omega arith in record { gone = rw (e, k); again = rw (e, k) (omega arith); same = rw e })
]

pub out_listed : (p : ℕ) (hs : List Handed) → All (λ (h : Handed). Block h.entry) hs → Words.out_at p (map listed_word hs) ≡ out_at p hs
out_listed p [] a = refl
out_listed zero (h ∷ hs) a = by_cases h.back (λ b. rw (b, (turns (word_of h) a.0).gone)) (λ b. rw (b, a.0))
out_listed (suc p) (h ∷ hs) a = out_listed p hs a.1

pub back-listed : (p : ℕ) (hs : List Handed) → out_at p hs ≡ true → Words.back_at p (map listed_word hs) ≡ map listed_word (back_at p hs)
back-listed p [] o = absurd (false≢true o)
back-listed zero (h ∷ hs) o = by_cases h.back (λ b. absurd (false≢true (rw b at o))) (λ b. rw b)
back-listed (suc p) (h ∷ hs) o = ap (λ (s : List ℕ). listed_word h ∷ s) (back-listed p hs o)

pub restored_listed : (hs : List Handed) → All (λ (h : Handed). Block h.entry) hs → map restore_kind (map listed_word hs) ≡ map word_of hs
restored_listed [] a = refl
restored_listed (h ∷ hs) a =
    let ih = restored_listed hs a.1 in
    let t = turns (word_of h) a.0 in
    by_cases h.back (λ b. rw (b, t.again, ih)) (λ b. rw (b, t.same, ih))

pub back-words : (p : ℕ) (hs : List Handed) → map word_of (back_at p hs) ≡ map word_of hs
back-words p [] = refl
back-words zero (h ∷ hs) = refl
back-words (suc p) (h ∷ hs) = ap (λ (s : List ℕ). word_of h ∷ s) (back-words p hs)

-- ---- one place
abbrev nothing : Entry
nothing = record { call = 0; place = 0; class = 0; word = 0 }

abbrev pub entry : ℕ → List Handed → Entry
entry p hs = entry_at p hs nothing

pub all-at : (P : Entry → Type 0) (p : ℕ) (hs : List Handed) → All (λ (h : Handed). P h.entry) hs → out_at p hs ≡ true → P (entry p hs)
all-at P p [] a o = absurd (false≢true o)
all-at P zero (h ∷ hs) a o = a.0
all-at P (suc p) (h ∷ hs) a o = all-at P p hs a.1 o

pub record Placed (p : ℕ) (hs : List Handed) : Type 0 where
  pub word : get_or (map listed_word hs) p 0 ≡ (entry p hs).word
  pub call : calls_at p hs ≡ back_of (entry p hs) ∷ []
  pub out : total is_out (back_at p hs) ≡ total is_out hs - 1
  pub some : 1 ≤ total is_out hs
  pub bytes : total bytes_of (back_at p hs) ≡ total bytes_of hs - block_bytes (entry p hs)
  pub many : block_bytes (entry p hs) ≤ total bytes_of hs

pub placed : (p : ℕ) (hs : List Handed) → out_at p hs ≡ true → Placed p hs
placed p [] o = absurd (false≢true o)
placed zero (h ∷ hs) o =
    by_cases h.back
    (λ b. absurd (false≢true (rw b at o)))
    (λ b. record { word = rw b; call = refl; out = rw b (omega arith); some = rw b (omega arith); bytes = rw b (omega arith); many = rw b (omega arith) })
placed (suc p) (h ∷ hs) o =
    let i = placed p hs o in
    record {
      word = i.word;
      call = i.call;
      out = omega (arith, i.out, i.some);
      some = omega (arith, i.some);
      bytes = omega (arith, i.bytes, i.many);
      many = omega (arith, i.many);
    }
