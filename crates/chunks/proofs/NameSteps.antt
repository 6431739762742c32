-- The ways out of is_page, and the loops of name_chunks and unname_chunks.
use Rattle.facts.proofs.Prelude.{ℕ, zero, suc, ◌+◌, ◌-◌, ◌^◌, ◌≤◌, ◌<◌, arith, add-one, sub-one, true, List, ◌≡◌, refl, sym, ◌∙◌, eqb, ltb, length, get_or, set}
use Rattle.facts.proofs.Prelude.{length-set, get_or-set_same, get_or-set_other, ltb-true, eqb-false, eqb-true, every, by_cases, and_left, and_right, every_get}
use Rattle.words.specs.Word.{page_of}
use Rattle.fields.specs.Field.{page, tally, word, get, put, Has}
use Rattle.fields.specs.Ranges.{max_pages}
use Rattle.fields.proofs.Laws.{length-put}
use Rattle.chunks.specs.way.Tally.{page_in, tally_in, named, Saved, unnamed}
use Rattle.chunks.specs.way.Match.{is_page}
use Rattle.chunks.specs.way.TallyPre.{tally_there, chunk_there, NamePre, Named}

-- ---- is_page
pub page_test : (v p g n m : ℕ) → v ≡ g → p ≡ page_of v → m ≡ n → ltb p m ≡ is_page n g
unfolding is_page
page_test v p g n m e h f = rw (h, e, f)

-- ---- a chunk's page is one of an arena, and its TALLY is in the book
there-at : (b gs : List ℕ) (i : ℕ) → every (chunk_there b) gs ≡ true → i < length gs → (page_in gs i < max_pages) × (word (tally_in gs i) < length b)
unfolding chunk_there
there-at b gs i a l =
    let e : tally_there b (page_in gs i) ≡ true = every_get (chunk_there b) gs i a l in
    (ltb-true (page_in gs i) max_pages (and_left _ _ e), ltb-true (word (tally_in gs i)) (length b) (and_right (ltb (page_in gs i) max_pages) _ e))

pub page-below : (b gs : List ℕ) (i : ℕ) → every (chunk_there b) gs ≡ true → i < length gs → page_in gs i < max_pages
page-below b gs i a l = (there-at b gs i a l).0

pub page-fits : (b gs : List ℕ) (i : ℕ) → every (chunk_there b) gs ≡ true → i < length gs → page_in gs i < 2 ^ 32
page-fits b gs i a l = omega (arith, page-below b gs i a l)

pub tally-there : (b' b gs : List ℕ) (i p : ℕ) → length b' ≡ length b → every (chunk_there b) gs ≡ true → i < length gs → p ≡ page_in gs i → Has b' (page tally p)
tally-there b' b gs i p k a l e = omega (arith, (there-at b gs i a l).1)

-- ---- name_chunks: what stands in TALLY of the next page is saved, and the chunk named
pub record NameInv (b gs ss b' ss' : List ℕ) (i : ℕ) : Type 0 where
  pub within : i ≤ length gs
  pub long : length b' ≡ length b
  pub room : length ss' ≡ length ss
  pub book : b' ≡ named b gs i
  pub saved : Saved b gs ss' i

module _ (b gs ss : List ℕ) where
  pub name-starts : NameInv b gs ss b ss 0
  unfolding named
  name-starts = record { within = omega arith; long = refl; room = refl; book = refl; saved = λ k l. absurd (omega arith) }

  module _ (b' ss' : List ℕ) (i : ℕ) (a : length gs ≤ length ss) (v : NameInv b gs ss b' ss' i) (l : i < length gs) (p t : ℕ) (f : p ≡ page_in gs i) (g : t ≡ get b' (page tally p)) where
    saved-is : t ≡ get (named b gs i) (tally_in gs i)
    saved-is = g ∙ rw (v.book, f)

    next-saved : (k : ℕ) → k < suc i → get_or (set ss' i t) k 0 ≡ get (named b gs k) (tally_in gs k)
    next-saved k h =
        by_cases (eqb k i)
        (λ d. rw (eqb-true k i d) (get_or-set_same ss' i t 0 (omega (arith, v.room)) ∙ saved-is))
        (λ d. let z : k ≡ i → ⊥ = eqb-false k i d in get_or-set_other ss' i k t 0 z ∙ v.saved k (omega (arith, z)))

    pub name-goes_on : (b'' : List ℕ) → b'' ≡ put b' (page tally p) i → NameInv b gs ss b'' (set ss' i t) (i + 1)
    unfolding named
    name-goes_on b'' z =
        record {
          within = omega arith;
          long = rw (z, length-put) v.long;
          room = rw length-set v.room;
          book = rw (add-one i, ← f, ← v.book) z;
          saved = rw (add-one i) next-saved;
        }

  pub name-ends : (b' ss' : List ℕ) (i : ℕ) → NameInv b gs ss b' ss' i → length gs ≤ i → Named b' ss' b gs
  name-ends b' ss' i v l =
      let z : i ≡ length gs = omega (arith, v.within) in
      record { book = rw z at v.book; saved = rw z at v.saved }

-- ---- unname_chunks
pub record UnnameInv (b gs ss b' : List ℕ) (i : ℕ) : Type 0 where
  pub within : i ≤ length gs
  pub long : length b' ≡ length b
  pub rest : unnamed b' gs ss i ≡ unnamed b gs ss (length gs)

unname_last : (b gs ss : List ℕ) (i : ℕ) → 0 < i → unnamed b gs ss i ≡ unnamed (put b (tally_in gs (i - 1)) (get_or ss (i - 1) 0)) gs ss (i - 1)
unfolding unnamed
unname_last b gs ss zero h = absurd (omega arith)
unname_last b gs ss (suc i) h = rw (sub-one (suc i))

module _ (b gs ss : List ℕ) where
  pub unname_starts : UnnameInv b gs ss b (length gs)
  unname_starts = record { within = omega arith; long = refl; rest = refl }

  pub tally-last : (b' : List ℕ) (i : ℕ) → NamePre b gs ss → UnnameInv b gs ss b' i → 0 < i → (p : ℕ) → p ≡ page_in gs (i - 1) → Has b' (page tally p)
  tally-last b' i a v h p = tally-there b' b gs (i - 1) p v.long a.there (omega (arith, v.within))

  pub last_fits : (b' : List ℕ) (i : ℕ) → NamePre b gs ss → UnnameInv b gs ss b' i → 0 < i → page_in gs (i - 1) < 2 ^ 32
  last_fits b' i a v h = page-fits b gs (i - 1) a.there (omega (arith, v.within))

  pub unname_goes_on : (b' : List ℕ) (i : ℕ) → UnnameInv b gs ss b' i → 0 < i → (p : ℕ) → p ≡ page_in gs (i - 1)
      → (b'' : List ℕ) → b'' ≡ put b' (page tally p) (get_or ss (i - 1) 0) → UnnameInv b gs ss b'' (i - 1)
  unname_goes_on b' i v h p e b'' z =
      record {
        within = omega (arith, v.within);
        long = rw (z, length-put) v.long;
        rest = rw (z, e) (sym (unname_last b' gs ss i h) ∙ v.rest);
      }

  pub unname_ends : (b' : List ℕ) (i : ℕ) → UnnameInv b gs ss b' i → i ≤ 0 → b' ≡ unnamed b gs ss (length gs)
  unfolding unnamed
  unname_ends b' i v h = let z : i ≡ 0 = omega arith in rw z at v.rest
