-- match_with: what its calls ask, and its ways out.
use Rattle.facts.proofs.Prelude.{ℕ, zero, suc, ◌≤◌, arith, Bool, true, false, List, [], ◌∷◌, ◌≡◌, refl, sym, ap, ◌∙◌}
use Rattle.std.proofs.Common.{replicate}
use Rattle.facts.proofs.Prelude.{eqb, ltb, length, get_or, ltb-true, eqb-true, lt-ltb, le-leb, every, and_left, and_right}
use Rattle.words.specs.Word.{page_of}
use Rattle.fields.specs.Field.{page, tally, word, words}
use Rattle.fields.specs.Ranges.{max_pages}
use Rattle.pages.proofs.Descending.{every_mono}
use Rattle.chunks.specs.way.Match.{arena_match, MatchPre, Matched}
use Rattle.chunks.specs.way.Tally.{unnamed, tallied}
use Rattle.chunks.specs.way.Match.{is_page}
use Rattle.chunks.specs.way.TallyPre.{tally_there, chunk_there, NamePre, Named, CountPre, FitPre, RoomPre}
use Rattle.chunks.proofs.NameLaws.{unnames}
use Rattle.chunks.proofs.MatchLaws.{tallied-is}

zero-at : (cs : List ℕ) (k : ℕ) → every (λ m. eqb m 0) cs ≡ true → get_or cs k 0 ≡ 0
zero-at [] k e = refl
zero-at (c ∷ cs) zero e = eqb-true c 0 (and_left _ _ e)
zero-at (c ∷ cs) (suc k) e = zero-at cs k (and_right (eqb c 0) _ e)

pub zeros_are : (n : ℕ) → every (λ m. eqb m 0) (replicate n 0) ≡ true
zeros_are zero = refl
zeros_are (suc n) = zeros_are n

-- a page of the arena has its TALLY in the book
page-there : (n : ℕ) (b : List ℕ) (p : ℕ) → n ≤ max_pages → words n ≤ length b → ltb p n ≡ true → tally_there b p ≡ true
page-there n b p f h e = rw (lt-ltb p max_pages (omega (arith, ltb-true p n e))) (lt-ltb (word (page tally p)) (length b) (omega (arith, ltb-true p n e)))

chunks-there : (n : ℕ) (b gs : List ℕ) → n ≤ max_pages → words n ≤ length b → every (is_page n) gs ≡ true → every (chunk_there b) gs ≡ true
unfolding is_page chunk_there
chunks-there n b gs f h = every_mono (is_page n) (chunk_there b) (λ g. page-there n b (page_of g) f h) gs

module _ (n : ℕ) (b ws gs ss cs : List ℕ) (a : MatchPre n b gs) (s : RoomPre gs ss cs) (t : Bool) (e : t ≡ every (is_page n) gs) where
  pub past-arena : t ≡ false → Matched false b n b ws gs
  unfolding arena_match
  past-arena z = record { answer = rw (← e, z); left = refl }

  module _ (z : t ≡ true) where
    pub name-pre : NamePre b gs ss
    name-pre = record { there = chunks-there n b gs a.few a.long (sym e ∙ z); few = a.chunks; room = s.saved }

    module _ (b' : List ℕ) (k : length b' ≡ length b) where
      long : words n ≤ length b'
      long = rw k a.long

      pub count-pre : CountPre n b' gs cs
      count-pre = record { long = long; few = a.chunks; room = s.counts; zeros = λ i. zero-at cs i s.zeros }

      pub fit-pre : FitPre b' gs cs
      fit-pre = record { there = chunks-there n b' gs a.few long (sym e ∙ z); room = s.counts }

      pub unname_pre : (ss' : List ℕ) → length ss' ≡ length ss → NamePre b' gs ss'
      unname_pre ss' l = record { there = chunks-there n b' gs a.few long (sym e ∙ z); few = a.chunks; room = rw l s.saved }

    pub matched : (b' ss' : List ℕ) → Named b' ss' b gs → (r : Bool) → r ≡ tallied n b' ws gs → (b'' : List ℕ) → b'' ≡ unnamed b' gs ss' (length gs) → Matched r b'' n b ws gs
    unfolding arena_match
    matched b' ss' m r x b'' y =
        let hb = le-leb (words n) (length b) a.long in
        let pages = sym e ∙ z in
        record {
          answer = x ∙ ap (λ d. tallied n d ws gs) m.book ∙ tallied-is n b ws gs hb a.chunks pages ∙ rw pages;
          left = y ∙ ap (λ d. unnamed d gs ss' (length gs)) m.book ∙ unnames n b gs hb pages ss' (length gs) (omega arith) m.saved;
        }
