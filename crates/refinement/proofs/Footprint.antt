-- What lies in a class's words, and what in the others.
--     footprint-home          a class's steps keep to its own words
--     off-home, off-arena, off-page    those of another class, and the arena's, to the other words
use Rattle.facts.proofs.Prelude.{ℕ, suc, ◌+◌, ◌-◌, ◌*◌, ◌/◌, ◌≤◌, ◌<◌, arith, true, false, List, ◌≡◌, sym, ◌∙◌, eqb, ltb, eq-eqb, ne_eqb, lt-ltb, le-ltb, ltb-true, by_cases}
use Rattle.words.specs.Limits.{class_rows}
use Rattle.classes.specs.declared.Shape.{Shape}
use Rattle.classes.specs.way.Sound.{Sound}
use Rattle.fields.specs.Field.{page, owner, pair, get}
use Rattle.pages.specs.Runs.{whole}
use Rattle.refinement.specs.way.Footprint.{page_of, footprint, off}
use Rattle.pages.proofs.Runs.{whole-owner}
use Rattle.refinement.proofs.Override.{PageIn}
use Rattle.refinement.proofs.LocalFill.{Home}
use Rattle.refinement.proofs.LocalArena.{ArenaIn}

word_at : (q j : ℕ) → j < 2320 → page_of (40000 + 4112 * q + j - 40000) ≡ q
unfolding page_of
word_at q j l = omega arith

pair-at : (q j : ℕ) → j < 2 → page_of (pair q + j - 40000) ≡ q
unfolding page_of
pair-at q j l = omega arith

row-at : (c j : ℕ) → j < 7 → (160 + 8 * c + j) / 8 ≡ 20 + c
row-at c j l = omega arith

module _ (n : ℕ) (b : List ℕ) (sh : Shape) (c : ℕ) (hc : ltb c class_rows ≡ true) where
  low-footprint : (i : ℕ) → i < 40000 → footprint n b sh c i ≡ eqb (i / 8) (20 + c)
  unfolding footprint
  low-footprint i l = rw (lt-ltb i 40000 l)

  page-footprint : (q i : ℕ) → 40000 ≤ i → page_of (i - 40000) ≡ q → footprint n b sh c i ≡ whole n b sh c q
  unfolding footprint
  page-footprint q i l e = rw (le-ltb i 40000 l, e)

  word-footprint : (q j : ℕ) → j < 2320 → footprint n b sh c (40000 + 4112 * q + j) ≡ whole n b sh c q
  word-footprint q j l = page-footprint q (40000 + 4112 * q + j) (omega arith) (word_at q j l)

  pair-footprint : (q j : ℕ) → j < 2 → footprint n b sh c (pair q + j) ≡ whole n b sh c q
  pair-footprint q j l = page-footprint q (pair q + j) (omega arith) (pair-at q j l)

  pub footprint-home : Home (footprint n b sh c) n b c sh
  footprint-home = record {
    row = record { words = λ j l. low-footprint (160 + 8 * c + j) (omega (arith, ltb-true)) ∙ eq-eqb ((160 + 8 * c + j) / 8) (20 + c) (row-at c j l) };
    pages = λ q e. record { words = λ j l. word-footprint q j l ∙ e; pairs = λ j l. pair-footprint q j l ∙ e };
  }

  low-off : (i : ℕ) → i < 40000 → (i / 8 ≡ 20 + c → ⊥) → off n b sh c i ≡ true
  unfolding off
  low-off i l e = rw (low-footprint i l, ne_eqb (i / 8) (20 + c) e)

  pub off-page : (q : ℕ) → whole n b sh c q ≡ false → PageIn (off n b sh c) q
  unfolding off
  off-page q e = record { words = λ j l. rw (word-footprint q j l, e); pairs = λ j l. rw (pair-footprint q j l, e) }

  pub off-arena : ArenaIn (off n b sh c)
  off-arena = record {
    low = λ j l. low-off j (omega arith) (λ z. omega arith);
    high = λ j l. low-off (2048 + j) (omega arith) (λ z. omega (arith, ltb-true));
  }

  -- a page of another holder
  pub not-whole : Sound sh → (q w : ℕ) → get b (page owner q) ≡ w → (w ≡ suc c → ⊥) → whole n b sh c q ≡ false
  not-whole ok q w o ne = by_cases (whole n b sh c q) (λ e. absurd (ne (sym o ∙ whole-owner n b ok c q e))) (λ e. e)

  pub off-home : Sound sh → (d : ℕ) → ltb d class_rows ≡ true → (d ≡ c → ⊥) → {sh' : Shape} → Sound sh' → Home (off n b sh c) n b d sh'
  off-home ok d hd ne ok' = record {
    row = record { words = λ j l. low-off (160 + 8 * d + j) (omega (arith, ltb-true)) (λ z. ne (omega arith)) };
    pages = λ q e. off-page q (not-whole ok q (suc d) (whole-owner n b ok' d q e) (λ z. ne (omega arith)));
  }
