-- A run that the arena gave, before it is carved and after.
--     new-names      every page of it names its first
--     bare-listed    it is in no list
--     bare-outs      no block of it is out; bare-marks, and none is marked
use Rattle.facts.proofs.Prelude.{ℕ, ◌+◌, ◌-◌, ◌*◌, ◌≤◌, ◌<◌, arith, Bool, true, not, ◌&&◌, List, ◌≡◌, refl, ◌∙◌, eqb, ltb, leb, length, lt-ltb, ne_eqb}
use Rattle.classes.specs.declared.Shape.{Shape}
use Rattle.fields.specs.Field.{Field, page, mark, out, first, listed, region, off, get, words}
use Rattle.fields.specs.Clear.{clear_out, clear_marks}
use Rattle.fields.proofs.Laws.{get_put_same, get-put_other, length-put}
use Rattle.fields.proofs.Changes.{changes-none}
use Rattle.fields.proofs.Clear.{get-row, get-clear, length-clear, changes-clear, length-clear_marks, get-clear_marks, changes-clear_marks}
use Rattle.pages.specs.Runs.{name_run}
use Rattle.pages.specs.Carve.{out_words, bare_run, new_run}
use Rattle.pages.proofs.Frames.{name-last, changes-name, changes-carve}

name_in : (n : ℕ) (b : List ℕ) → leb (words n) (length b) ≡ true → (f x m y : ℕ) → x + m ≤ n → x ≤ y → y < x + m → get (name_run b f x m) (page first y) ≡ f
unfolding name_run
name_in n b hb f x m y h l u =
    let e : x + (y - x) ≡ y = omega arith in
    rw e at (get-row (λ k. page first (x + k)) f (name_run b f x) (name-last b f x) n m (y - x) hb (lt-ltb (x + (y - x)) n (omega arith)) refl
    (λ k v. refl) (λ k z. ne_eqb (x + k) (x + (y - x)) (λ w. z (omega arith))) (omega arith))

module _ (b : List ℕ) (sh : Shape) (few : sh.capacity ≤ 4096) (q : ℕ) where
  abbrev named : List ℕ
  named = name_run b q q sh.pages

  abbrev out-cleared : List ℕ
  out-cleared = clear_out named q 0 (32 * out_words sh)

  abbrev cleared : List ℕ
  cleared = clear_marks out-cleared q (out_words sh)

  bits : 0 + 32 * out_words sh ≤ 4096
  bits = omega (arith, few)

  mark-words : out_words sh ≤ 128
  mark-words = omega (arith, few)

  named-long : length named ≡ length b
  named-long = (changes-name (λ g. true) b b q q sh.pages (λ y l u. refl) (changes-none (λ g. true) b)).long

  out_cleared_long : length out-cleared ≡ length b
  out_cleared_long = length-clear (32 * out_words sh) q 0 named ∙ named-long

  cleared-long : length cleared ≡ length b
  cleared-long = length-clear_marks (out_words sh) q out-cleared ∙ out_cleared_long

  pub bare-long : length (bare_run b sh q) ≡ length b
  unfolding bare_run
  bare-long = length-put cleared (page listed q) 0 ∙ cleared-long

  module _ (n : ℕ) (hb : leb (words n) (length b) ≡ true) where
    -- what comes after the naming leaves FIRST alone
    pub new-names : q + sh.pages ≤ n → (y : ℕ) → q ≤ y → y < q + sh.pages → get (new_run b sh q) (page first y) ≡ q
    unfolding new_run bare_run
    new-names inside y l u =
        let t : Field → Bool = λ g. not (eqb (region g) 4 && eqb (off g) 1) in
        (changes-carve t (bare_run b sh q) q refl refl (λ i. refl) sh true refl few).kept (page first y) refl refl
        ∙ get-put_other cleared (page listed q) (page first y) 0 refl refl refl
        ∙ (changes-clear_marks t named (out_words sh) q out-cleared mark-words (λ j. refl) (changes-clear t named (32 * out_words sh) q 0 named bits (λ j v w. refl) (changes-none t named))).kept (page first y) refl refl
        ∙ name_in n b hb q q sh.pages y inside l u

    module _ (hq : ltb q n ≡ true) where
      pub bare-listed : get (bare_run b sh q) (page listed q) ≡ 0
      unfolding bare_run
      bare-listed = get_put_same n cleared (page listed q) 0 (rw cleared-long hb) hq refl

      pub bare-outs : (i : ℕ) → i < sh.capacity → get (bare_run b sh q) (out q i) ≡ 0
      unfolding bare_run
      bare-outs i l =
          let o : ltb i 4096 ≡ true = lt-ltb i 4096 (omega (arith, few)) in
          get-put_other cleared (page listed q) (out q i) 0 refl o refl
          ∙ (changes-clear_marks (λ g. eqb (region g) 1) out-cleared (out_words sh) q out-cleared mark-words (λ j. refl) (changes-none (λ g. eqb (region g) 1) out-cleared)).kept (out q i) o refl
          ∙ get-clear n q hq (32 * out_words sh) 0 i named (rw named-long hb) bits (omega arith) (omega (arith, few))

      pub bare-marks : (j : ℕ) → j < out_words sh → get (bare_run b sh q) (mark q j) ≡ 0
      unfolding bare_run
      bare-marks j l =
          get-put_other cleared (page listed q) (mark q j) 0 refl (lt-ltb j 128 (omega (arith, few))) refl
          ∙ get-clear_marks n q hq (out_words sh) j out-cleared (rw out_cleared_long hb) mark-words l
