-- The ways out of a trim.
use Rattle.facts.proofs.Prelude.{ℕ, ◌-◌, arith, Bool, true, false, not, List, [], ◌∷◌, ◌≡◌, refl, sym, ap, ◌∙◌, eq-eqb, ne_eqb, not-true, not-false}
use Rattle.std.specs.Prelude.{Ok, Err}
use Rattle.words.specs.declared.refusal.Refusal.{Refusal}
use Rattle.words.specs.declared.refusal.Refusal.TheVariants.{BookWord}
use Rattle.words.specs.Refusal.{number_of}
use Rattle.words.proofs.Refusals.{positive}
use Rattle.words.specs.Word.{block_word}
use Rattle.classes.specs.Shape.{shape_of, pool_id}
use Rattle.fields.specs.Ranges.{format_valid}
use Rattle.calls.specs.Release.{release_blocks}
use Rattle.poolcalls.specs.Stock.{count_in, entry_in, block_in, put_count}
use Rattle.poolcalls.specs.Calls.{top_valid, released_on, trim_on}
use Rattle.stock.specs.way.Ends.{ReleasedOne, Granted}

module _ (n : ℕ) (b : List ℕ) (c h k : ℕ) (e : k ≡ count_in b c) where
  -- an empty stock
  module _ (z : k ≡ 0) (f : Bool) (ef : f ≡ format_valid b) where
    pub trim-none : f ≡ true → Granted (trim_on n b c h) (Ok 0) b
    unfolding trim_on
    trim-none t = rw (eq-eqb (count_in b c) 0 (sym e ∙ z), ← ef, t) (record { ends = λ old. record { code = refl; book = refl; block = refl } })

    pub trim_unmade : f ≡ false → Granted (trim_on n b c h) (Err BookWord) b
    unfolding trim_on
    trim_unmade t = rw (eq-eqb (count_in b c) 0 (sym e ∙ z), ← ef, t) (record { ends = λ old. record { code = refl; book = refl; block = refl } })

  module _ (some : k ≡ 0 → ⊥) (f₀ : Bool) (ef : f₀ ≡ top_valid n b c) where
    there : count_in b c ≡ 0 → ⊥
    there z = some (e ∙ z)

    pub trim-invalid : not f₀ ≡ true → Granted (trim_on n b c h) (Err BookWord) b
    unfolding trim_on
    trim-invalid u = rw (ne_eqb (count_in b c) 0 there, ← ef, not-true f₀ u) (record { ends = λ old. record { code = refl; book = refl; block = refl } })

    module _ (u₀ : not f₀ ≡ false) (g w : ℕ) (eg : g ≡ entry_in b c (k - 1)) (ew : w ≡ block_word (shape_of (pool_id c)).kind g) (r : ℕ) (b₁ : List ℕ) (z : ReleasedOne r b₁ (release_blocks n b (pool_id c) (shape_of (pool_id c)) h (w ∷ []))) where
      is-top : w ≡ block_in b c (count_in b c - 1)
      is-top = ew ∙ ap (block_word (shape_of (pool_id c)).kind) (eg ∙ ap (λ x. entry_in b c (x - 1)) e)

      z' : ReleasedOne r b₁ (release_blocks n b (pool_id c) (shape_of (pool_id c)) h (block_in b c (count_in b c - 1) ∷ []))
      z' = rw is-top at z

      pub trim-refused : (f : Refusal) → r ≡ number_of f → Granted (trim_on n b c h) (Err f) b₁
      unfolding trim_on released_on
      trim-refused f d =
          let y = z' in
          let u : (release_blocks n b (pool_id c) (shape_of (pool_id c)) h (block_in b c (count_in b c - 1) ∷ [])).code ≡ 0 → ⊥ = λ o. let p : r ≡ 0 = y.code ∙ o in omega (arith, positive f, d) in
          rw (ne_eqb (count_in b c) 0 there, ← ef, not-false f₀ u₀, ne_eqb (release_blocks n b (pool_id c) (shape_of (pool_id c)) h (block_in b c (count_in b c - 1) ∷ [])).code 0 u)
          (record { ends = λ old. record { code = sym d ∙ y.code; book = y.book; block = refl } })

      pub trim-given : (b₂ : List ℕ) → r ≡ 0 → b₂ ≡ put_count b₁ c (k - 1) → Granted (trim_on n b c h) (Ok w) b₂
      unfolding trim_on released_on
      trim-given b₂ o q =
          let y = z' in
          rw (ne_eqb (count_in b c) 0 there, ← ef, not-false f₀ u₀, eq-eqb (release_blocks n b (pool_id c) (shape_of (pool_id c)) h (block_in b c (count_in b c - 1) ∷ [])).code 0 (sym y.code ∙ o))
          (record { ends = λ old. record { code = refl; book = q ∙ ap (λ x. put_count x c (k - 1)) y.book ∙ ap (λ x. put_count (release_blocks n b (pool_id c) (shape_of (pool_id c)) h (block_in b c (count_in b c - 1) ∷ [])).book c (x - 1)) e; block = is-top } })
