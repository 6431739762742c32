-- What the listing writes is just the histories of the length, each once, in the order (`listing-is`). That the code's own state follows
-- the model's arena is computed, for each arena and length: nothing else here goes by the arena's rules.
use Rattle.facts.proofs.Prelude.{ℕ, zero, suc, ◌≤◌, arith, true, [], ◌∷◌, List-as-Memᴰ, ◌≡◌, refl, subst, leb, length, leb-true}
use Rattle.model.specs.HoleStore.{least_fit, cut_from, lowest_that, place, insert, accepts}
use Rattle.model.specs.Arena.{give, draw_from, draw, grant, commit_ready, commit_as, commit}
use Rattle.listing.specs.History.{opened, committed, released, written, Lists}
use Rattle.listing.specs.Node.{most_pages, most_calls, commit_node, may_call, after_call}
use Rattle.listing.specs.Listing.{most_numbers, gather, so_far, list_from, listing}
use Rattle.listing.proofs.Histories.{histories, histories-all, histories-are}
use Rattle.listing.proofs.Order.{histories_ordered}

pub record Bounds (n k : ℕ) : Type 0 where
  pub some : 1 ≤ n
  pub pages : n ≤ most_pages
  pub calls : k ≤ most_calls

-- the fifteen arenas and lengths
lengths : (P : ℕ → Type 0) → P 0 → P 1 → P 2 → P 3 → P 4 → (k : ℕ) → k ≤ most_calls → P k
lengths P a b c d e zero h = a
lengths P a b c d e (suc zero) h = b
lengths P a b c d e (suc (suc zero)) h = c
lengths P a b c d e (suc (suc (suc zero))) h = d
lengths P a b c d e (suc (suc (suc (suc zero)))) h = e
lengths P a b c d e (suc (suc (suc (suc (suc k))))) h = absurd (omega arith)

arenas : (P : ℕ → Type 0) → P 1 → P 2 → P 3 → (n : ℕ) → 1 ≤ n → n ≤ most_pages → P n
arenas P a b c zero l h = absurd (omega arith)
arenas P a b c (suc zero) l h = a
arenas P a b c (suc (suc zero)) l h = b
arenas P a b c (suc (suc (suc zero))) l h = c
arenas P a b c (suc (suc (suc (suc n)))) l h = absurd (omega arith)

abbrev Computed : ℕ → ℕ → Type 0
Computed n k = (listing n k ≡ written (histories n k opened)) × (leb (length (listing n k)) most_numbers ≡ true)

computed : (n k : ℕ) → Bounds n k → Computed n k
unfolding commit_node may_call after_call gather so_far list_from histories committed released written least_fit cut_from lowest_that place insert accepts give draw_from draw grant commit_ready commit_as commit
computed n k b =
    arenas (λ n. (k : ℕ) → k ≤ most_calls → Computed n k)
    (lengths (Computed 1) (refl, refl) (refl, refl) (refl, refl) (refl, refl) (refl, refl))
    (lengths (Computed 2) (refl, refl) (refl, refl) (refl, refl) (refl, refl) (refl, refl))
    (lengths (Computed 3) (refl, refl) (refl, refl) (refl, refl) (refl, refl) (refl, refl))
    n b.some b.pages k b.calls

pub listing-small : (n k : ℕ) → Bounds n k → length (listing n k) ≤ most_numbers
listing-small n k b = leb-true _ _ (computed n k b).1

pub listing-is : (n k : ℕ) → 1 ≤ n → n ≤ most_pages → k ≤ most_calls → Lists n k (listing n k)
listing-is n k some pages calls = record {
  histories = histories n k opened;
  is = (computed n k (record { some = some; pages = pages; calls = calls })).0;
  every = λ h x e. subst (λ (j : ℕ). List-as-Memᴰ h (histories n j opened)) e (histories-all n x);
  only = histories-are n k opened;
  order = histories_ordered n k opened;
}

-- "the history with no call is the only one of length 0": it has no number
pub none-listed : (n : ℕ) → listing n 0 ≡ []
unfolding gather so_far list_from
none-listed n = refl

-- "On one page, length 2 gives 1, 1, 1, 4."
pub two-listed : listing 1 2 ≡ 1 ∷ 1 ∷ 1 ∷ 4 ∷ []
unfolding commit_node may_call after_call gather so_far list_from
two-listed = refl
