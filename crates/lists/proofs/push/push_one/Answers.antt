use Rattle.facts.proofs.Prelude.{ℕ, ◌+◌, add-zero, List, [], ◌∷◌, ◌≡◌}
use Rattle.fields.specs.Field.{page, slot, free, virgin, get, put}
use Rattle.pages.specs.Stack.{pushed}
use Rattle.lists.proofs.push.push_one.Goals as goal

pushed-one : (b : List ℕ) (q t i : ℕ) (b₁ b₂ b₃ : List ℕ) → t ≡ get b (page free q) → b₁ ≡ put b (slot q t) i → b₂ ≡ put b₁ (page virgin q) 0 → b₃ ≡ put b₂ (page free q) (t + 1)
    → b₃ ≡ pushed b q (i ∷ [])
unfolding pushed
pushed-one b q t i b₁ b₂ b₃ e e₁ e₂ e₃ = rw (e₃, e₂, e₁, e, add-zero)

pub returns : goal.returns
returns c = search pushed-one
