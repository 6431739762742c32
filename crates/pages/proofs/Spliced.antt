-- Words laid over a list's own.
--     length-spliced    the list keeps its length
--     spliced-none      no words
--     spliced-one       one word
--     spliced-twice     words right before those
use Rattle.facts.proofs.Prelude.{ℕ, ◌+◌, ◌≤◌, ◌<◌, arith, add-zero, add-one, List, [], ◌∷◌, ◌++◌, append_assoc, ◌≡◌, sym, ap, ◌∙◌, length, take, drop}
use Rattle.facts.proofs.Prelude.{set, length-append, length-take, length-drop, take-append-drop, length-take-le, take-append-le, drop_at, take-take, set_split}
use Rattle.pages.specs.Stack.{spliced}

pub length-spliced : (l : List ℕ) (a : ℕ) (ws : List ℕ) → a + length ws ≤ length l → length (spliced l a ws) ≡ length l
unfolding spliced
length-spliced l a ws h = simp (length-append, length-take, length-drop) (omega arith)

pub spliced-none : (l : List ℕ) (a : ℕ) → spliced l a [] ≡ l
unfolding spliced
spliced-none l a = rw add-zero (take-append-drop a l)

pub spliced-one : (l : List ℕ) (a w : ℕ) → a < length l → spliced l a (w ∷ []) ≡ set l a w
unfolding spliced
spliced-one l a w h = ap (λ z. take a l ++ w ∷ drop z l) (add-one a) ∙ sym (set_split l a w h)

pub spliced-twice : (l : List ℕ) (a c : ℕ) (vs ws : List ℕ) → c + length vs ≡ a → a + length ws ≤ length l → spliced (spliced l a ws) c vs ≡ spliced l c (vs ++ ws)
unfolding spliced
spliced-twice l a c vs ws e h =
    let k : length (take a l) ≡ a = length-take-le a l (omega arith) in
    let front : take c (take a l ++ (ws ++ drop (a + length ws) l)) ≡ take c l =
    take-append-le c (take a l) (ws ++ drop (a + length ws) l) (omega arith) ∙ take-take c a l (omega arith) in
    let behind : drop (c + length vs) (take a l ++ (ws ++ drop (a + length ws) l)) ≡ ws ++ drop (a + length ws) l =
    drop_at (take a l) (ws ++ drop (a + length ws) l) (c + length vs) (k ∙ sym e) in
    let end : a + length ws ≡ c + length (vs ++ ws) = omega (arith, length-append vs ws) in
    rw (front, behind) (ap (λ z. take c l ++ z) (sym (append_assoc vs ws (drop (a + length ws) l)) ∙ ap (λ z. vs ++ ws ++ drop z l) end))
