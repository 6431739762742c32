-- A loop that writes the low half of each number.
use mathlib.Core.Path.{◌≡◌, sym, ap, ◌∙◌}
use Prim.Native.Nat.{ℕ, ◌+◌, ◌<◌}
use native.Mathlib.Omega.{arith}
use mathlib.Core.List.{List, [], ◌∷◌, ◌++◌, map, append_assoc}
use lib.ListN.{length, get_or, set, take, drop}
use Rattle.std.proofs.lemmas.List.{length-take, length-map, set_at, drop_more, map_more}

pub one_more : (f : ℕ → ℕ) (xs zs ys : List ℕ) (i x : ℕ) → i < length xs → length xs ≡ length zs → ys ≡ map f (take i xs) ++ drop i zs → x ≡ f (get_or xs i 0)
    → set ys i x ≡ map f (take (i + 1) xs) ++ drop (i + 1) zs
one_more f xs zs ys i x lt e h is =
    let front = map f (take i xs) in
    let long : length front ≡ i = length-map (take i xs) f ∙ omega (arith, length-take i xs) in
    let parts : ys ≡ front ++ get_or zs i 0 ∷ drop (i + 1) zs = h ∙ ap (λ l. front ++ l) (drop_more zs i 0 (omega arith)) in
    ap (λ l. set l i x) parts ∙ set_at front _ _ x i long ∙ sym (append_assoc front (x ∷ []) _)
    ∙ ap (λ l. l ++ drop (i + 1) zs) (ap (λ y. front ++ y ∷ []) is ∙ sym (map_more f xs i 0 lt))
