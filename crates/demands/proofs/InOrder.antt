-- Calls put in an order of specs/InOrder leave the same book, and what each class was answered.
--     moved       one call, made ahead of others
--     in_order    all of them
use Rattle.facts.proofs.Prelude.{List, [], ◌∷◌, ◌++◌, append_assoc, some, ◌≡◌, refl, sym, ◌∙◌, subst}
use Rattle.model.specs.Calls.{Call, Named, names}
use Rattle.demands.specs.Start.{Start, Starts}
use Rattle.demands.specs.Reorders.{same, exchange, Reordered}
use Rattle.demands.specs.InOrder.{Passes, none_ahead, one-ahead, InOrder, all_made, next-made}
use Rattle.demands.proofs.Reorders.{reordered}

and_then : {s : Start} {us vs ws : List Call} → Reordered s us vs → Reordered s vs ws → Reordered s us ws
and_then f g = record { book = f.book ∙ g.book; answers = λ c. f.answers c ∙ g.answers c }

module _ (s : Start) (o : Starts s) where
  moved : (y : Call) (q : Named) (xs vs zs : List Call) → names y ≡ some q → Passes s y q.class xs vs → Reordered s (xs ++ (vs ++ y ∷ zs)) (xs ++ y ∷ (vs ++ zs))
  moved y q xs ws zs ey (none_ahead us) = record { book = refl; answers = λ c. refl }
  moved y q xs ws zs ey (one-ahead us x p vs ex ne one t) =
      let ks = vs ++ zs in
      and_then
      (subst (λ (k : List Call). Reordered s k ((xs ++ x ∷ []) ++ y ∷ ks)) (append_assoc xs (x ∷ []) (vs ++ y ∷ zs)) (moved y q (xs ++ x ∷ []) vs zs ey t))
      (subst (λ (k : List Call). Reordered s k (xs ++ y ∷ x ∷ ks)) (sym (append_assoc xs (x ∷ []) (y ∷ ks)))
      (reordered s o (xs ++ x ∷ y ∷ ks) (xs ++ y ∷ x ∷ ks) (exchange xs x y p q ks (xs ++ y ∷ x ∷ ks) ex ey ne one (same (xs ++ y ∷ x ∷ ks)))))

  pub in_order : (xs us ys : List Call) → InOrder s xs us ys → Reordered s (xs ++ us) (xs ++ ys)
  in_order xs us ys (all_made ks) = record { book = refl; answers = λ c. refl }
  in_order xs us ws (next-made ks vs y q zs ys ey t r) =
      and_then (moved y q xs vs zs ey t)
      (subst (λ (k : List Call). Reordered s k (xs ++ y ∷ ys)) (append_assoc xs (y ∷ []) (vs ++ zs))
      (subst (λ (k : List Call). Reordered s ((xs ++ y ∷ []) ++ (vs ++ zs)) k) (append_assoc xs (y ∷ []) ys) (in_order (xs ++ y ∷ []) (vs ++ zs) ys r)))
