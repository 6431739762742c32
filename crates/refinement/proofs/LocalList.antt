-- A release by list on two books that stand for one state of its class: refused on both, or settled alike.
--     list-local     the release keeps to the class's words, and the arena's where it gives
use Rattle.facts.proofs.Prelude.{ℕ, ◌≤◌, Bool, true, List, [], ◌∷◌, ◌⊎◌, ◌≡◌, refl, ap, ltb, ne_eqb}
use Rattle.words.specs.Limits.{class_rows}
use Rattle.classes.specs.Shape.{shape_of}
use Rattle.fields.specs.Ranges.{max_pages}
use Rattle.model.specs.Class.{done}
use Rattle.model.specs.Release.{Settled, release_list}
use Rattle.model.specs.Heap.{Heap}
use Rattle.model.specs.Demands.{StaysHome}
use Rattle.calls.specs.Release.{Released, last_step, release_blocks}
use Rattle.refinement.specs.way.Represents.{Represents}
use Rattle.refinement.proofs.ArenaReached.{Reached}
use Rattle.refinement.proofs.Release.{SettledRep, stays, goes, settle-list}
use Rattle.refinement.proofs.Book.{Stands, stands, setting}
use Rattle.refinement.proofs.ReleaseWhole.{list_result, list-tests}
use Rattle.refinement.proofs.Override.{override}
use Rattle.refinement.proofs.LocalFill.{Home}
use Rattle.refinement.proofs.LocalGives.{Roams, runs_local}
use Rattle.refinement.proofs.LocalBack as One
use Rattle.refinement.proofs.LocalBack.{override_released}

module _ {S : ℕ → Bool} (n : ℕ) (hn : n ≤ max_pages) (b : List ℕ) (H : Heap) (R : Represents n b H) (ok : Reached n H) (c : ℕ) (hc : ltb c class_rows ≡ true) (hm : Home S n b c (shape_of c)) (d : List ℕ) where
  abbrev B : Stands n b c (H.classes c)
  B = stands R ok hc refl

  -- the last step, where a run may be given
  last_local : (q : ℕ) {w : Released} {y : Settled} → SettledRep n b c (shape_of c) [] 2 q w y → StaysHome (done (list_result y)) ⊎ Roams S H c
      → (last_step (shape_of c) q (override_released S d w)).book ≡ override S (last_step (shape_of c) q w).book d
  last_local q (stays {f = f} ne r o) a = rw (ne_eqb f 2 ne)
  last_local q (goes p e r o) a = runs_local B d (record { pages = p ∷ []; rep = r; only = o; gives = refl; named = ap (λ x. x ∷ []) e }) a

  pub list_local : (H' : Heap) → Represents n (override S b d) H' → Reached n H' → H'.classes c ≡ H.classes c → (h : ℕ) (ws : List ℕ)
      → StaysHome (release_list (shape_of c) (H.rules c) h (H.classes c) ws) ⊎ Roams S H c
      → (release_blocks n (override S b d) c (shape_of c) h ws).book ≡ override S (release_blocks n b c (shape_of c) h ws).book d
  list_local H' R' ok' et h ws =
      list-tests hn h B (stands R' ok' hc et) (H.rules c)
      (λ w w' q. StaysHome q ⊎ Roams S H c → w'.book ≡ override S w.book d) (λ k u a. refl) ws
      (λ x p u few a. rw (One.list_local (setting B) hn hm h d x p.placed ws u few)
      (last_local x.page.first (settle-list (setting B) hn (R.rules c hc) h x p.placed ws u few) a))
