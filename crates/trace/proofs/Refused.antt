-- A take or a release that is refused leaves the book as it was, and counts no block (of a take, `Spares` of crate take).
use Rattle.facts.proofs.Prelude.{ℕ, Bool, true, false, cond, not, List, [], ◌∷◌, map, ◌≡◌, refl, eqb, length, is_nil, every, by_cases}
use Rattle.classes.specs.declared.Shape.{Shape}
use Rattle.classes.specs.Shape.{shape_of}
use Rattle.fields.specs.Field.{page, carved, free, get}
use Rattle.model.specs.declared.Destination.{Destination}
use Rattle.model.specs.declared.Destination.TheVariants.{ToEmpty, ToCold, ToArena}
use Rattle.model.specs.Destination.{arena_fate}
use Rattle.model.specs.Release.{of_kind}
use Rattle.pages.specs.Stack.{back, index_of}
use Rattle.calls.specs.Out.{start_of, out_fault}
use Rattle.calls.specs.Release.{Released, released_none, release_blocks, release_valid, first_of, last_step, give_back_at, park_at, park_as, unlisted, destination_at}
use Rattle.take.proofs.TakeSpares.{Spares, call_spares}
use Rattle.trace.specs.Words.{take_now, back_now, class_at, owner_at, known}
use Rattle.trace.specs.Trace.{blank}

-- ---- releases
record Keeps (b : List ℕ) (r : Released) : Type 0 where
  pub keeps : (r.code ≡ 0 → ⊥) → r.book ≡ b

next : (b : List ℕ) (t : Bool) (k : ℕ) (r : Released) → Keeps b r → Keeps b (cond t (released_none b k) r)
next b true k r h = record { keeps = λ z. refl }
next b false k r h = h

done : {b : List ℕ} {r : Released} → r.code ≡ 0 → Keeps b r
done e = record { keeps = λ z. absurd (z e) }

destination-zero : (d : List ℕ) (c : ℕ) (sh : Shape) (h q : ℕ) (s : Destination) → (park_as d c sh h q s).code ≡ 0
destination-zero d c sh h q ToEmpty = refl
destination-zero d c sh h q ToCold = refl
destination-zero d c sh h q ToArena = refl

pub give-zero : (b : List ℕ) (c : ℕ) (sh : Shape) (h q : ℕ) (is : List ℕ) → (give_back_at b c sh h q is).code ≡ 0
unfolding give_back_at park_at
give-zero b c sh h q is =
    by_cases (eqb (get (back b q is) (page carved q)) (get (back b q is) (page free q)))
    (λ e. rw e (destination-zero (unlisted (back b q is) c q) c sh h q (destination_at (back b q is) c sh))) (λ e. rw e)

last-zero : (sh : Shape) (q : ℕ) (r : Released) → r.code ≡ 0 → (last_step sh q r).code ≡ 0
last-zero sh q r e = by_cases (eqb r.fate arena_fate) (λ u. rw u e) (λ u. rw u e)

release-keeps : (n : ℕ) (b : List ℕ) (c : ℕ) (sh : Shape) (h : ℕ) (ws : List ℕ) → Keeps b (release_blocks n b c sh h ws)
unfolding release_blocks
release-keeps n b c sh h ws =
    let q = start_of b (first_of ws) in
    let act : Keeps b (last_step sh q (give_back_at b c sh h q (map (index_of sh q) ws))) = done (last-zero sh q (give_back_at b c sh h q (map (index_of sh q) ws)) (give-zero b c sh h q (map (index_of sh q) ws))) in
    next b (is_nil ws) 7 _
    (next b (not (every (of_kind sh.kind) ws)) 9 _
    (next b (not (eqb (out_fault n b c sh ws) 0)) (out_fault n b c sh ws) _
    (next b (not (every (λ w. eqb (start_of b w) q) ws)) 11 _
    (next b (not (release_valid n b c sh (length ws) q)) 13 _ act))))

pub back-keeps : (n : ℕ) (b : List ℕ) (w : ℕ) → ((back_now n b w).code ≡ 0 → ⊥) → (back_now n b w).book ≡ b
unfolding back_now
back-keeps n b w =
    by_cases (known (owner_at n b w)) (λ k. rw k (release-keeps n b (class_at n b w) (shape_of (class_at n b w)) 15 (w ∷ [])).keeps) (λ k. rw k (λ z. refl))

-- ---- takes
pub take_spares : (n : ℕ) (b : List ℕ) (c : ℕ) → Spares b (take_now n b c)
unfolding take_now
take_spares n b c = call_spares n b c 15 blank
