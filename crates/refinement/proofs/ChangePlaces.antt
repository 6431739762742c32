-- Neighbouring calls on different classes, of which at most one reaches the arena, may change places after any history: answers and book
-- are the same. n is at most the longest arena.
--     Swap              both orders of two calls on a book
--     AtHome            a call that does not reach the arena
--     change-places     the two orders, where one is at home
use Rattle.facts.proofs.Prelude.{ℕ, ◌+◌, ◌≤◌, arith, Bool, true, false, cond, List, [], ◌∷◌, ◌++◌, ◌⊎◌, inl}
use Rattle.facts.proofs.Prelude.{inr, some, ◌≡◌, refl, sym, ap, ◌∙◌, subst, eqb, ltb, eqb-true, by_cases}
use Rattle.words.specs.Host.{bad_host}
use Rattle.classes.specs.Shape.{shape_of, class_count, pool_id}
use Rattle.rules.specs.Rules.{Rules}
use Rattle.fields.specs.Ranges.{max_pages}
use Rattle.model.specs.Calls as Calls
use Rattle.model.specs.Calls.{Call, Named, named, names, host_in, way_of, Request, take, give_back, give_chunks, host_of}
use Rattle.model.specs.Chunks.{answer}
use Rattle.model.specs.Heap.{Heap, class_call, step, new_heap}
use Rattle.model.specs.History.{heap_after}
use Rattle.model.specs.Demands.{StaysHome}
use Rattle.model.proofs.Update.{other_way}
use Rattle.model.proofs.Commute.{commute}
use Rattle.model.proofs.Yields.{yielding}
use Rattle.calls.specs.Take.{take_call}
use Rattle.calls.specs.Release.{release_blocks}
use Rattle.calls.specs.Chunks.{release_chunks}
use Rattle.refinement.specs.way.Represents.{Represents}
use Rattle.refinement.specs.Direct.{Reply, turned_reply}
use Rattle.refinement.specs.Run.{class_reply, call_reply}
use Rattle.refinement.proofs.ArenaReached.{reached-after, heap-next}
use Rattle.refinement.proofs.ArenaHolders.{small-class, medium-class, pooled_class}
use Rattle.refinement.proofs.Whole.{call-whole}
use Rattle.refinement.proofs.Lengths.{Ours}
use Rattle.refinement.proofs.LocalReply.{other-class, home-arena, books}

-- ---- the number returned is told by the answer
code_in : Calls.Answer → ℕ
code_in (Calls.refused k) = k
code_in (Calls.taken k l v) = 0
code_in (Calls.fate k) = 0
code_in (Calls.fates l) = 0
code_in (Calls.run q f) = 0
code_in Calls.no_run = 0
code_in Calls.released = 0
code_in (Calls.grown t) = 0
code_in (Calls.contained t) = 0
code_in (Calls.reported f) = 0

code_of : (k : ℕ) (x : Calls.Answer) → code_in x ≡ 0 → k ≡ code_in (cond (eqb k 0) x (Calls.refused k))
unfolding code_in
code_of k x e = by_cases (eqb k 0) (λ u. rw u (eqb-true k 0 u ∙ sym e)) (λ u. rw u)

class-code : (n : ℕ) (b : List ℕ) (c : ℕ) (x : Request) → (class_reply n b c x).code ≡ code_in (class_reply n b c x).answer
unfolding code_in
class-code n b c (take h l) = let w = take_call n b c (shape_of c) h l in code_of w.code (Calls.taken w.count w.list w.virgin) refl
class-code n b c (give_back h ws) = let w = release_blocks n b c (shape_of c) h ws in code_of w.code (Calls.fate w.fate) refl
class-code n b c (give_chunks h ws gs fs) = let w = release_chunks n b c (shape_of c) h ws gs fs in code_of w.code (Calls.fates w.fates) refl

-- ---- after a history
pub record Swap (n : ℕ) (b : List ℕ) (x y : Call) : Type 0 where
  pub book : (call_reply n (call_reply n b x).book y).book ≡ (call_reply n (call_reply n b y).book x).book
  pub first : (call_reply n b x).answer ≡ (call_reply n (call_reply n b y).book x).answer
  pub second : (call_reply n (call_reply n b x).book y).answer ≡ (call_reply n b y).answer
  pub first_code : (call_reply n b x).code ≡ (call_reply n (call_reply n b y).book x).code
  pub second_code : (call_reply n (call_reply n b x).book y).code ≡ (call_reply n b y).code

mirrored : {n : ℕ} {b : List ℕ} {x y : Call} → Swap n b y x → Swap n b x y
mirrored s = record { book = sym s.book; first = sym s.second; second = sym s.first; first_code = sym s.second_code; second_code = sym s.first_code }

-- the calls of a class name one of ours
named-ours : (t : Bool) (c : ℕ) (r : Request) (p : Named) → (t ≡ true → Ours c r) → named t c r ≡ some p → Ours p.class p.request
named-ours true c r p o e = let z : record { class = c; request = r } ≡ p = cc in subst (λ (p : Named). Ours p.class p.request) z (o refl)
named-ours false c r p o e = absurd (let z : ◌≡◌ {A = ℕ} 0 1 = cc in omega arith)

pub ours : (x : Call) (p : Named) → names x ≡ some p → Ours p.class p.request
ours (Calls.take_blocks c h l) p e = named-ours (ltb c 64) c (take h l) p (small-class c) e
ours (Calls.medium_take_blocks c h l) p e = named-ours (ltb c 12) (64 + c) (take h l) p (medium-class c) e
ours (Calls.release_blocks c h ws) p e = named-ours (ltb c 64) c (give_back h ws) p (small-class c) e
ours (Calls.medium_release_blocks c h ws) p e = named-ours (ltb c 12) (64 + c) (give_back h ws) p (medium-class c) e
ours (Calls.pooled_take c h l) p e = named-ours (ltb c class_count) (pool_id c) (take h l) p (pooled_class c) e
ours (Calls.pooled_release c h ws) p e = named-ours (ltb c class_count) (pool_id c) (give_back h ws) p (pooled_class c) e
ours (Calls.release_bin_chunks c h ws gs fs) p e = named-ours (ltb c 64) c (give_chunks h ws gs fs) p (λ z. z) e
ours (Calls.commit h m) p e = absurd (let z : ◌≡◌ {A = ℕ} 0 1 = cc in omega arith)
ours (Calls.grow_frontier h q old new) p e = absurd (let z : ◌≡◌ {A = ℕ} 0 1 = cc in omega arith)
ours (Calls.release h q m) p e = absurd (let z : ◌≡◌ {A = ℕ} 0 1 = cc in omega arith)
ours (Calls.contains o k) p e = absurd (let z : ◌≡◌ {A = ℕ} 0 1 = cc in omega arith)
ours Calls.report p e = absurd (let z : ◌≡◌ {A = ℕ} 0 1 = cc in omega arith)

-- a call refused by number 3 goes nowhere
turned-reply : (n : ℕ) (x : Call) → bad_host (host_in x) ≡ true → (b : List ℕ) → call_reply n b x ≡ turned_reply b 3
unfolding call_reply way_of
turned-reply n x e b = rw e

turned-first : (n : ℕ) (b : List ℕ) (x y : Call) → bad_host (host_in x) ≡ true → Swap n b x y
turned-first n b x y e =
    let t = turned-reply n x e in
    record { book = simp t; first = simp t; second = simp t; first_code = simp t; second_code = simp t }

module _ (n : ℕ) (x : Call) (p : Named) (good : bad_host (host_in x) ≡ false) (e : names x ≡ some p) where
  reply-is : (b : List ℕ) → call_reply n b x ≡ class_reply n b p.class p.request
  unfolding call_reply way_of
  reply-is b = rw (good, e)

  step_is : (H : Heap) → step n H x ≡ class_call n H p.class p.request
  unfolding step way_of
  step_is H = rw (good, e)

module _ (n : ℕ) (hn : n ≤ max_pages) (rules : Rules) (xs : List Call) (b : List ℕ) (R : Represents n b (heap_after n rules xs)) where
  abbrev H : Heap
  H = heap_after n rules xs

  -- the heap after one more call, as a history's
  next-rep : (x : Call) → Represents n (call_reply n b x).book (heap_after n rules (xs ++ x ∷ []))
  next-rep x = subst (λ (h : Heap). Represents n (call_reply n b x).book h) (sym (heap-next n (new_heap rules) xs x)) (call-whole n hn rules xs b R x).heap

  next-is : (x : Call) (p : Named) → bad_host (host_in x) ≡ false → names x ≡ some p → heap_after n rules (xs ++ x ∷ []) ≡ (class_call n (heap_after n rules xs) p.class p.request).heap
  next-is x p good e = heap-next n (new_heap rules) xs x ∙ ap (λ o. o.heap) (step_is n x p good e (heap_after n rules xs))

  module _ (x y : Call) (p q : Named) (gx : bad_host (host_in x) ≡ false) (gy : bad_host (host_in y) ≡ false) (ex : names x ≡ some p) (ey : names y ≡ some q) (ne : eqb p.class q.class ≡ false) where
    abbrev c : ℕ
    c = p.class

    abbrev d : ℕ
    d = q.class

    first_home : StaysHome (answer (shape_of p.class) ((heap_after n rules xs).rules p.class) ((heap_after n rules xs).classes p.class) p.request) → Swap n b x y
    unfolding class_call
    first_home home =
        let law = commute n H c d p.request q.request ne (inl home) in
        let ix = next-is x p gx ex in
        let iy = next-is y q gy ey in
        let Rx : Represents n (class_reply n b c p.request).book (heap_after n rules (xs ++ x ∷ []))
        = subst (λ (r : Reply). Represents n r.book (heap_after n rules (xs ++ x ∷ []))) (reply-is n x p gx ex b) (next-rep x) in
        let Ry : Represents n (class_reply n b d q.request).book (heap_after n rules (xs ++ y ∷ []))
        = subst (λ (r : Reply). Represents n r.book (heap_after n rules (xs ++ y ∷ []))) (reply-is n y q gy ey b) (next-rep y) in
        let books₁ = books n hn b H R (reached-after n rules xs) c d p.request q.request (ours x p ex) (ours y q ey) ne ((yielding n rules xs).listed c) ((yielding n rules xs).listed d) home
        (heap_after n rules (xs ++ x ∷ [])) (heap_after n rules (xs ++ y ∷ [])) Rx (reached-after n rules (xs ++ x ∷ [])) Ry (reached-after n rules (xs ++ y ∷ []))
        (ap (λ (h : Heap). h.arena) ix ∙ home-arena n H c (host_of p.request) home)
        (ap (λ (h : Heap). h.classes d) ix ∙ other-class n H d c p.request (other_way c d ne))
        (ap (λ (h : Heap). h.classes c) iy ∙ other-class n H c d q.request ne) in
        let first₁ = answers x p gx ex H (call-whole n hn rules xs b R x).answer ∙ law.first
        ∙ ap (λ (h : Heap). (class_call n h c p.request).answer) (sym iy) ∙ sym (answers x p gx ex _ (call-whole n hn rules (xs ++ y ∷ []) (call_reply n b y).book (next-rep y) x).answer) in
        let second₁ = answers y q gy ey _ (call-whole n hn rules (xs ++ x ∷ []) (call_reply n b x).book (next-rep x) y).answer
        ∙ ap (λ (h : Heap). (class_call n h d q.request).answer) ix ∙ law.second ∙ sym (answers y q gy ey H (call-whole n hn rules xs b R y).answer) in
        record {
          book = simp (reply-is n x p gx ex, reply-is n y q gy ey) (sym books₁);
          first = first₁;
          second = second₁;
          first_code = codes x p gx ex b ∙ ap code_in first₁ ∙ sym (codes x p gx ex (call_reply n b y).book);
          second_code = codes y q gy ey (call_reply n b x).book ∙ ap code_in second₁ ∙ sym (codes y q gy ey b);
        }
      where
        codes : (x : Call) (p : Named) → bad_host (host_in x) ≡ false → names x ≡ some p → (b : List ℕ) → (call_reply n b x).code ≡ code_in (call_reply n b x).answer
        codes x p g e b = rw (reply-is n x p g e b) (class-code n b p.class p.request)

        answers : {a : Calls.Answer} (x : Call) (p : Named) → bad_host (host_in x) ≡ false → names x ≡ some p → (H : Heap) → a ≡ (step n H x).answer → a ≡ (class_call n H p.class p.request).answer
        answers x p g e H f = f ∙ ap (λ o. o.answer) (step_is n x p g e H)

-- a call that does not reach the arena: refused by number 3, or done by its class alone
abbrev pub AtHome : Heap → Call → Named → Type 0
AtHome H x p = (bad_host (host_in x) ≡ true) ⊎ StaysHome (answer (shape_of p.class) (H.rules p.class) (H.classes p.class) p.request)

-- the two orders, where one of the calls stays at home
pub change_places : (n : ℕ) → n ≤ max_pages → (rules : Rules) (xs : List Call) (b : List ℕ) → Represents n b (heap_after n rules xs) → (x y : Call) (p q : Named) → names x ≡ some p → names y ≡ some q
    → eqb p.class q.class ≡ false → AtHome (heap_after n rules xs) x p ⊎ AtHome (heap_after n rules xs) y q → Swap n b x y
change_places n hn rules xs b R x y p q ex ey ne home =
    by_cases (bad_host (host_in x)) (turned-first n b x y)
    (λ gx. by_cases (bad_host (host_in y)) (λ e. mirrored (turned-first n b y x e)) (λ gy. go gx gy home))
  where
    go : bad_host (host_in x) ≡ false → bad_host (host_in y) ≡ false → AtHome (heap_after n rules xs) x p ⊎ AtHome (heap_after n rules xs) y q → Swap n b x y
    go gx gy (inl (inl e)) = turned-first n b x y e
    go gx gy (inl (inr h)) = first_home n hn rules xs b R x y p q gx gy ex ey ne h
    go gx gy (inr (inl e)) = mirrored (turned-first n b y x e)
    go gx gy (inr (inr h)) = mirrored (first_home n hn rules xs b R y x q p gy gx ey ex (other_way p.class q.class ne) h)
