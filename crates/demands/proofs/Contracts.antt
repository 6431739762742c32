-- What a caller sees of the exported functions is the reply of `call` (specs/Contracts).
--     observes-call      of one function
--     in-turn-replies    of calls in turn
use Rattle.facts.proofs.Prelude.{ℕ, zero, suc, ◌+◌, ◌≤◌, ◌<◌, arith, Bool, true, false, List, [], ◌∷◌, Option, none, some, ◌≡◌, refl, sym}
use Rattle.facts.proofs.Prelude.{ap, ap₂, ◌∙◌, subst, eqb, leb, length, eqb-true, ne_eqb, leb-true, every, by_cases, and_left, and_right}
use Rattle.words.specs.Host.{bad_host}
use Rattle.fields.specs.Field.{arena, size, state, frontier, hole_pages, get}
use Rattle.fields.specs.Ranges.{max_pages, meta_fault}
use Rattle.fields.proofs.Sound.{head-frontier}
use Rattle.model.specs.declared.Hole.{Hole}
use Rattle.model.specs.Calls as Calls
use Rattle.model.specs.Calls.{Call, taken, fate}
use Rattle.model.specs.HoleStore.{hole_at}
use Rattle.model.specs.Heap.{answer_run, bad_run}
use Rattle.model.specs.BestFit.{Commits, from-hole, from-frontier, unusable, ungranted, exhausted}
use Rattle.model.proofs.BestFit.{commits}
use Rattle.arena.specs.Load.{load_arena, load_store}
use Rattle.arena.specs.Valid.{hole_valid, holes_valid, record_valid, commit_valid, report_valid}
use Rattle.arena.specs.Calls.{commit_call, commit_for}
use Rattle.take.specs.Answer.{answer_of}
use Rattle.release.specs.Answer.{answer_as}
use Rattle.runs.specs.Answer as Runs
use Rattle.runs.specs.Answer.{commit_code}
use Rattle.direct.specs.Answer.{grown_as, grow_code, report_of}
use Rattle.vigbuso.specs.Faults.{call_fault}
use Rattle.vigbuso.specs.Direct.{commit_on, no_page, first_out, fresh_out, grown_out, report_on, figures_in, ReportEnds}
use Rattle.vigbuso.specs.Blocks.{code_out, count_out, virgin_out, release_code, fate_out}
use Rattle.refinement.specs.Direct.{Reply, reply}
use Rattle.refinement.specs.Run.{replies_from}
use Rattle.demands.specs.Call.{call}
use Rattle.demands.specs.Contracts.{run_observed, Observes, take_blocks, medium_take_blocks, release_blocks, medium_release_blocks, release_bin_chunks, commit, grow_frontier, release, contains, report, InTurn, ends, calls}
use Rattle.demands.proofs.Calls.{room-plain}
use Rattle.words.proofs.Answers.{eqb-digit}

not-zero : (k : ℕ) → eqb (suc k) 0 ≡ false
not-zero k = ne_eqb (suc k) 0 (λ e. omega (arith, e))

some_is : {p q : ℕ} → ◌≡◌ {A = Option ℕ} (some p) (some q) → p ≡ q
some_is e = cc

none-some : {p : ℕ} → ◌≡◌ {A = Option ℕ} none (some p) → ⊥
none-some e = let z : ◌≡◌ {A = ℕ} 0 1 = cc in omega arith

-- ---- what is read from a function's answer and out-parameters
module _ (b : List ℕ) where
  take-read : (k m : ℕ) (l : List ℕ) (v : Bool) (m₀ v₀ : ℕ)
      → reply k (taken m l v) b ≡ reply (code_out (answer_of k m v)) (taken (count_out (answer_of k m v) m₀) l (eqb (virgin_out (answer_of k m v) v₀) 1)) b
  take-read zero m l v m₀ v₀ = rw eqb-digit
  take-read (suc k) m l v m₀ v₀ = rw (not-zero k)

  list_read : (k f f₀ : ℕ) → reply k (fate f) b ≡ reply (release_code (answer_as k f)) (fate (fate_out (answer_as k f) f₀)) b
  list_read zero f f₀ = refl
  list_read (suc k) f f₀ = rw (not-zero k)

  grow-read : (k : ℕ) (y : Bool) (g₀ : ℕ) → reply k (Calls.grown y) b ≡ reply (grow_code (grown_as k y)) (Calls.grown (eqb (grown_out (grown_as k y) g₀) 1)) b
  grow-read zero true g₀ = refl
  grow-read zero false g₀ = refl
  grow-read (suc k) y g₀ = rw (not-zero k)

  commit-read : (k : ℕ) (q : Option ℕ) (f : Bool) (q₀ f₀ : ℕ) → ((p : ℕ) → k ≡ 0 → q ≡ some p → eqb p no_page ≡ false)
      → reply k (answer_run q f) b ≡ reply (commit_code (Runs.answer_of k q f)) (run_observed (first_out (Runs.answer_of k q f) q₀) (fresh_out (Runs.answer_of k q f) f₀)) b
  commit-read zero none f q₀ f₀ low = refl
  commit-read zero (some p) f q₀ f₀ low = rw (low p refl refl, eqb-digit)
  commit-read (suc k) q f q₀ f₀ low = rw (not-zero k)

-- ---- the run that a commit answers lies in the arena, so its first page is not the greatest number
every-at : (t : Hole → Bool) (i : ℕ) (hs : List Hole) → i < length hs → every t hs ≡ true → t (hole_at i hs) ≡ true
every-at t i [] l e = absurd (omega arith)
every-at t zero (h ∷ hs) l e = and_left (t h) _ e
every-at t (suc i) (h ∷ hs) l e = every-at t i hs (omega arith) (and_right (t h) _ e)

module _ (n : ℕ) (b : List ℕ) (valid : commit_valid n b ≡ true) where
  low-frontier : get b (arena frontier) ≤ n
  unfolding commit_valid record_valid
  low-frontier = head-frontier n b (and_left _ _ (and_right (leb (get b (arena state)) 2) _ (and_left _ _ valid)))

  valid-holes : every (hole_valid (get b (arena hole_pages)) (get b (arena frontier))) (load_arena b).store.holes ≡ true
  unfolding commit_valid holes_valid load_arena load_store
  valid-holes = and_right (record_valid n b) _ valid

  hole-low : (i : ℕ) → i < length (load_arena b).store.holes → (hole_at i (load_arena b).store.holes).first ≤ n
  hole-low i l =
      let h = hole_at i (load_arena b).store.holes in
      let e = every-at (hole_valid (get b (arena hole_pages)) (get b (arena frontier))) i (load_arena b).store.holes l valid-holes in
      let z : h.first + h.pages ≤ get b (arena frontier) = leb-true (h.first + h.pages) (get b (arena frontier)) (and_right (leb 1 h.pages) _ (and_right (leb h.pages (get b (arena hole_pages))) _ e)) in
      omega (arith, z, low-frontier)

  run-low : {h m : ℕ} {r : Option ℕ} {f : Bool} → Commits n h m (load_arena b) r f → (p : ℕ) → r ≡ some p → p ≤ n
  run-low (from-hole i u g l w) p e = subst (λ (q : ℕ). q ≤ n) (some_is e) (hole-low i l.inside)
  run-low (from-frontier u g s l) p e = let z : (load_arena b).frontier ≡ p = some_is e in omega arith
  run-low (unusable u) p e = absurd (none-some e)
  run-low (ungranted u) p e = absurd (none-some e)
  run-low (exhausted u v) p e = absurd (none-some e)

sized : (b : List ℕ) → eqb (meta_fault b) 0 ≡ true → get b (arena size) ≤ max_pages
unfolding meta_fault
sized b u = (room-plain (get b (arena size)) b (eqb-true (meta_fault b) 0 u)).few-pages

-- ---- the calls
commit-low : (b : List ℕ) (h m p : ℕ) → (commit_on b h m).code ≡ 0 → (commit_on b h m).run ≡ some p → eqb p no_page ≡ false
unfolding commit_on commit_call commit_for call_fault
commit-low b h m p c e =
    by_cases (eqb (meta_fault b) 0)
    (λ u. by_cases (bad_host h) (λ v. absurd (none-some (rw (u, v) at e))) (λ v.
    by_cases (bad_run m) (λ w. absurd (none-some (rw (u, v, w) at e))) (λ w.
    by_cases (commit_valid (get b (arena size)) b)
    (λ x. let z : p ≤ get b (arena size) = run-low (get b (arena size)) b x (commits (get b (arena size)) h m (load_arena b)) p (rw (u, v, w, x) at e) in
    ne_eqb p no_page (λ y. omega (arith, y, z, sized b u)))
    (λ x. absurd (none-some (rw (u, v, w, x) at e))))))
    (λ u. absurd (none-some (rw (u, u) at e)))

report_says : (b fs fs' : List ℕ) (r : ℕ) → ReportEnds (report_on b) r fs fs' → reply r (Calls.reported (figures_in fs')) b ≡ call b Calls.report
unfolding call report_on report_of
report_says b fs fs' r e =
    rw (e.code, e.figures)
    (by_cases (eqb (meta_fault b) 0)
    (λ u. rw u (by_cases (report_valid (get b (arena size)) b) (λ v. rw v) (λ v. rw v)))
    (λ u. rw (u, u)))

pub observes_call : {b : List ℕ} {x : Call} {w : Reply} → Observes b x w → w ≡ call b x
unfolding call
observes_call (take_blocks c h r k k' v v' b' l l' e) = rw (e.code, e.book, e.list, e.count, e.virgin) (sym (take-read _ _ _ _ _ k v))
observes_call (medium_take_blocks c h r k k' v v' b' l l' e) = rw (e.code, e.book, e.list, e.count, e.virgin) (sym (take-read _ _ _ _ _ k v))
observes_call (release_blocks c h r f f' b' ws e) = rw (e.code, e.book, e.fate) (sym (list_read _ _ _ f))
observes_call (medium_release_blocks c h r f f' b' ws e) = rw (e.code, e.book, e.fate) (sym (list_read _ _ _ f))
observes_call (release_bin_chunks c h r b' ws gs fs fs' e) = rw (e.code, e.book, e.fates)
observes_call {b} (commit h m r q q' f f' b' e) = rw (e.code, e.book, e.first, e.fresh) (sym (commit-read _ _ _ _ q f (commit-low b h m)))
observes_call (grow_frontier h q old new r g g' b' e) = rw (e.code, e.book, e.grown) (sym (grow-read _ _ _ g))
observes_call (release h q m r b' e) = rw (e.code, e.book)
observes_call (contains o k r e) = rw (e, eqb-digit)
observes_call {b} (report r fs fs' e) = report_says b fs fs' r e

pub in_turn_replies : {b : List ℕ} {xs : List Call} {ws : List Reply} → InTurn b xs ws → ws ≡ replies_from call b xs
in_turn_replies (ends b) = refl
in_turn_replies (calls b x w xs ws s t) = ap₂ ◌∷◌ (observes_call s) (in_turn_replies t ∙ ap (λ (v : Reply). replies_from call v.book xs) (observes_call s))
