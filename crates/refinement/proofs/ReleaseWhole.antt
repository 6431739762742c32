-- A release by list, whole: on a book that stands for a reached heap it has the model's answer, is never refused by number 13, and
-- leaves a book that stands for the model's next heap. n is at most the longest arena.
--     list-tests        refused with one number on two books and in the model, or passed on all three
--     release-rep       refused by both with one number, or settled alike
--     release-whole     every release by list, refused or not, of any fate, the give included
--     release-after     the same after any history
use Rattle.facts.proofs.Prelude.{ℕ, ◌≤◌, arith, Bool, true, false, cond, not, List, [], ◌∷◌, map, some, ◌≡◌, refl, sym}
use Rattle.facts.proofs.Prelude.{ap, ◌∙◌, eqb, ltb, length, ne_eqb, not-false, every, distinct, count, by_cases, and_left}
use Rattle.words.specs.Limits.{class_rows}
use Rattle.classes.specs.Shape.{shape_of}
use Rattle.rules.specs.declared.Limits.{Limits}
use Rattle.rules.specs.Rules.{Rules}
use Rattle.fields.specs.Ranges.{max_pages}
use Rattle.model.specs.Calls as Calls
use Rattle.model.specs.Calls.{Call, fate}
use Rattle.model.specs.Page.{Page, is_out}
use Rattle.model.specs.Class.{Class, Result, Ask, done, refuse}
use Rattle.model.specs.Release.{Site, Settled, of_kind, on_page, settle, release_list}
use Rattle.model.specs.Chunks.{answer}
use Rattle.model.specs.Heap.{Heap, class_call}
use Rattle.model.specs.History.{heap_after}
use Rattle.model.proofs.Counts.{distinct-count}
use Rattle.pages.specs.Stack.{index_of}
use Rattle.calls.specs.Out.{start_of, out_at}
use Rattle.calls.specs.Release.{Released, released_none, last_step, give_back_at, release_valid, release_blocks}
use Rattle.refinement.specs.way.Represents.{Represents}
use Rattle.refinement.specs.Direct.{Agrees}
use Rattle.refinement.specs.Releases.{list_reply}
use Rattle.refinement.proofs.ArenaReached.{Reached, reached-after}
use Rattle.refinement.proofs.Book.{Stands, stands, setting, state-rep}
use Rattle.refinement.proofs.Found.{Located, At, found_at, placed-rep, same-pages, start-at, site_of}
use Rattle.refinement.proofs.Returned.{return_room}
use Rattle.refinement.proofs.Release.{SettledRep, stays, goes, settle-list}
use Rattle.refinement.proofs.ReleaseValid.{release-valid}
use Rattle.refinement.proofs.Releases.{Refusal, tested, past_ten, Ends, denied, did, ends_agree}

-- what a release comes to that passes
abbrev pub list_act : List ℕ → ℕ → ℕ → Site → List ℕ → Released
list_act b c h x ws = last_step (shape_of c) x.page.first (give_back_at b c (shape_of c) h x.page.first (map (index_of (shape_of c) x.page.first) ws))

abbrev pub list_result : Settled → Result
list_result y = record { class = y.class; answer = fate y.fate; gives = y.gives }

-- from number 11 on: the list's first word names page q, and the model finds that page at site x
at-page : {n c : ℕ} {t : Class} (hn : n ≤ max_pages) (h : ℕ) {b : List ℕ} (B : Stands n b c t) {f : Page → Bool} {x : Site} → Located f t (some x) → (q : ℕ) → q ≡ x.page.first
    → (ws : List ℕ) → every (of_kind (shape_of c).kind) ws ≡ true → every (out_at n b c (shape_of c)) ws ≡ true → distinct ws ≡ true
    → cond (not (every (λ v. eqb (start_of b v) q) ws)) (released_none b 11)
    (cond (not (release_valid n b c (shape_of c) (length ws) q)) (released_none b 13)
    (last_step (shape_of c) q (give_back_at b c (shape_of c) h q (map (index_of (shape_of c) q) ws))))
    ≡ cond (every (λ v. is_out (shape_of c) v x.page) ws) (list_act b c h x ws) (released_none b 11)
at-page {n} {c} hn h {b} B {x = x} y q e ws k o once =
    let p = (found_at {zs = []} (state-rep B) y).placed in
    let same = same-pages (setting B) hn (placed-rep p) ws k o in
    by_cases (every (λ v. is_out (shape_of c) v x.page) ws)
    (λ u. let room = return_room (setting B) hn (placed-rep p) ws u (λ v. distinct-count v ws once) in
    rw (e, sym same ∙ u, u, release-valid n b B.heap B.represents B.reached c (setting B) (length ws) (omega arith) p))
    (λ u. rw (e, sym same ∙ u, u))

module _ {n c : ℕ} {t : Class} (hn : n ≤ max_pages) (h : ℕ) {b b' : List ℕ} (B : Stands n b c t) (B' : Stands n b' c t) (lim : Limits) (P : Released → Released → Ask → Type 0)
    (none : (k : ℕ) → Refusal k → P (released_none b k) (released_none b' k) (refuse t k)) where
  pub list-tests : (ws : List ℕ) → ((x : Site) → At n b c (shape_of c) [] x → every (λ v. is_out (shape_of c) v x.page) ws ≡ true → ((v : ℕ) → count v ws ≤ 1)
      → P (list_act b c h x ws) (list_act b' c h x ws) (done (list_result (settle (shape_of c) lim h false ws x))))
      → P (release_blocks n b c (shape_of c) h ws) (release_blocks n b' c (shape_of c) h ws) (release_list (shape_of c) lim h t ws)
  unfolding release_blocks release_list on_page
  list-tests [] f = none 7 refl
  list-tests (w ∷ ws) f =
      let sh = shape_of c in
      let us = w ∷ ws in
      tested hn B B' released_none P none (not (every (of_kind sh.kind) us)) 9 refl
      (λ e. let k = not-false (every (of_kind sh.kind) us) e in
      past_ten hn B B' released_none P none us k
      (λ o o' once. let k₁ = and_left (of_kind sh.kind w) (every (of_kind sh.kind) ws) k in
      let x = site_of (setting B) hn t (state-rep B) w k₁ (and_left (out_at n b c sh w) (every (out_at n b c sh) ws) o) in
      let start' = start-at (setting B') hn t (state-rep B') w x.found k₁ (and_left (out_at n b' c sh w) (every (out_at n b' c sh) ws) o') in
      rw (at-page hn h B x.found (start_of b w) x.start us k o once, at-page hn h B' x.found (start_of b' w) start' us k o' once, x.is)
      (by_cases (every (λ v. is_out sh v x.site.page) us)
      (λ u. rw u (f x.site (found_at (state-rep B) x.found) u (λ v. distinct-count v us once)))
      (λ u. rw u (none 11 refl)))))

module _ (n : ℕ) (hn : n ≤ max_pages) (b : List ℕ) (H : Heap) (R : Represents n b H) (ok : Reached n H) (c : ℕ) (hc : ltb c class_rows ≡ true) (h : ℕ) where
  settled-ends : (q : ℕ) {w : Released} {y : Settled} → SettledRep n b c (shape_of c) [] 2 q w y → Ends n b c (H.classes c) (list_reply (last_step (shape_of c) q w)) (done (list_result y))
  settled-ends q (stays {f = f} ne r o) = rw (ne_eqb f 2 ne) (did (record { pages = []; rep = r; only = o; gives = refl; named = refl }))
  settled-ends q (goes p e r o) = did (record { pages = p ∷ []; rep = r; only = o; gives = refl; named = ap (λ x. x ∷ []) e })

  abbrev B : Stands n b c (H.classes c)
  B = stands R ok hc refl

  pub release-rep : (ws : List ℕ) → Ends n b c (H.classes c) (list_reply (release_blocks n b c (shape_of c) h ws)) (release_list (shape_of c) (H.rules c) h (H.classes c) ws)
  release-rep ws =
      list-tests hn h B B (H.rules c) (λ w w' q. Ends n b c (H.classes c) (list_reply w) q) (λ k u. denied k (fate 0) u) ws
      (λ x p u few. settled-ends x.page.first (settle-list (setting B) hn (R.rules c hc) h x p.placed ws u few))

  pub release-whole : (ws : List ℕ) → Agrees (Represents n) (list_reply (release_blocks n b c (shape_of c) h ws)) (class_call n H c (Calls.give_back h ws))
  unfolding class_call answer
  release-whole ws = ends_agree B h (release-rep ws)

-- after every history on an arena of n pages
pub release-after : (n : ℕ) → n ≤ max_pages → (rules : Rules) (xs : List Call) (b : List ℕ) → Represents n b (heap_after n rules xs) → (c : ℕ) → ltb c class_rows ≡ true → (h : ℕ) (ws : List ℕ)
    → Agrees (Represents n) (list_reply (release_blocks n b c (shape_of c) h ws)) (class_call n (heap_after n rules xs) c (Calls.give_back h ws))
release-after n hn rules xs b R c hc h ws = release-whole n hn b (heap_after n rules xs) R (reached-after n rules xs) c hc h ws
