-- The steps on a class's pages keep to the words of its row and of those pages: each is the same step on two books put together, with
-- the other words as they were. S has the words of the row of c and of page q.
use Rattle.facts.proofs.Prelude.{ℕ, zero, suc, ◌+◌, ◌≤◌, arith, Bool, true, List, [], ◌∷◌, ◌≡◌, refl, eqb, length, ltb-true, eqb-true, every, by_cases, and_left, and_right}
use Rattle.classes.specs.declared.Shape.{Shape}
use Rattle.fields.specs.Field.{PageField, class, page, partial, next, prev, free, listed, get}
use Rattle.fields.specs.Outcome.{put_at}
use Rattle.pages.specs.Stack.{top_entries, descending, set_outs, latest, draw, has_more, push, pushed, back}
use Rattle.pages.specs.declared.Park.{Park}
use Rattle.pages.specs.Links.{point_next, linked, cut_out, link, unlink, park_run, pop_store}
use Rattle.pages.specs.Carve.{carved_at_once, carve_anew}
use Rattle.pages.proofs.Descending.{small, length-descending}
use Rattle.pages.proofs.TopEntries.{top_entries-kept}
use Rattle.pages.proofs.Frames.{back-free}
use Rattle.calls.specs.Release.{unlisted, relisted, emptied}
use Rattle.refinement.proofs.Neighbours.{Named}
use Rattle.refinement.proofs.Override.{override, PageIn, RowIn, get-page, put-page, get-slot, put-slot, put-out, get-row, put-row}

-- ---- a page's blocks
module _ {S : ℕ → Bool} {q : ℕ} (p : PageIn S q) (b d : List ℕ) where
  pub marks_in : (v : ℕ) (is : List ℕ) → every small is ≡ true → set_outs (override S b d) q v is ≡ override S (set_outs b q v is) d
  marks_in v [] h = refl
  marks_in v (i ∷ is) h =
      rw (marks_in v is (and_right (small i) (every small is) h))
      (put-out p (set_outs b q v is) d i v (ltb-true i 4096 (and_left (small i) (every small is) h)))

  pub push_in : (t : ℕ) (is : List ℕ) → t + length is ≤ 4096 → push (override S b d) q t is ≡ override S (push b q t is) d
  push_in t [] h = refl
  push_in t (i ∷ is) h = rw (push_in t is (omega arith)) (put-slot p (push b q t is) d (t + length is) i (omega arith))

  top_entries_in : (m t : ℕ) → t ≤ 4096 → top_entries (override S b d) q m t ≡ top_entries b q m t
  top_entries_in m t h = top_entries-kept b (override S b d) q m t (λ i l. get-slot p b d i (omega arith))

  pub more_in : (sh : Shape) → has_more (override S b d) sh q ≡ has_more b sh q
  unfolding has_more
  more_in sh = simp (get-page p)

  pub latest_in : (sh : Shape) (m : ℕ) → get b (page free q) ≤ 4096 → latest (override S b d) sh q m ≡ latest b sh q m
  unfolding latest
  latest_in sh m h = simp (get-page p, top_entries_in m (get b (page free q)) h)

  pub draw_in : (sh : Shape) (m : ℕ) → get b (page free q) ≤ 4096 → every small (latest b sh q m) ≡ true → draw (override S b d) sh q m ≡ override S (draw b sh q m) d
  unfolding draw
  draw_in sh m h e = simp (get-page p, latest_in sh m h, marks_in 1 (latest b sh q m) e, put-page p)

  pub carve_in : (sh : Shape) (v : Bool) → carved_at_once sh ≤ 4096 → carve_anew (override S b d) sh q v ≡ override S (carve_anew b sh q v) d
  unfolding carve_anew
  carve_in sh v h = rw (push_in 0 (descending 0 (carved_at_once sh)) (omega (arith, length-descending 0 (carved_at_once sh)))) (simp (put-page p))

  pub emptied_in : emptied (override S b d) q ≡ override S (emptied b q) d
  unfolding emptied
  emptied_in = simp (put-page p)

module _ {S : ℕ → Bool} {q : ℕ} (p : PageIn S q) (b d : List ℕ) where
  pushed_in : (is : List ℕ) → get b (page free q) + length is ≤ 4096 → pushed (override S b d) q is ≡ override S (pushed b q is) d
  unfolding pushed
  pushed_in is h = rw (get-page p b d free, push_in p b d (get b (page free q)) is h) (simp (put-page p))

module _ {S : ℕ → Bool} {q : ℕ} (p : PageIn S q) (b d : List ℕ) where
  pub back_in : (is : List ℕ) → every small is ≡ true → get b (page free q) + length is ≤ 4096 → back (override S b d) q is ≡ override S (back b q is) d
  unfolding back
  back_in is e h = rw (marks_in p b d 0 is e) (pushed_in p (set_outs b q 0 is) d is (rw (back-free b q is e) h))

-- ---- the class's lists
-- the page of a code, if there is one, lies in S
abbrev pub CodeIn : (ℕ → Bool) → ℕ → Type 0
CodeIn S x = Named (PageIn S) x

put_at_in : {S : ℕ → Bool} (k : PageField) (x v : ℕ) → CodeIn S x → (b d : List ℕ) → put_at (override S b d) k x v ≡ override S (put_at b k x v) d
put_at_in k zero v h b d = refl
put_at_in k (suc x) v h b d = put-page (h x refl) b d k v

point_in : {S : ℕ → Bool} {c : ℕ} → RowIn S c → (y x : ℕ) → CodeIn S y → (b d : List ℕ) → point_next (override S b d) c y x ≡ override S (point_next b c y x) d
point_in r zero x h b d = put-row r b d partial x
point_in r (suc y) x h b d = put-page (h y refl) b d next x

module _ {S : ℕ → Bool} {c q : ℕ} (r : RowIn S c) (p : PageIn S q) (b d : List ℕ) where
  pub link_in : CodeIn S (get b (class partial c)) → link (override S b d) c q ≡ override S (link b c q) d
  unfolding link linked
  link_in h = simp (get-row r, put-page p, put_at_in prev (get b (class partial c)) (q + 1) h, put-row r)

  pub unlink_in : CodeIn S (get b (page next q)) → CodeIn S (get b (page prev q)) → unlink (override S b d) c q ≡ override S (unlink b c q) d
  unfolding unlink cut_out
  unlink_in h k =
      simp (get-page p, point_in r (get b (page prev q)) (get b (page next q)) k, put_at_in prev (get b (page next q)) (get b (page prev q)) h, put-page p)

  pub pop_store_in : (k : Park) → pop_store (override S b d) c k q ≡ override S (pop_store b c k q) d
  unfolding pop_store
  pop_store_in k = simp (get-page p, get-row r, put-row r)

  pub park-run_in : (k : Park) → park_run (override S b d) c k q ≡ override S (park_run b c k q) d
  unfolding park_run
  park-run_in k = simp (get-row r, put-page p, put-row r)

  pub unlisted_in : (get b (page listed q) ≡ 1 → CodeIn S (get b (page next q)) × CodeIn S (get b (page prev q))) → unlisted (override S b d) c q ≡ override S (unlisted b c q) d
  unfolding unlisted
  unlisted_in h =
      by_cases (eqb (get b (page listed q)) 1)
      (λ e. let k = h (eqb-true (get b (page listed q)) 1 e) in rw (get-page p b d listed, e) (unlink_in k.0 k.1))
      (λ e. rw (get-page p b d listed, e))

  pub relisted_in : CodeIn S (get b (class partial c)) → relisted (override S b d) c q ≡ override S (relisted b c q) d
  unfolding relisted
  relisted_in h = by_cases (eqb (get b (page listed q)) 0) (λ e. rw (get-page p b d listed, e) (link_in h)) (λ e. rw (get-page p b d listed, e))
