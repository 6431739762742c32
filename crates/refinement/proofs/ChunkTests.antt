-- A group release's test of number 11 on the words is the model's.
--     same_blocks      a chunk's blocks are the model's
--     chunks-same      number 11
use Rattle.facts.proofs.Prelude.{ℕ, ◌≤◌, Bool, true, false, cond, not, ◌&&◌, List, [], ◌∷◌, map, Option, none, some, ◌≡◌}
use Rattle.facts.proofs.Prelude.{refl, ap, ◌∙◌, eqb, eqb-true, every, All, elem, distinct, by_cases, and_left, and_right}
use Rattle.words.specs.Word.{count_of, page_of}
use Rattle.classes.specs.declared.Shape.{Shape}
use Rattle.fields.specs.Ranges.{max_pages}
use Rattle.model.specs.Page.{Page, is_out}
use Rattle.model.specs.Class.{Class}
use Rattle.model.specs.Release.{Site, in_partial, in_full, locate, of_kind}
use Rattle.model.specs.Chunks as Model
use Rattle.model.specs.Chunks.{starts_at, fits_on, chunked_on, chunked}
use Rattle.model.proofs.Find.{all-at}
use Rattle.calls.specs.Out.{start_of, out_at}
use Rattle.calls.specs.Chunks.{blocks_on, chunk_fits, chunks_match}
use Rattle.refinement.specs.way.Represents.{PageRep, StateRep}
use Rattle.refinement.proofs.Basics.{Setting}
use Rattle.refinement.proofs.Found.{Located, nowhere, in_list, in_none, located, located-passes, found_at, placed-rep, same-page, site_of}

-- a count that is none fits nothing
none-fits : (k : ℕ) → (not (eqb k 0) && eqb k 0) ≡ false
none-fits k = by_cases (eqb k 0) (λ e. rw e) (λ e. rw e)

-- what fails everywhere fails at a site
site-fails : (u : Page → Bool) {t : Page → Bool} {s : Class} {x : Site} → Located t s (some x) → All (λ p. u p ≡ false) s.partial → All (λ p. u p ≡ false) s.full → u x.page ≡ false
unfolding in_partial in_full
site-fails u (in_list f h) a z = ((all-at (λ p. u p ≡ false) f.before f.page f.behind).0 (rw h.is at a)).0
site-fails u (in_none f h) a z = ((all-at (λ p. u p ≡ false) f.before f.page f.behind).0 (rw h.is at z)).0

module _ {n : ℕ} {b : List ℕ} {c : ℕ} {sh : Shape} (s : Setting n b c sh) (hn : n ≤ max_pages) where
  pub same_blocks : {l : ℕ} {p : Page} → PageRep n sh b c l p → (ws : List ℕ) → every (of_kind sh.kind) ws ≡ true → every (out_at n b c sh) ws ≡ true
      → Model.blocks_on sh ws p ≡ blocks_on b ws p.first
  unfolding Model.blocks_on blocks_on
  same_blocks r [] k o = refl
  same_blocks {p = p} r (w ∷ ws) k o =
      let e = same-page s hn r w (and_left (of_kind sh.kind w) (every (of_kind sh.kind) ws) k) (and_left (out_at n b c sh w) (every (out_at n b c sh) ws) o) in
      let ih = same_blocks r ws (and_right (of_kind sh.kind w) (every (of_kind sh.kind) ws) k) (and_right (out_at n b c sh w) (every (out_at n b c sh) ws) o) in
      both (is_out sh w p) (eqb (start_of b w) p.first) w e ih
    where
      both : (t u : Bool) (w : ℕ) {xs ys : List ℕ} → t ≡ u → xs ≡ ys → cond t (w ∷ xs) xs ≡ cond u (w ∷ ys) ys
      both t u w e f = cc

  module _ (t : Class) (r : StateRep n b c sh t) where
    module _ (gs : List ℕ) where
      chunked-is : (ws : List ℕ) → every (of_kind sh.kind) ws ≡ true → every (out_at n b c sh) ws ≡ true
          → every (λ w. elem (start_of b w) (map page_of gs)) ws ≡ every (chunked sh t gs) ws
      unfolding chunked
      chunked-is [] k o = refl
      chunked-is (w ∷ ws) k o =
          let x = site_of s hn t r w (and_left (of_kind sh.kind w) (every (of_kind sh.kind) ws) k) (and_left (out_at n b c sh w) (every (out_at n b c sh) ws) o) in
          let e : elem (start_of b w) (map page_of gs) ≡ chunked_on gs (locate (is_out sh w) t) = rw (x.is, x.start) in
          rw (e, chunked-is ws (and_right (of_kind sh.kind w) (every (of_kind sh.kind) ws) k) (and_right (out_at n b c sh w) (every (out_at n b c sh) ws) o))

    -- no block is out on a page that is nowhere
    nothing-on : (q : ℕ) → All (λ p. starts_at q p ≡ false) t.partial → All (λ p. starts_at q p ≡ false) t.full
        → (ws : List ℕ) → every (of_kind sh.kind) ws ≡ true → every (out_at n b c sh) ws ≡ true → blocks_on b ws q ≡ []
    unfolding blocks_on
    nothing-on q u v [] k o = refl
    nothing-on q u v (w ∷ ws) k o =
        let x = site_of s hn t r w (and_left (of_kind sh.kind w) (every (of_kind sh.kind) ws) k) (and_left (out_at n b c sh w) (every (out_at n b c sh) ws) o) in
        let e : eqb (start_of b w) q ≡ false = rw x.start (site-fails (starts_at q) x.found u v) in
        rw e (nothing-on q u v ws (and_right (of_kind sh.kind w) (every (of_kind sh.kind) ws) k) (and_right (out_at n b c sh w) (every (out_at n b c sh) ws) o))

    module _ (ws : List ℕ) (k : every (of_kind sh.kind) ws ≡ true) (o : every (out_at n b c sh) ws ≡ true) where
      fits-at : (g : ℕ) (x : Option Site) → Located (starts_at (page_of g)) t x → chunk_fits b ws g ≡ fits_on sh ws g x
      unfolding chunk_fits
      fits-at g none (nowhere u v) = rw (nothing-on (page_of g) u v ws k o) (none-fits (count_of g))
      fits-at g (some x) y =
          let e : Model.blocks_on sh ws x.page ≡ blocks_on b ws (page_of g)
          = same_blocks (placed-rep (found_at {zs = []} r y).placed) ws k o ∙ ap (blocks_on b ws) (eqb-true x.page.first (page_of g) (located-passes y)) in
          rw e

      fits-is : (gs : List ℕ) → every (chunk_fits b ws) gs ≡ every (Model.chunk_fits sh t ws) gs
      unfolding Model.chunk_fits
      fits-is [] = refl
      fits-is (g ∷ gs) = rw (fits-at g (locate (starts_at (page_of g)) t) (located (starts_at (page_of g)) t), fits-is gs)

      pub chunks-same : (gs : List ℕ) → chunks_match b ws gs ≡ (distinct (map page_of gs) && (every (Model.chunk_fits sh t ws) gs && every (chunked sh t gs) ws))
      unfolding chunks_match
      chunks-same gs = rw (fits-is gs, chunked-is gs ws k o)
