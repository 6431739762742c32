-- The ways out of the functions on a class's lists.
use Rattle.facts.proofs.Prelude.{ℕ, zero, suc, ◌+◌, ◌-◌, sub-one, true, List, ◌≡◌, refl, ltb, length, lt-ltb}
use Rattle.words.specs.Limits.{class_rows}
use Rattle.fields.specs.Field.{class, page, partial, next, prev, listed, get, put}
use Rattle.fields.specs.Outcome.{put_at}
use Rattle.fields.proofs.Laws.{get-put_other, length-put}
use Rattle.pages.specs.declared.Park.{Park}
use Rattle.pages.specs.declared.Park.TheVariants.{Empty, Cold}
use Rattle.pages.specs.way.Pre.{LinkPre, UnparkRunPre}
use Rattle.pages.specs.Links.{point_next, linked, cut_out, link, unlink, top, stored, park_run, pop_store, unpark_run}

pub point_next-none : (b b' : List ℕ) (c code v : ℕ) → code ≡ 0 → b' ≡ put b (class partial c) v → b' ≡ point_next b c code v
point_next-none b b' c code v h e = rw h e

pub point_next-some : (b b' : List ℕ) (c code v : ℕ) → (code ≡ 0 → ⊥) → b' ≡ put b (page next (code - 1)) v → b' ≡ point_next b c code v
point_next-some b b' c zero v h e = absurd (h refl)
point_next-some b b' c (suc q) v h e = rw sub-one at e

-- a page that leaves a store: the partial list's head is as it was
partial-pop_store : (b : List ℕ) (c : ℕ) (k : Park) (q : ℕ) → ltb c class_rows ≡ true → get (pop_store b c k q) (class partial c) ≡ get b (class partial c)
unfolding pop_store
partial-pop_store b c Empty q h = simp get-put_other
partial-pop_store b c Cold q h = simp get-put_other

length-pop_store : (b : List ℕ) (c : ℕ) (k : Park) (q : ℕ) → length (pop_store b c k q) ≡ length b
unfolding pop_store
length-pop_store b c k q = simp length-put

pub unpark_run-links : (b b₁ : List ℕ) (c : ℕ) (k : Park) (q : ℕ) → UnparkRunPre b c k q → b₁ ≡ pop_store b c k q → LinkPre b₁ c q
unpark_run-links b b₁ c k q h e =
    let l = length-pop_store b c k q in
    let p = partial-pop_store b c k q (lt-ltb c class_rows h.known) in
    record { known = h.known; below = h.below; there = rw (e, l) h.there; head = rw (e, l, p) h.head }

module _ (b : List ℕ) (c q : ℕ) where
  pub entered : (h : ℕ) (b₁ b₂ b₃ b₄ : List ℕ) → h ≡ get b (class partial c) → b₁ ≡ put b (page next q) h → b₂ ≡ put b₁ (page prev q) 0 → b₃ ≡ put_at b₂ prev h (q + 1) → b₄ ≡ put b₃ (class partial c) (q + 1) → b₄ ≡ linked b c q
  unfolding linked
  entered h b₁ b₂ b₃ b₄ e e₁ e₂ e₃ e₄ = cc

  pub link-done : (b₁ b₂ : List ℕ) → b₁ ≡ linked b c q → b₂ ≡ put b₁ (page listed q) 1 → b₂ ≡ link b c q
  unfolding link
  link-done b₁ b₂ e₁ e₂ = cc

  pub cut-done : (x y : ℕ) (b₁ b₂ b₃ b₄ : List ℕ) → b₁ ≡ point_next b c y x → b₂ ≡ put_at b₁ prev x y → b₃ ≡ put b₂ (page next q) 0 → b₄ ≡ put b₃ (page prev q) 0 → b₄ ≡ cut_out b c q x y
  unfolding cut_out
  cut-done x y b₁ b₂ b₃ b₄ e₁ e₂ e₃ e₄ = cc

  pub unlink-done : (x y : ℕ) (b₁ b₂ : List ℕ) → x ≡ get b (page next q) → y ≡ get b (page prev q) → b₁ ≡ cut_out b c q x y → b₂ ≡ put b₁ (page listed q) 0 → b₂ ≡ unlink b c q
  unfolding unlink
  unlink-done x y b₁ b₂ e f e₁ e₂ = cc

  pub park_run-done : (k : Park) (t m : ℕ) (b₁ b₂ b₃ : List ℕ) → t ≡ get b (class (top k) c) → m ≡ get b (class (stored k) c) → b₁ ≡ put b (page next q) t → b₂ ≡ put b₁ (class (top k) c) (q + 1) → b₃ ≡ put b₂ (class (stored k) c) (m + 1) → b₃ ≡ park_run b c k q
  unfolding park_run
  park_run-done k t m b₁ b₂ b₃ e f e₁ e₂ e₃ = cc

  pub pop_store-done : (k : Park) (x m : ℕ) (b₁ b₂ : List ℕ) → x ≡ get b (page next q) → m ≡ get b (class (stored k) c) → b₁ ≡ put b (class (top k) c) x → b₂ ≡ put b₁ (class (stored k) c) (m - 1) → b₂ ≡ pop_store b c k q
  unfolding pop_store
  pop_store-done k x m b₁ b₂ e f e₁ e₂ = cc

  pub unpark_run-done : (k : Park) (b₁ b₂ : List ℕ) → b₁ ≡ pop_store b c k q → b₂ ≡ link b₁ c q → b₂ ≡ unpark_run b c k q
  unpark_run-done k b₁ b₂ e₁ e₂ = cc
