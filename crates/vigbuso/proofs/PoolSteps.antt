-- The ways out of the exported calls of the pool.
use Rattle.facts.proofs.Prelude.{ℕ, ◌+◌, ◌-◌, ◌≤◌, ◌<◌, arith, Bool, true, false, cond, not, ◌&&◌, List, ◌≡◌, refl, sym, ◌∙◌, leb, length, eq-eqb, ne_eqb}
use Rattle.facts.proofs.Prelude.{le-leb, lt-leb, not-true, not-false}
use Rattle.words.specs.Limits.{class_rows}
use Rattle.classes.specs.Shape as Shape
use Rattle.classes.specs.Shape.{shape_of, class_count, pool_id}
use Rattle.fields.specs.Field.{arena, size, frontier, get, Has}
use Rattle.fields.specs.Ranges.{meta_fault, format_valid, head_valid}
use Rattle.fields.proofs.Sound.{head-frontier}
use Rattle.model.specs.Release.{of_kind}
use Rattle.std.specs.Prelude.{Result, Err}
use Rattle.words.specs.declared.refusal.Refusal.{Refusal}
use Rattle.words.specs.Refusal.{number_of, code_of}
use Rattle.words.proofs.Refusals.{positive}
use Rattle.stock.specs.way.Pre.{StockPre, PoolPre}
use Rattle.stock.specs.way.Ends.{block_left, Granted}
use Rattle.trace.specs.way.Pre.{BookPre}
use Rattle.trace.specs.Words.{owner_at}
use Rattle.pool.specs.Pool.{PoolRequest, alloc, free, trim, host_in}
use Rattle.poolcalls.specs.Calls.{PoolReply, request_on, alloc_on, free_on, trim_on, granted_in, stocked_in}
use Rattle.vigbuso.specs.Faults.{class_fault, admits}
use Rattle.vigbuso.specs.Pool.{pool_on, class_on, granted_on, stocked_on, BlockEnds, FreeEnds}
use Rattle.vigbuso.proofs.FaultSteps.{class-book, class-below, admits-book, admits-class}
use Rattle.vigbuso.proofs.DirectSteps.{book_in}

pub pool-pre : (b : List ℕ) (h c n : ℕ) → 0 ≡ class_fault b h class_count c → n ≡ get b (arena size) → PoolPre n b c
pool-pre b h c n e f = let k = book_in b (class-book b h class_count c 0 e refl) n f in record { known = class-below b h class_count c 0 e refl; few = k.small; long = k.long }

module _ (b : List ℕ) (c h : ℕ) where
  module _ (q : Refusal) (e : number_of q ≡ class_fault b h class_count c) where
    told : number_of q ≡ 0 → ⊥
    told z = omega (arith, positive q)

    pub alloc-unfit : Granted (pool_on b c (alloc h)) (Err q) b
    unfolding pool_on
    alloc-unfit = rw (← e, ne_eqb (number_of q) 0 told) (record { ends = λ w. record { code = refl; book = refl; block = refl } })

    pub free-unfit : (w : ℕ) → FreeEnds (pool_on b c (free h w)) (number_of q) b
    unfolding pool_on
    free-unfit w = rw (← e, ne_eqb (number_of q) 0 told) (record { code = refl; book = refl })

    pub trim-unfit : Granted (pool_on b c (trim h)) (Err q) b
    unfolding pool_on
    trim-unfit = rw (← e, ne_eqb (number_of q) 0 told) (record { ends = λ w. record { code = refl; book = refl; block = refl } })

  module _ (n : ℕ) (e : 0 ≡ class_fault b h class_count c) (f : n ≡ get b (arena size)) (b' : List ℕ) where
    goes : (x : PoolRequest) → host_in x ≡ h → pool_on b c x ≡ request_on n b c x
    unfolding pool_on
    goes x i = rw (i, ← e, f)

    pub alloc_goes : (q : Result ℕ Refusal) → Granted (alloc_on n b c h) q b' → Granted (pool_on b c (alloc h)) q b'
    alloc_goes q t = rw (goes (alloc h) refl) t

    pub free-goes : (w k : ℕ) → FreeEnds (free_on n b c h w) k b' → FreeEnds (pool_on b c (free h w)) k b'
    free-goes w k t = rw (goes (free h w) refl) t

    pub trim-goes : (q : Result ℕ Refusal) → Granted (trim_on n b c h) q b' → Granted (pool_on b c (trim h)) q b'
    trim-goes q t = rw (goes (trim h) refl) t

-- what C is told
pub answered : (s : PoolReply) (q : Result ℕ Refusal) (b : List ℕ) (r old new : ℕ) → r ≡ code_of q → new ≡ block_left q old → Granted s q b → BlockEnds s r b old new
answered s q b r old new i j t = rw (i, j) (t.ends old)

pub freed : (s : PoolReply) (b : List ℕ) (r k : ℕ) → r ≡ k → FreeEnds s k b → FreeEnds s r b
freed s b r k i t = rw i t

-- ---- the number of the class that has a block's page
module _ (b : List ℕ) (w r : ℕ) (e : r ≡ meta_fault b) where
  pub class-unfit : (r ≡ 0 → ⊥) → class_count ≡ class_on b w
  unfolding class_on
  class-unfit d = rw (← e, ne_eqb r 0 d)

  module _ (z : r ≡ 0) where
    pub book-valid : meta_fault b ≡ 0
    book-valid = sym e ∙ z

    module _ (n : ℕ) (f : n ≡ get b (arena size)) where
      pub book-long : 40000 ≤ length b
      book-long = omega (arith, (book_in b book-valid n f).long)

      pub has-frontier : Has b (arena frontier)
      has-frontier = omega (arith, book-long)

      module _ (t : Bool) (et : t ≡ head_valid n b) where
        pub class_unmade : not t ≡ true → class_count ≡ class_on b w
        unfolding class_on
        class_unmade u = rw (← e, eq-eqb r 0 z, ← f, ← et, not-true t u)

        module _ (u : not t ≡ false) (m : ℕ) (em : m ≡ get b (arena frontier)) where
          pub owner-pre : BookPre m b
          owner-pre =
              let k = book_in b book-valid n f in
              let l = head-frontier n b (sym et ∙ not-false t u) in
              record { few = omega (arith, k.small); long = omega (arith, k.long) }

          held : (k : ℕ) → k ≡ owner_at m b w → class_on b w ≡ cond (leb 1 k && leb k class_rows) (Shape.number_of (k - 1)) class_count
          unfolding class_on
          held k ek = rw (← e, eq-eqb r 0 z, ← f, ← et, not-false t u, ← em, ← ek)

          pub class-none : 0 ≡ owner_at m b w → class_count ≡ class_on b w
          class-none o = sym (held 0 o)

          module _ (d : ℕ) (ed : d + 1 ≡ owner_at m b w) where
            some : leb 1 (d + 1) ≡ true
            some = le-leb 1 (d + 1) (omega arith)

            pub class-high : class_rows ≤ d → class_count ≡ class_on b w
            class-high h = sym (held (d + 1) ed ∙ rw (some, lt-leb (d + 1) class_rows (omega arith)))

            pub class-held : d < class_rows → (s : ℕ) → s ≡ Shape.number_of d → s ≡ class_on b w
            class-held h s es = let one : d + 1 - 1 ≡ d = omega arith in es ∙ sym (held (d + 1) ed ∙ rw (some, le-leb (d + 1) class_rows (omega arith), one))

-- ---- a granted block, and the blocks in stock
module _ (b : List ℕ) (c : ℕ) (t : Bool) (e : t ≡ admits b c) where
  pub granted-no : (w : ℕ) → t ≡ false → false ≡ granted_on b c w
  unfolding granted_on
  granted-no w z = rw (← e, z)

  pub stocked-no : t ≡ false → 0 ≡ stocked_on b c
  unfolding stocked_on
  stocked-no z = rw (← e, z)

  module _ (z : t ≡ true) where
    pub admitted-pre : (n : ℕ) → n ≡ get b (arena size) → PoolPre n b c
    admitted-pre n f =
        let k = book_in b (admits-book b c t e z) n f in
        record { known = admits-class b c t e z; few = k.small; long = k.long }

    pub stock-pre : StockPre b c
    stock-pre = let a = admitted-pre (get b (arena size)) refl in record { known = a.known; long = omega (arith, a.long) }

    pub granted-is : (n w : ℕ) (g : Bool) → n ≡ get b (arena size) → g ≡ (format_valid b && (of_kind (shape_of (pool_id c)).kind w && granted_in n b c w)) → g ≡ granted_on b c w
    unfolding granted_on
    granted-is n w g f h = rw (← e, z, ← f) h

    pub stocked-is : (k : ℕ) → k ≡ stocked_in b c → k ≡ stocked_on b c
    unfolding stocked_on
    stocked-is k h = rw (← e, z) h
