-- What each step on a class's pages may change: everything but the fields at which a test fails is as it was.
--     changes-link .. changes-new    the steps
--     back-free                      blocks that come back leave FREE until they are counted
use Rattle.facts.proofs.Prelude.{ℕ, zero, suc, ◌+◌, ◌*◌, ◌/◌, ◌≤◌, ◌<◌, arith, add-zero, Bool, true, false, cond, List, ◌≡◌, refl, ap, ◌∙◌, ltb, length, every}
use Rattle.words.specs.Limits.{class_rows}
use Rattle.model.specs.Page.{is_medium}
use Rattle.classes.specs.declared.Shape.{Shape}
use Rattle.fields.specs.Field.{Field, class, page, slot, mark, out, partial, next, prev, first, free, carved, listed, virgin, get, put}
use Rattle.fields.specs.Clear.{clear_out, clear_marks}
use Rattle.fields.proofs.Changes.{Changes, changes-none, changes-put, changes_trans}
use Rattle.fields.proofs.Outcome.{changes-put_at}
use Rattle.fields.proofs.Clear.{changes-row, changes-clear, changes-clear_marks}
use Rattle.pages.specs.declared.Park.{Park}
use Rattle.words.specs.Host.{digit}
use Rattle.pages.specs.Runs.{name_run}
use Rattle.pages.specs.Stack.{descending, set_outs, pushed}
use Rattle.pages.specs.Links.{point_next, linked, cut_out, link, unlink, top, stored, park_run, pop_store}
use Rattle.pages.specs.Carve.{carved_at_once, carve_anew, out_words, bare_run, new_run}
use Rattle.pages.proofs.Descending.{small, length-descending}
use Rattle.pages.proofs.SetOuts.{set_outs-kept}
use Rattle.pages.proofs.Pushes.{push-changes}

pub at_once-le : (sh : Shape) → carved_at_once sh ≤ sh.capacity
at_once-le sh = go (is_medium sh)
  where
    go : (t : Bool) → cond t sh.capacity 0 ≤ sh.capacity
    go true = omega arith
    go false = omega arith

pub at_once-few : (sh : Shape) (k : ℕ) → k ≡ carved_at_once sh → sh.capacity ≤ 4096 → k ≤ 4096
at_once-few sh k e h = omega (arith, at_once-le sh)

module _ (t : Field → Bool) (b : List ℕ) (c q : ℕ) (hc : ltb c class_rows ≡ true) where
  -- ---- the partial list
  pub changes-link : t (class partial c) ≡ true → t (page next q) ≡ true → t (page prev q) ≡ true → t (page listed q) ≡ true
      → ((x : ℕ) → get b (class partial c) ≡ suc x → t (page prev x) ≡ true) → Changes t b (link b c q)
  unfolding link linked
  changes-link hh hn hp hl ho =
      let h = get b (class partial c) in
      changes-put t b _ (page listed q) 1 refl hl
      (changes-put t b _ (class partial c) (q + 1) hc hh
      (changes-put_at t b _ prev h (q + 1) ho
      (changes-put t b _ (page prev q) 0 refl hp
      (changes-put t b b (page next q) h refl hn (changes-none t b)))))

  point_changes : (y x : ℕ) → (y ≡ 0 → t (class partial c) ≡ true) → ((z : ℕ) → y ≡ suc z → t (page next z) ≡ true) → Changes t b (point_next b c y x)
  point_changes zero x h k = changes-put t b b (class partial c) x hc (h refl) (changes-none t b)
  point_changes (suc y) x h k = changes-put t b b (page next y) x refl (k y refl) (changes-none t b)

  pub changes-unlink : (get b (page prev q) ≡ 0 → t (class partial c) ≡ true) → ((z : ℕ) → get b (page prev q) ≡ suc z → t (page next z) ≡ true)
      → ((z : ℕ) → get b (page next q) ≡ suc z → t (page prev z) ≡ true) → t (page next q) ≡ true → t (page prev q) ≡ true → t (page listed q) ≡ true
      → Changes t b (unlink b c q)
  unfolding unlink cut_out
  changes-unlink hh hy hx hn hp hl =
      let x = get b (page next q) in
      let y = get b (page prev q) in
      changes-put t b _ (page listed q) 0 refl hl
      (changes-put t b _ (page prev q) 0 refl hp
      (changes-put t b _ (page next q) 0 refl hn
      (changes-put_at t b _ prev x y hx (point_changes y x hh hy))))

  -- ---- the stores
  module _ (k : Park) (ht : t (class (top k) c) ≡ true) (hk : t (class (stored k) c) ≡ true) where
    pub changes-pop_store : Changes t b (pop_store b c k q)
    unfolding pop_store
    changes-pop_store = changes-put t b _ (class (stored k) c) _ hc hk (changes-put t b b (class (top k) c) _ hc ht (changes-none t b))

    pub changes-park_run : t (page next q) ≡ true → Changes t b (park_run b c k q)
    unfolding park_run
    changes-park_run hn =
        changes-put t b _ (class (stored k) c) _ hc hk
        (changes-put t b _ (class (top k) c) _ hc ht (changes-put t b b (page next q) _ refl hn (changes-none t b)))

-- ---- runs and carving
pub name-last : (b : List ℕ) (f x m : ℕ) → name_run b f x (suc m) ≡ put (name_run b f x m) (page first (x + m)) f
unfolding name_run
name-last b f x zero = rw add-zero
name-last b f x (suc m) = name-last (put b (page first x) f) f (suc x) m ∙ ap (λ y. put (name_run (put b (page first x) f) f (suc x) m) (page first y) f) (omega arith)

pub changes-name : (t : Field → Bool) (b b' : List ℕ) (f x m : ℕ) → ((y : ℕ) → x ≤ y → y < x + m → t (page first y) ≡ true) → Changes t b b' → Changes t b (name_run b' f x m)
unfolding name_run
changes-name t b b' f x m h = changes-row (λ k. page first (x + k)) f (name_run b' f x) (name-last b' f x) t b m (λ k l. refl) (λ k l. h (x + k) (omega arith) (omega arith))

module _ (t : Field → Bool) (b : List ℕ) (q : ℕ) (hf : t (page free q) ≡ true) (hv : t (page virgin q) ≡ true) (hs : (i : ℕ) → t (slot q i) ≡ true) where
  pub changes-pushed : (is : List ℕ) → get b (page free q) + length is ≤ 4096 → Changes t b (pushed b q is)
  unfolding pushed
  changes-pushed is l =
      changes-put t b _ (page free q) _ refl hf
      (changes-put t b _ (page virgin q) 0 refl hv (push-changes b q (get b (page free q)) t hs is l))

  pub changes-carve : (sh : Shape) (v : Bool) → t (page carved q) ≡ true → sh.capacity ≤ 4096 → Changes t b (carve_anew b sh q v)
  unfolding carve_anew
  changes-carve sh v hk h =
      let k = carved_at_once sh in
      let l : 0 + length (descending 0 k) ≤ 4096 = omega (arith, length-descending 0 k, at_once-few sh k refl h) in
      changes-put t b _ (page free q) k refl hf
      (changes-put t b _ (page carved q) k refl hk
      (changes-put t b _ (page virgin q) (digit v) refl hv (push-changes b q 0 t hs (descending 0 k) l)))

pub changes-new : (t : Field → Bool) (b : List ℕ) (sh : Shape) (q : ℕ) → sh.capacity ≤ 4096
    → t (page free q) ≡ true → t (page virgin q) ≡ true → ((i : ℕ) → t (slot q i) ≡ true) → t (page carved q) ≡ true → t (page listed q) ≡ true
    → ((i : ℕ) → t (out q i) ≡ true) → ((j : ℕ) → t (mark q j) ≡ true) → ((y : ℕ) → q ≤ y → y < q + sh.pages → t (page first y) ≡ true) → Changes t b (new_run b sh q)
unfolding new_run bare_run
changes-new t b sh q h hf hv hs hk hl ho hm hn =
    let b₁ = name_run b q q sh.pages in
    let b₂ = clear_out b₁ q 0 (32 * out_words sh) in
    let b₃ = clear_marks b₂ q (out_words sh) in
    let few : 0 + 32 * ((sh.capacity + 31) / 32) ≤ 4096 = omega arith in
    let words : (sh.capacity + 31) / 32 ≤ 128 = omega arith in
    changes_trans t b (put b₃ (page listed q) 0) _
    (changes-put t b b₃ (page listed q) 0 refl hl (changes-clear_marks t b (out_words sh) q b₂ words hm (changes-clear t b (32 * out_words sh) q 0 b₁ few (λ j l m. ho j) (changes-name t b b q q sh.pages hn (changes-none t b)))))
    (changes-carve t (put b₃ (page listed q) 0) q hf hv hs sh true hk h)

-- ---- blocks that come back
pub back-free : (b : List ℕ) (q : ℕ) (is : List ℕ) → every small is ≡ true → get (set_outs b q 0 is) (page free q) ≡ get b (page free q)
back-free b q is s = set_outs-kept b q 0 is s (page free q) refl refl
