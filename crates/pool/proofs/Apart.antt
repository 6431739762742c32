-- Entries of takes and grants not yet given back share no byte, with each other and with pages held by hand.
--     out-apart            two blocks out of the heap, granted or in stock, do not begin at one granule
--     out-inside, out-word    such a block lies in the arena, and its word is that of its class's kind
use Rattle.facts.proofs.Prelude.{ℕ, ◌+◌, ◌*◌, ◌/◌, ◌≤◌, arith, Bool, false, List, [], ◌≡◌, sym, ap, ◌∙◌, subst, total}
use Rattle.words.specs.Limits.{max_pages}
use Rattle.words.specs.Word.{granule_of, kind_of, block_word}
use Rattle.classes.specs.Shape.{shape_of}
use Rattle.classes.specs.Sizes.{page_bytes, granule_bytes}
use Rattle.classes.proofs.Shapes.{shape-sound}
use Rattle.rules.specs.Rules.{Rules}
use Rattle.model.specs.History.{Event}
use Rattle.model.specs.Entries.{Entry, In, Live, HasByte, first_byte, block_bytes}
use Rattle.model.proofs.Fold.{live_from, live_in}
use Rattle.model.proofs.EntryCounts.{is, at, is_self, in_total, Has, counted}
use Rattle.model.proofs.Accounts.{not-direct}
use Rattle.model.proofs.Apart.{in_one, at_self, entry-held, entry-inside, entry-kind, class_same, word_same}
use Rattle.pool.specs.Pool.{Pool, PoolCall}
use Rattle.pool.specs.Observed.{observed_of, pool_events}
use Rattle.pool.specs.way.Claims.{PoolDisjoint}
use Rattle.pool.proofs.Kept.{PoolInv, pool-kept, at_most, told-out}

has-byte : (e e' : Entry) (b : ℕ) → e'.class ≡ e.class → e'.word ≡ e.word → HasByte e b → HasByte e' b
has-byte e e' b p q h = record { from = rw q h.from; to = rw (p, q) h.to }

module _ (size : ℕ) (small : size ≤ max_pages) (n k : ℕ) (P : Pool) (es gs : List Entry) (f : ℕ → Bool) (l : ℕ → ℕ) (K : PoolInv size n k P es gs f l) where
  -- an entry or a grant is an entry of the heap's calls
  lift : (e : Entry) → In e gs → Has e.class e.word es
  lift e m = counted e.class e.word es (omega (arith, told-out K e.class e.word, in_total (is e.class e.word) e gs m, is_self e))

  -- two blocks that are out, granted or in stock, begin at different granules, or are one
  pub out-apart : (c w d v : ℕ) → 1 ≤ total (is c w) es → 1 ≤ total (is d v) es → granule_of w ≡ granule_of v → (c ≡ d) × (w ≡ v)
  out-apart c w d v h k g =
      let u = counted c w es h in
      let t = counted d v es k in
      let b = granule_of w * granule_bytes in
      let hu : HasByte u.entry b = record { from = omega (arith, u.of_word); to = omega (arith, u.of_word, (shape-sound u.entry.class).wide) } in
      let ht : HasByte t.entry b = record { from = omega (arith, t.of_word); to = omega (arith, t.of_word, (shape-sound t.entry.class).wide) } in (
        sym u.of_class_lem ∙ class_same size n P.heap es f l K.inv small u.entry t.entry u.member t.member b hu ht ∙ t.of_class_lem,
        sym u.of_word ∙ word_same size n P.heap es f l K.inv small u.entry t.entry u.member t.member b hu ht ∙ t.of_word,
      )

  pub out-inside : (c w : ℕ) → 1 ≤ total (is c w) es → granule_of w + (shape_of c).block ≤ 4096 * size
  out-inside c w h =
      let u = counted c w es h in
      let e = entry-inside size n P.heap es f l K.inv small u.entry u.member in
      let s : (shape_of u.entry.class).block ≡ (shape_of c).block = ap (λ d. (shape_of d).block) u.of_class_lem in
      omega (arith, e, s, u.of_word)

  pub out-word : (c w : ℕ) → 1 ≤ total (is c w) es → w ≡ block_word (shape_of c).kind (granule_of w)
  out-word c w h =
      let u = counted c w es h in
      let e : kind_of w ≡ (shape_of c).kind = ap kind_of (sym u.of_word) ∙ entry-kind size n P.heap es f l K.inv small u.entry u.member ∙ ap (λ z. (shape_of z).kind) u.of_class_lem in
      omega arith

  grant-same : (e e' : Entry) → In e gs → In e' gs → (b : ℕ) → HasByte e b → HasByte e' b → e ≡ e'
  grant-same e e' m m' b h h' =
      let u = lift e m in
      let v = lift e' m' in
      let hu = has-byte e u.entry b u.of_class_lem u.of_word h in
      let hv = has-byte e' v.entry b v.of_class_lem v.of_word h' in
      let c : e.class ≡ e'.class = sym u.of_class_lem ∙ class_same size n P.heap es f l K.inv small u.entry v.entry u.member v.member b hu hv ∙ v.of_class_lem in
      let w : e.word ≡ e'.word = sym u.of_word ∙ word_same size n P.heap es f l K.inv small u.entry v.entry u.member v.member b hu hv ∙ v.of_word in
      let y : is e.class e.word e' ≡ 1 = rw (c, w) (is_self e') in
      in_one (is e.class e.word) e e' gs m m'
      (omega (arith, told-out K e.class e.word, at_most K.inv e.class e.word))
      (omega (arith, is_self e)) (omega arith)

  grant_shares : (e e' : Entry) → In e gs → In e' gs → (e.call ≡ e'.call) × (e.place ≡ e'.place) → (b : ℕ) × HasByte e b × HasByte e' b
  grant_shares e e' m m' p =
      let y : at e.call e.place e' ≡ 1 = rw (p.0, p.1) (at_self e') in
      let same : e ≡ e' = in_one (at e.call e.place) e e' gs m m' (K.once e.call e.place) (omega (arith, at_self e)) (omega arith) in
      let h : HasByte e (first_byte e) = record { from = omega arith; to = omega (arith, (shape-sound e.class).wide) } in
      (first_byte e, h, subst (λ z. HasByte z (first_byte e)) same h)

  grant-inside : (e : Entry) → In e gs → first_byte e + block_bytes e ≤ size * page_bytes
  grant-inside e m =
      let u = lift e m in
      rw (u.of_class_lem, u.of_word) at (entry-inside size n P.heap es f l K.inv small u.entry u.member)

  grant-off : (e : Entry) → In e gs → (b : ℕ) → HasByte e b → f (b / page_bytes) ≡ false
  grant-off e m b h =
      let u = lift e m in
      K.inv.directs (b / page_bytes)
      ∙ not-direct u.entry.class (P.heap.holder (b / page_bytes)) (entry-held size n P.heap es f l K.inv small u.entry u.member b (has-byte e u.entry b u.of_class_lem u.of_word h))

module _ (size : ℕ) (small : size ≤ max_pages) (rules : Rules) (xs : List PoolCall) where
  abbrev vs : List Event
  vs = observed_of (pool_events size rules xs)

  live : (e : Entry) → Live 0 vs e → In e (live_from 0 [] vs)
  live e o = live_in 0 e [] vs o

  same : (e e' : Entry) → Live 0 vs e → Live 0 vs e' → (b : ℕ) → HasByte e b → HasByte e' b → e ≡ e'
  same e e' o o' = grant-same size small _ _ _ _ _ _ _ (pool-kept size rules xs).kept.holds e e' (live e o) (live e' o')

  pub pool-disjoint : PoolDisjoint size rules xs
  pool-disjoint =
      let I = (pool-kept size rules xs).kept.holds in
      record {
        disjoint = record {
          apart = λ e e' o o'. (
            (λ s. let p = same e e' o o' s.0 s.1 s.2 in (ap (λ z. z.call) p, ap (λ z. z.place) p)),
            (λ p. grant_shares size small _ _ _ _ _ _ _ I e e' (live e o) (live e' o') p),
          );
          off_direct = λ e o b h. grant-off size small _ _ _ _ _ _ _ I e (live e o) b h;
        };
        iso = record {
          in_arena = λ e o. grant-inside size small _ _ _ _ _ _ _ I e (live e o);
          no_common = λ e e' o o' other i j h h' p.
              let q = same e e' o o' (first_byte e + i) (record { from = omega arith; to = omega arith }) (record { from = omega arith; to = omega arith }) in
              other (ap (λ z. z.call) q, ap (λ z. z.place) q);
        };
      }
