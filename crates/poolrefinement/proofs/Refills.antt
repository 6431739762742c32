-- An alloc on an empty stock: a take, whose last block is granted and whose others come into stock.
use Rattle.facts.proofs.Prelude.{ℕ, suc, ◌+◌, ◌-◌, ◌*◌, ◌≤◌, ◌<◌, arith, Bool, true, false, List, [], ◌∷◌, ◌++◌, reverse, reverse_aux, reverse-reverse, ◌≡◌, refl, sym}
use Rattle.facts.proofs.Prelude.{ap, ◌∙◌, subst, eqb, ltb, length, get_or, length-reverse, take-suc, eq-eqb, eqb-true, eqb-false, leb-true, elem, total, count, by_cases}
use lib.ListN as ListN
use Rattle.words.specs.Host.{bad_host}
use Rattle.words.specs.Word.{block_word, granule_of}
use Rattle.classes.specs.Shape.{shape_of, class_count, pool_id}
use Rattle.fields.specs.Ranges.{max_pages}
use Rattle.fields.specs.Field.{words}
use Rattle.model.specs.Calls as Calls
use Rattle.model.specs.Calls.{blocks_of, pooled_take}
use Rattle.model.specs.Heap.{Heap, Outcome, step}
use Rattle.model.specs.Entries.{Entry, direct_next}
use Rattle.model.specs.Yields.{Listed}
use Rattle.model.proofs.EntryCounts.{is}
use Rattle.model.proofs.Counts.{elem-count, count-not, count-reverse}
use Rattle.model.proofs.Update.{update_same, update_other, other_way}
use Rattle.calls.specs.Take.{Took, take_call}
use Rattle.refinement.proofs.ArenaHolders.{pooled_class}
use Rattle.refinement.specs.way.Represents.{Represents}
use Rattle.refinement.specs.Direct.{Agrees}
use Rattle.refinement.specs.Classes.{take_reply}
use Rattle.refinement.proofs.ArenaReached.{Reached}
use Rattle.refinement.proofs.TakeWhole.{take_whole}
use Rattle.pool.specs.Stock.{count_max, blank}
use Rattle.pool.specs.Pool.{Pool, alloc, goes, carry, ends, bring, with_stock, granted, no_block}
use Rattle.pool.specs.Observed.{request_call, as_answer}
use Rattle.pool.proofs.Lives as Lives
use Rattle.pool.proofs.Apart.{out-apart, out-inside, out-word}
use Rattle.pool.proofs.Kept.{PoolInv, PoolKept, at_most, brought}
use Rattle.pool.proofs.HeapCalls.{step-take, Within}
use Rattle.pool.proofs.Frees.{took-done, took-few, took-within}
use Rattle.poolcalls.specs.Stock.{count_in, entry_in, block_in, filled}
use Rattle.poolcalls.specs.Calls.{PoolReply, pool_reply, bring_on, took_on, alloc_on}
use Rattle.poolcalls.proofs.Laws.{in_stock}
use Rattle.poolrefinement.specs.way.Represents.{StockRep, PoolRep, PoolAgrees}
use Rattle.poolcalls.specs.way.HeapWords.{heap_word}
use Rattle.poolrefinement.proofs.Frame.{class-frame, represents-still}
use Rattle.poolrefinement.proofs.Stocks.{stock-still, Fresh, Off, filled-own, filled-other, filled-changes}
use Rattle.poolrefinement.proofs.Requests.{granule_of_lem, same_number, stocks-with, code-zero, none-count}

-- ---- the same by the blocks, the first popped first
abbrev brought_on : List ℕ → ℕ → List ℕ → PoolReply
brought_on b c [] = pool_reply no_block b
brought_on b c (w ∷ ws) = pool_reply (granted w) (filled b c (reverse ws))

reverse-last : (xs ys : List ℕ) (w : ℕ) → reverse_aux (xs ++ (w ∷ [])) ys ≡ w ∷ reverse_aux xs ys
reverse-last [] ys w = refl
reverse-last (x ∷ xs) ys w = reverse-last xs (x ∷ ys) w

brought-on : (b : List ℕ) (c m : ℕ) (l : List ℕ) → m ≤ length l → bring_on b c m l ≡ brought_on b c (reverse (ListN.take m l))
unfolding bring_on
brought-on b c m l h =
    by_cases (eqb m 0)
    (λ t. rw t (ap (λ j. brought_on b c (reverse (ListN.take j l))) (sym (eqb-true m 0 t))))
    (λ t.
    let ne = eqb-false m 0 t in
    let s : m ≡ suc (m - 1) = omega (arith, ne) in
    let w = get_or l (m - 1) 0 in
    let lt : m - 1 < length l = omega (arith, ne) in
    let cut : reverse (ListN.take m l) ≡ w ∷ reverse (ListN.take (m - 1) l) = ap (λ j. reverse (ListN.take j l)) s ∙ ap reverse (take-suc l (m - 1) 0 lt) ∙ reverse-last (ListN.take (m - 1) l) [] w in
    rw t (sym (ap (brought_on b c) cut ∙ ap (λ x. pool_reply (granted w) (filled b c x)) (reverse-reverse (ListN.take (m - 1) l)))))

-- blocks that are the class's, in the arena, and no two alike
fresh_of : (n c : ℕ) (ws st : List ℕ) → ((v : ℕ) → count v ws + count v st ≤ 1) → ((v : ℕ) → 1 ≤ count v ws → (v ≡ block_word (shape_of (pool_id c)).kind (granule_of v)) × (granule_of v + (shape_of (pool_id c)).block ≤ 4096 * n)) → Fresh n c st ws
fresh_of n c [] st once sound = tt
fresh_of n c (w ∷ ws) st once sound =
    let here : count w (w ∷ ws) ≡ 1 + count w ws = rw (eq-eqb w w refl) in
    let s = sound w (omega arith) in
    (s.0, s.1, count-not w st (omega (arith, once w)), fresh_of n c ws (w ∷ st) (λ v. omega (arith, once v)) (λ v h. sound v (omega arith)))

module _ (n : ℕ) (hn : n ≤ max_pages) (P : Pool) (b : List ℕ) (R : PoolRep n b P) (ok : Reached n P.heap) (listed : (c : ℕ) → Listed (shape_of c) (P.heap.classes c))
    (m k : ℕ) (es gs : List Entry) (f : ℕ → Bool) (l : ℕ → ℕ) (K : PoolInv n m k P es gs f l) (c : ℕ) (hc : ltb c class_count ≡ true) (h : ℕ) (fine : bad_host h ≡ false) (bare : P.stock c ≡ []) where
  abbrev H : Heap
  H = P.heap

  abbrev t : Took
  t = take_call n b (pool_id c) (shape_of (pool_id c)) h blank

  abbrev o : Outcome
  o = step n H (pooled_take c h blank)

  agrees : Agrees (Represents n) (take_reply t) o
  agrees = rw (step-take n H c h blank fine hc) (take_whole n b H R.heap ok (pool_id c) (pooled_class c hc) (listed (pool_id c)) h blank)

  zero-code : eqb t.code 0 ≡ true
  zero-code = code-zero t.code _ o.answer agrees.answer (took-done n P c h fine hc)

  answered : Calls.taken t.count t.list t.virgin ≡ o.answer
  answered = rw zero-code at agrees.answer

  blocks : ListN.take t.count t.list ≡ blocks_of o.answer
  blocks = ap blocks_of answered

  within : t.count ≤ length t.list
  within = subst Within (sym answered) (took-within n P c h fine hc)

  frame : (i : ℕ) → heap_word i ≡ false → get_or t.book i 0 ≡ get_or b i 0
  frame i e = class-frame n hn b H R.heap ok (pool_id c) (listed (pool_id c)) (Calls.take h blank) (pooled_class c hc) i e

  long : words n ≤ length t.book
  long = leb-true (words n) (length t.book) agrees.heap.arena.long

  beside : (d : ℕ) → ltb d class_count ≡ true → StockRep n t.book d (P.stock d)
  beside d hd = stock-still n b t.book d (P.stock d) hd frame (R.stocks d hd)

  module _ (w : ℕ) (ws : List ℕ) (e : reverse (blocks_of o.answer) ≡ w ∷ ws) where
    abbrev P' : Pool
    P' = with_stock P c o.heap ws

    abbrev gs' : List Entry
    gs' = Lives.next k (pool_id c) (Calls.take h blank) (as_answer (granted w)) gs

    abbrev f' : ℕ → Bool
    f' = direct_next (request_call c (alloc h)) (as_answer (granted w)) f

    next : PoolKept n (suc k) P' gs' f'
    next = brought n m k P es gs f l K c hc h fine (w ∷ ws) e (took-done n P c h fine hc) bare

    abbrev I : PoolInv n next.number (suc k) P' next.entries gs' f' next.lost
    I = next.holds

    short : length (reverse ws) ≤ count_max
    short = omega (arith, length-reverse ws, took-few n P c h fine hc, length-reverse (blocks_of o.answer), ap length e)

    out : (v : ℕ) → 1 ≤ count v (reverse ws) → 1 ≤ total (is (pool_id c) v) next.entries
    out v z = let s : P'.stock c ≡ ws = update_same P.stock c ws in omega (arith, I.split c v, ap (count v) s, count-reverse v ws)

    once : (v : ℕ) → count v (reverse ws) + count v [] ≤ 1
    once v = let s : P'.stock c ≡ ws = update_same P.stock c ws in omega (arith, I.split c v, ap (count v) s, count-reverse v ws, at_most I.inv (pool_id c) v)

    fresh : Fresh n c [] (reverse ws)
    fresh =
        fresh_of n c (reverse ws) [] once
        (λ v z. (out-word n hn next.number (suc k) P' next.entries gs' f' next.lost I (pool_id c) v (out v z), out-inside n hn next.number (suc k) P' next.entries gs' f' next.lost I (pool_id c) v (out v z)))

    -- another class has none of them
    module _ (d : ℕ) (hd : ltb d class_count ≡ true) (ne : eqb d c ≡ false) where
      apart : (v : ℕ) → 1 ≤ count v (reverse ws) → (j : ℕ) → j < count_in t.book d → entry_in t.book d j ≡ granule_of v → ⊥
      apart v z j lt g =
          let r = beside d hd in
          let x = block_in t.book d j in
          let y : elem x (P.stock d) ≡ true = subst (λ s. elem x s ≡ true) r.same (in_stock t.book d (entry_in t.book d j) (count_in t.book d) j lt refl) in
          let s : P'.stock d ≡ P.stock d = update_other P.stock c d ws (other_way d c ne) in
          let there : 1 ≤ total (is (pool_id d) x) next.entries = omega (arith, I.split d x, ap (count x) s, elem-count x (P.stock d) y) in
          eqb-false d c ne
          (same_number d c
          (sym (out-apart n hn next.number (suc k) P' next.entries gs' f' next.lost I (pool_id c) v (pool_id d) x (out v z) there (sym g ∙ sym (granule_of_lem n d (entry_in t.book d j) hn (r.low j lt)))).0))

      off_of : (xs : List ℕ) → ((v : ℕ) → 1 ≤ count v xs → 1 ≤ count v (reverse ws)) → Off n c hc d hd ne (P.stock d) t.book xs
      off_of [] z = tt
      off_of (v ∷ xs) z = (apart v (z v (rw (eq-eqb v v refl) (omega arith))), off_of xs (λ u q. z u (omega arith)))

    filled-agrees : Reached n o.heap → PoolAgrees n (pool_reply (granted w) (filled t.book c (reverse ws))) (record { pool = P'; answer = granted w; calls = pooled_take c h blank ∷ []; run = o.run })
    filled-agrees reach = record {
      answer = refl;
      pool = record {
        heap = represents-still n t.book o.heap agrees.heap reach (filled t.book c (reverse ws)) (filled-changes n c hc (reverse ws) t.book short);
        stocks = stocks-with n (filled t.book c (reverse ws)) P.stock c ws
            (subst (StockRep n (filled t.book c (reverse ws)) c) (reverse-reverse ws) (filled-own n c hc (reverse ws) t.book long short fresh))
            (λ d hd ne. filled-other n c hc d hd ne (P.stock d) (reverse ws) t.book long short fresh (off_of d hd ne (reverse ws) (λ v z. z)) (beside d hd));
      };
    }

  brought-agrees : Reached n o.heap → (bs : List ℕ) → reverse (blocks_of o.answer) ≡ bs
      → PoolAgrees n (brought_on t.book c bs) (record { pool = with_stock P c o.heap (bring bs).stock; answer = (bring bs).answer; calls = pooled_take c h blank ∷ []; run = o.run })
  brought-agrees reach [] e = record {
    answer = refl;
    pool = record { heap = agrees.heap; stocks = stocks-with n t.book P.stock c [] (subst (StockRep n t.book c) bare (beside c hc)) (λ d hd ne. beside d hd) };
  }
  brought-agrees reach (w ∷ ws) e = filled-agrees w ws e reach

  pub taken-agrees : Reached n o.heap → PoolAgrees n (alloc_on n b c h) (carry n P c (alloc h) (goes (pooled_take c h blank) []))
  unfolding alloc_on carry took_on ends
  taken-agrees reach =
      rw (eq-eqb (count_in b c) 0 (none-count n hn P b R ok listed m k es gs f l K c hc bare), zero-code, brought-on t.book c t.count t.list within, blocks, took-done n P c h fine hc)
      (brought-agrees reach (reverse (blocks_of o.answer)) refl)
