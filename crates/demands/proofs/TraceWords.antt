-- A trace on the words is the model's. n is the arena's length, b the book, which opens.
--     standing    where a trace on the words is when the model's is at r
--     Good        what holds of every r that a trace comes to
--     stops-is    a word stops both or neither
--     does-is     one word, on the words and on the model
--     whole       a whole trace
use Rattle.facts.proofs.Prelude.{ℕ, suc, ◌+◌, ◌-◌, ◌*◌, ◌/◌, ◌%◌, ◌^◌, ◌≤◌, arith, true, false, ◌&&◌, List, [], ◌∷◌, ◌++◌, map, append_assoc, append-nil, ◌≡◌}
use Rattle.facts.proofs.Prelude.{refl, sym, ap, ap₂, ◌∙◌, eqb, ltb, length, length-map, not-false, eqb-true, eqb-false, le-ltb, All, total, filter, by_cases}
use lib.ListN as ListN
use Rattle.words.specs.Word.{kind_of}
use Rattle.classes.specs.Sizes.{page_bytes}
use Rattle.classes.specs.Shape.{shape_of, class_count}
use Rattle.classes.proofs.Shapes.{shape-sound}
use Rattle.rules.specs.Rules.{rules_of}
use Rattle.model.specs.Calls as Calls
use Rattle.model.specs.Calls.{Call, Answer, is_refused}
use Rattle.model.specs.Release.{of_kind}
use Rattle.model.specs.Heap.{step}
use Rattle.model.specs.History.{heap_after}
use Rattle.model.specs.Entries.{Entry, In, entries_from, block_bytes}
use Rattle.model.proofs.Counts.{total-append}
use Rattle.model.proofs.Pages.{all_append}
use Rattle.refinement.specs.Direct.{Reply}
use Rattle.trace.specs.Trace as Trace
use Rattle.trace.specs.Trace.{Say, say_of, say, Handed, handed, Reach, Room, is_out, bytes_of, out_at, back_at, take_of, back_of, offered, does, stops_as, after, stops, reach_from, carried_from, at_opening, max}
use Rattle.trace.specs.Words as Words
use Rattle.trace.specs.Words.{Going, size_of, take_now, bytes_max}
use Rattle.demands.specs.Run.{Opens, run, book_after, next}
use Rattle.demands.specs.Trace.{handed_by, still_out}
use Rattle.demands.proofs.Calls.{room}
use Rattle.demands.proofs.Histories.{run-calls}
use Rattle.demands.proofs.TraceLive.{live, live-next, none-released, still-append, still_back, live-single, live-bytes, at-still, keeps, Single}
use Rattle.demands.proofs.TraceSteps.{names-take, names-back, take_step, back_step, report-is}
use Rattle.demands.proofs.TraceListed.{listed_word, word_of, Block, listed_more, words_more, out-more, bytes-more, entries-length, all_more, all-behind, all_then, all_back, more-class, bytes-still, out_listed, back-listed, back-words, entry, all-at, placed}

-- ---- what a word says names a class of ours
abbrev Fine : Say → Type 0
Fine (Trace.take c) = ltb c class_count ≡ true
Fine (Trace.back p) = Unit {0}
Fine Trace.report = Unit {0}
Fine Trace.wrong = Unit {0}

say-fine : (kind m : ℕ) → Fine (say kind m)
say-fine kind m =
    by_cases (eqb kind 0)
    (λ e. by_cases (ltb m class_count) (λ u. rw (e, u) u) (λ u. rw (e, u) tt))
    (λ e. by_cases (eqb kind 1)
    (λ u. rw (e, u) tt)
    (λ u. by_cases (eqb kind 2 && eqb m 0) (λ v. rw (e, u, v) tt) (λ v. rw (e, u, v) tt)))

word-fine : (w : ℕ) → Fine (say_of w)
unfolding say_of
word-fine w = say-fine (w / 2 ^ 30) (w % 2 ^ 30)

abbrev Known : Entry → Type 0
Known e = ltb e.class class_count ≡ true

-- a block that is out has its class's kind, 1 or 2
live-block : (n : ℕ) (b : List ℕ) → (o : Opens n [] b) → (xs : List Call) (e : Entry) → Known e → In e (live n xs) → Block e
unfolding of_kind
live-block n b o xs e h m =
    let s = shape-sound e.class in
    let k : kind_of e.word ≡ (shape_of e.class).kind = eqb-true (kind_of e.word) (shape_of e.class).kind (back_step n b o xs e h m).kind in
    by_cases (eqb (kind_of e.word) 1) (λ u. rw u)
    (λ u. let z : kind_of e.word ≡ 2 = omega (arith, s.named, s.known, eqb-false (kind_of e.word) 1 u) in rw z)

-- ---- the blocks that a history handed out
handed-append : (s t : List Reply) → handed_by (s ++ t) ≡ handed_by s ++ handed_by t
handed-append [] t = refl
handed-append (r ∷ s) t = ap (λ (x : List ℕ). Calls.blocks_of r.answer ++ x) (handed-append s t) ∙ sym (append_assoc (Calls.blocks_of r.answer) (handed_by s) (handed_by t))

none-given : (a : Answer) → Calls.released_by (Calls.take 15 Trace.blank) a ≡ []
none-given a = by_cases (is_refused a) (λ e. rw e) (λ e. rw e)

module _ (n : ℕ) (b : List ℕ) (o : Opens n [] b) where
  next-run : (xs : List Call) (x : Call) → run n [] b (xs ++ x ∷ []) ≡ run n [] b xs ++ (next n [] b xs x ∷ [])
  next-run xs x = run-calls n [] b xs x []

  given-next : (xs : List Call) (x : Call) → handed_by (run n [] b (xs ++ x ∷ [])) ≡ handed_by (run n [] b xs) ++ Calls.blocks_of (next n [] b xs x).answer
  given-next xs x =
      ap handed_by (next-run xs x) ∙ handed-append (run n [] b xs) (next n [] b xs x ∷ []) ∙ ap (λ (t : List ℕ). handed_by (run n [] b xs) ++ t) (append-nil (Calls.blocks_of (next n [] b xs x).answer))

  fine-next : (xs : List Call) (x : Call) → All (λ (r : Reply). r.code ≡ 0) (run n [] b xs) → (next n [] b xs x).code ≡ 0 → All (λ (r : Reply). r.code ≡ 0) (run n [] b (xs ++ x ∷ []))
  fine-next xs x a z = rw (next-run xs x) (all_append (λ (r : Reply). r.code ≡ 0) (run n [] b xs) (next n [] b xs x ∷ []) a (z, tt))

  -- ---- where it is
  abbrev pub standing : Reach → Going
  standing r = record {
    book = book_after n [] b r.calls;
    listed = map listed_word r.handed;
    figures = r.figures;
    out = total is_out r.handed;
    bytes = total bytes_of r.handed;
    highest = r.highest;
  }

  pub record Good (r : Reach) : Type 0 where
    pub out : still_out r.handed ≡ live n r.calls
    pub classes : All (λ (h : Handed). Known h.entry) r.handed
    pub words : map word_of r.handed ≡ handed_by (run n [] b r.calls)
    pub fine : All (λ (x : Reply). x.code ≡ 0) (run n [] b r.calls)
    pub kinds : All (λ (h : Handed). Block h.entry) r.handed

  pub good-bytes : (r : Reach) → Good r → total bytes_of r.handed ≤ n * page_bytes
  good-bytes r g = let e = bytes-still r.handed ∙ ap (total block_bytes) g.out in omega (arith, e, live-bytes n (room n [] b o).few-pages r.calls)

  going_eq : {b₁ b₂ f₁ f₂ : List ℕ} {m₁ m₂ : List ℕ} {o₁ o₂ y₁ y₂ h₁ h₂ : ℕ} → b₁ ≡ b₂ → m₁ ≡ m₂ → f₁ ≡ f₂ → o₁ ≡ o₂ → y₁ ≡ y₂ → h₁ ≡ h₂
      → ◌≡◌ {A = Going} (record { book = b₁; listed = m₁; figures = f₁; out = o₁; bytes = y₁; highest = h₁ }) (record { book = b₂; listed = m₂; figures = f₂; out = o₂; bytes = y₂; highest = h₂ })
  going_eq p q r s t u = cc

  module _ (r : Reach) (good : Good r) where
    abbrev xs : List Call
    xs = r.calls

    abbrev hs : List Handed
    hs = r.handed

    -- a take
    module _ (c : ℕ) (hc : ltb c class_count ≡ true) where
      abbrev took : List ℕ
      took = Words.blocks_of (take_now n (book_after n [] b xs) c)

      abbrev many : ℕ
      many = (take_now n (book_after n [] b xs) c).count

      many_is : length took ≡ many
      many_is = (take_step n b o xs c hc).counts

      offered-is : offered n r c ≡ entries_from (length xs) c 0 took
      unfolding offered
      offered-is = rw (names-take c hc, (take_step n b o xs c hc).model)

      take-does : Words.does n (standing r) (Trace.take c) ≡ standing (does n r (Trace.take c))
      take-does =
          let e = ap (λ (es : List Entry). hs ++ map handed es) offered-is in
          let ms : map listed_word (hs ++ map handed (offered n r c)) ≡ map listed_word hs ++ took = ap (map listed_word) e ∙ listed_more hs (length xs) c 0 took in
          let k : total is_out (hs ++ map handed (offered n r c)) ≡ total is_out hs + many = ap (total is_out) e ∙ total-append is_out hs _ ∙ ap (λ (i : ℕ). total is_out hs + i) (out-more (length xs) c 0 took ∙ many_is) in
          let y : total bytes_of (hs ++ map handed (offered n r c)) ≡ total bytes_of hs + many * size_of c =
          ap (total bytes_of) e ∙ total-append bytes_of hs _ ∙ ap (λ (i : ℕ). total bytes_of hs + i) (bytes-more (length xs) c 0 took ∙ ap (λ (i : ℕ). i * size_of c) many_is) in
          going_eq (sym (take_step n b o xs c hc).left) (sym ms) refl (sym k) (sym y) (ap (max r.highest) (sym y))

      -- neither is the take refused, nor are too many bytes out
      take-stops : (m : Room) → Words.stops_as n m (standing r) (Trace.take c) ≡ stops_as n m r (Trace.take c)
      take-stops m =
          let few : ltb bytes_max (total bytes_of hs) ≡ false = le-ltb bytes_max (total bytes_of hs) (omega (arith, good-bytes r good, (room n [] b o).few-pages)) in
          rw ((take_step n b o xs c hc).code, few)
          (ap₂ (λ (i j : ℕ). ltb m.blocks (i + j)) (length-map hs listed_word) (sym (ap length offered-is ∙ entries-length (length xs) c 0 took ∙ many_is)))

      take-good : Good (does n r (Trace.take c))
      take-good =
          let s = take_step n b o xs c hc in
          let e = ap (λ (es : List Entry). hs ++ map handed es) offered-is in
          let a = (step n (heap_after n (rules_of []) xs) (take_of c)).answer in
          let es = entries_from (length xs) c 0 took in
          let known : All (λ (h : Handed). Known h.entry) (map handed es) = all_more Known es (λ e m. rw (more-class e (length xs) c 0 took m) hc) in
          let l : live n (xs ++ take_of c ∷ []) ≡ live n xs ++ entries_from (length xs) c 0 took =
          live-next n xs (take_of c) ∙ (rw (names-take c hc, none-given a, none-released c (live n xs), s.model)) in
          record {
            out = still-append hs (offered n r c) ∙ ap₂ (λ (t u : List Entry). t ++ u) good.out offered-is ∙ sym l;
            classes = rw offered-is (all_append (λ (h : Handed). Known h.entry) hs _ good.classes known);
            words = ap (map word_of) e ∙ words_more hs (length xs) c 0 took ∙ ap₂ (λ (t u : List ℕ). t ++ u) good.words (sym s.gave) ∙ sym (given-next xs (take_of c));
            fine = fine-next xs (take_of c) good.fine s.fine;
            kinds = rw offered-is (all_append (λ (h : Handed). Block h.entry) hs (map handed es) good.kinds
                (all_then Known Block (map handed es) (all-behind (λ (e : Entry). Known e → Block e) (live n xs) es (λ e m h. live-block n b o (xs ++ take_of c ∷ []) e h (rw l m))) known));
          }

    -- a release of a place that is out
    module _ (p : ℕ) (out : out_at p hs ≡ true) where
      abbrev it : Entry
      it = entry p hs

      it-known : Known it
      it-known = all-at Known p hs good.classes out

      it-live : In it (live n xs)
      it-live = rw (← good.out) (at-still p hs _ out)

      back-does : Words.does n (standing r) (Trace.back p) ≡ standing (does n r (Trace.back p))
      back-does =
          let s = back_step n b o xs it it-known it-live in
          let i = placed p hs out in
          let y : total bytes_of hs - size_of (Words.class_at n (book_after n [] b xs) it.word) ≡ total bytes_of (back_at p hs) = ap (λ (c : ℕ). total bytes_of hs - size_of c) s.class ∙ sym i.bytes in
          rw (i.word, i.call) (going_eq (sym s.left) (rw i.word at (back-listed p hs out)) refl (sym i.out) y (ap (max r.highest) y))

      back-goes : Words.stops_as n (record { blocks = 0; figures = 0 }) (standing r) (Trace.back p) ≡ false
      back-goes = rw (out_listed p hs good.kinds, out, (placed p hs out).word, (back_step n b o xs it it-known it-live).code)

      back-good : Good (does n r (Trace.back p))
      back-good =
          let s = back_step n b o xs it it-known it-live in
          let i = placed p hs out in
          let one : Single (still_out hs) = rw good.out (live-single n (room n [] b o).few-pages xs) in
          let f : filter (keeps it) (live n xs) ≡ still_out (back_at p hs) = rw (← good.out) (still_back p hs _ out one) in
          let l : live n (xs ++ back_of it ∷ []) ≡ still_out (back_at p hs) =
          live-next n xs (back_of it) ∙ (rw (names-back it it-known, s.model, s.none) (append-nil (filter (keeps it) (live n xs)) ∙ f)) in
          record {
            out = rw i.call (sym l);
            classes = all_back Known p hs good.classes;
            words = rw i.call (back-words p hs ∙ good.words ∙ sym (append-nil _) ∙ ap (λ (t : List ℕ). handed_by (run n [] b xs) ++ t) (sym s.gave) ∙ sym (given-next xs (back_of it)));
            fine = rw i.call (fine-next xs (back_of it) good.fine s.fine);
            kinds = all_back Block p hs good.kinds;
          }

    -- a report
    report-does : Words.does n (standing r) Trace.report ≡ standing (does n r Trace.report)
    report-does = rw (report-is n b o xs)

    report-stops : (m : Room) → Words.stops_as n m (standing r) Trace.report ≡ stops_as n m r Trace.report
    report-stops m = rw (report-is n b o xs) (by_cases (ltb m.figures (length r.figures + 5)) (λ e. rw e) (λ e. rw e))

    -- ---- one word
    stops-is : (m : Room) (s : Say) → Fine s → Words.stops_as n m (standing r) s ≡ stops_as n m r s
    stops-is m (Trace.take c) h = take-stops c h m
    stops-is m (Trace.back p) h =
        by_cases (out_at p hs)
        (λ e. rw e (back-goes p e))
        (λ e. rw (out_listed p hs good.kinds, e))
    stops-is m Trace.report h = report-stops m
    stops-is m Trace.wrong h = refl

    does-is : (m : Room) (s : Say) → Fine s → stops_as n m r s ≡ false → Words.does n (standing r) s ≡ standing (does n r s)
    does-is m (Trace.take c) h e = take-does c h
    does-is m (Trace.back p) h e = back-does p (not-false (out_at p hs) e)
    does-is m Trace.report h e = report-does
    does-is m Trace.wrong h e = refl

    does-good : (m : Room) (s : Say) → Fine s → stops_as n m r s ≡ false → Good (does n r s)
    does-good m (Trace.take c) h e = take-good c h
    does-good m (Trace.back p) h e = back-good p (not-false (out_at p hs) e)
    does-good m Trace.report h e = record { out = good.out; classes = good.classes; words = good.words; fine = good.fine; kinds = good.kinds }
    does-good m Trace.wrong h e = good

  -- ---- a whole trace
  pub good_start : Good at_opening
  good_start = record { out = refl; classes = tt; words = refl; fine = tt; kinds = tt }

  pub record Whole (m : Room) (r : Reach) (ws : List ℕ) : Type 0 where
    pub carried : Words.carried n m (standing r) ws ≡ carried_from n m r ws
    pub goes : Words.goes n (standing r) (ListN.take (carried_from n m r ws) ws) ≡ standing (reach_from n r (ListN.take (carried_from n m r ws) ws))
    pub good : Good (reach_from n r (ListN.take (carried_from n m r ws) ws))

  pub whole : (m : Room) (ws : List ℕ) (r : Reach) → Good r → Whole m r ws
  whole m [] r g = record { carried = refl; goes = refl; good = g }
  whole m (w ∷ ws) r g =
      let s = stops-is r g m (say_of w) (word-fine w) in
      by_cases (stops n m r w)
      (λ e. record { carried = rw (s, e); goes = rw e; good = rw e g })
      (λ e. let d = does-is r g m (say_of w) (word-fine w) e in
      let ih = whole m ws (after n r w) (does-good r g m (say_of w) (word-fine w) e) in
      record {
        carried = rw (s, e, d) (ap suc ih.carried);
        goes = rw e (ap (λ (x : Going). Words.goes n x (ListN.take (carried_from n m (after n r w) ws) ws)) d ∙ ih.goes);
        good = rw e ih.good;
      })
