-- The ways out of a release of one block that leaves others of its run out.
use Rattle.facts.proofs.Prelude.{ℕ, ◌+◌, ◌-◌, ◌*◌, ◌/◌, ◌≤◌, ◌<◌, arith, Bool, true, false, cond, not, ◌&&◌, and-false, List, [], ◌∷◌, ◌≡◌, refl}
use Rattle.facts.proofs.Prelude.{sym, ap, ◌∙◌, eqb, length, get_or, eqb-true, eqb-false, lt-ltb, eq-eqb, ne_eqb, not-true, and_left, and_right}
use Rattle.std.specs.Prelude.{Some, None}
use Rattle.words.specs.Limits.{class_rows}
use Rattle.classes.specs.declared.Shape.{Shape}
use Rattle.classes.specs.Shape.{shape_of}
use Rattle.fields.specs.Field.{class, page, partial, out, mark, free, carved, get, put, words, Has}
use Rattle.fields.proofs.Changes.{Changes}
use Rattle.fields.specs.Ranges.{head_valid}
use Rattle.model.specs.Release.{of_kind}
use Rattle.model.specs.Page.{word_of}
use Rattle.pages.specs.way.Pre.{LinkPre, WordPre}
use Rattle.pages.specs.Stack.{set_outs, pushed, back, index_of, is_block}
use Rattle.pages.proofs.SetOuts.{set_outs-changes}
use Rattle.calls.specs.Out.{start_of, in_run_of, out_in, out_at, clean, unmarked, out_fault}
use Rattle.calls.proofs.Out.{passes}
use Rattle.calls.specs.Release.{page_valid, row_valid, destination_valid, release_valid, relisted, release_blocks}
use Rattle.release.specs.Answer.{Released, Fate}
use Rattle.release.specs.way.Pre.{ClassPre}
use Rattle.release.specs.way.Blocks.{block_in, run_at}
use Rattle.release.specs.way.Valid.{ValidPre}
use Rattle.release.specs.way.MarkPre.{Near}
use Rattle.release.specs.way.Act.{settle_at, RunPre, Answered, PreparedAt, Finished}
use Rattle.release.specs.way.One.{ready_at, stays_valid, back_ready, one_in, one_ready, back_book, PutPre, BackPre, BackOne, OneIn, OneBack}
use Rattle.release.proofs.Bits.{is_bit, out_in_lem, below_capacity}
use Rattle.release.proofs.BlockSteps.{none_found, found_at}
use Rattle.release.proofs.ValidSteps.{page-room, page-carved, head-low, wrong-head, no-page, no_row, destination-last}
use Rattle.release.proofs.MarkSteps.{block_here}
use Rattle.release.proofs.BackSteps.{on_stack, free-now, push-changes, valid-low, valid-row, valid-page}
use Rattle.release.proofs.ReleaseSteps.{only_one, finished, run-pre, not_marked_at}
use Rattle.pages.proofs.Runs.{whole_says}
use Rattle.release.proofs.RunLaws.{run_out}
use Rattle.release.proofs.RunSteps.{run-whole}

-- ---- 13's last test
module _ (n : ℕ) (b : List ℕ) (c : ℕ) (sh : Shape) (q : ℕ) where
  not_valid : false ≡ release_valid n b c sh 1 q → false ≡ stays_valid n b c sh q
  unfolding stays_valid
  not_valid e = rw (← e)

  destination-stays : eqb (get b (page free q) + 1) (get b (page carved q)) ≡ false → true ≡ destination_valid n b c sh 1 q
  unfolding destination_valid
  destination-stays d = rw d

  module _ (f : Bool) (l : f ≡ head_valid n b) where
    pub stays-wrong : not f ≡ true → false ≡ stays_valid n b c sh q
    stays-wrong h = not_valid (wrong-head n b c sh 1 q f l h)

    module _ (t : Bool) (e : t ≡ page_valid b sh 1 q) where
      pub stays-no_page : t ≡ false → false ≡ stays_valid n b c sh q
      stays-no_page x = not_valid (no-page n b c sh 1 q f l t e x)

      module _ (x : t ≡ true) (u : Bool) (k : u ≡ row_valid b c) where
        pub stays-no_row : u ≡ false → false ≡ stays_valid n b c sh q
        stays-no_row y = not_valid (no_row n b c sh 1 q f l t e u x k y)

        module _ (h : not f ≡ false) (y : u ≡ true) (v w : ℕ) (i : v ≡ get b (page carved q)) (j : w ≡ get b (page free q)) where
          room : w + 1 ≤ v
          room = omega (arith, page-room b sh 1 q (sym e ∙ x))

          pub others-out : w ≤ v
          others-out = omega (arith, room)

          pub stays-told : not (eqb (v - w) 1) ≡ stays_valid n b c sh q
          unfolding stays_valid
          stays-told = by (eqb (get b (page free q) + 1) (get b (page carved q))) refl
            where
              by : (z : Bool) → eqb (get b (page free q) + 1) (get b (page carved q)) ≡ z → not (eqb (v - w) 1) ≡ (release_valid n b c sh 1 q && not z)
              by true d = ap not (eq-eqb (v - w) 1 (omega (arith, eqb-true (get b (page free q) + 1) (get b (page carved q)) d, i, j))) ∙ sym (and-false (release_valid n b c sh 1 q))
              by false d =
                  ap not (ne_eqb (v - w) 1 (λ s. eqb-false (get b (page free q) + 1) (get b (page carved q)) d (omega (arith, s, room, i, j))))
                  ∙ ap (λ z. z && true) (destination-last n b c sh 1 q f l t e u x k true h y (destination-stays d))

-- ---- one block
module _ (b : List ℕ) (q i : ℕ) (x : ℕ) (k : x ≡ get b (out q i)) where
  pub not-ready : (x ≡ 1 → ⊥) → false ≡ ready_at b q i
  not-ready d = rw (← k, ne_eqb x 1 d)

  pub ready_if : x ≡ 1 → (m : ℕ) → m ≡ get b (mark q (i / 32)) → eqb m 0 ≡ ready_at b q i
  ready_if d m j = rw (← k, eq-eqb x 1 d, ← j)

module _ (b : List ℕ) (q i : ℕ) (e : ready_at b q i ≡ true) where
  ready-out : get b (out q i) ≡ 1
  ready-out = eqb-true (get b (out q i)) 1 (and_left (eqb (get b (out q i)) 1) _ e)

module _ (b : List ℕ) (c q i : ℕ) (a : PutPre b c q i) where
  unmarked-changes : Changes is_bit b (put b (out q i) 0)
  unmarked-changes = set_outs-changes b q 0 is_bit (λ j. refl) (i ∷ []) (rw (lt-ltb i 4096 a.bit))

  module _ (b₁ : List ℕ) (e₁ : b₁ ≡ put b (out q i) 0) where
    pub page-there : words (q + 1) ≤ length b₁
    page-there = rw e₁ (omega (arith, unmarked-changes.long, a.there))

    pub room-there : get b₁ (page free q) < 4096
    room-there = rw (e₁, unmarked-changes.kept (page free q) refl refl) a.room

    module _ (b₂ : List ℕ) (e₂ : b₂ ≡ pushed b₁ q (i ∷ [])) where
      back_is : b₂ ≡ back b q (i ∷ [])
      unfolding back
      back_is = e₂ ∙ ap (λ d. pushed d q (i ∷ [])) e₁

      push-keeps : Changes on_stack b₁ (pushed b₁ q (i ∷ []))
      push-keeps = push-changes b₁ q (i ∷ []) (omega (arith, room-there))

      pub relist_there : LinkPre b₂ c q
      relist_there =
          let o = lt-ltb c class_rows a.known in
          let h : get b₂ (class partial c) ≡ get b (class partial c) = rw (e₂, push-keeps.kept (class partial c) o refl, e₁) (unmarked-changes.kept (class partial c) o refl) in
          let l : length b₂ ≡ length b = rw e₂ (push-keeps.long ∙ rw e₁ unmarked-changes.long) in
          record { known = a.known; below = a.below; there = omega (arith, l, a.there); head = omega (arith, h, l, a.head) }

      pub put-there : (b₃ : List ℕ) → b₃ ≡ relisted b₂ c q → b₃ ≡ relisted (back b q (i ∷ [])) c q
      put-there b₃ e₃ = e₃ ∙ ap (λ d. relisted d c q) back_is

module _ (n : ℕ) (b : List ℕ) (c : ℕ) (sh : Shape) (q i : ℕ) where
  module _ (a : BackPre n b c sh q i) where
    pub bit-has : Has b (mark q (i / 32))
    bit-has = omega (arith, a.bit, a.inside, a.class.sound.paged, a.class.long)

    pub stay-pre : ValidPre b c sh q
    stay-pre = record { known = a.class.known; sound = a.class.sound; there = omega (arith, a.inside, a.class.sound.paged, a.class.long) }

  module _ (t : Bool) (e : t ≡ ready_at b q i) where
    pub back_not_ready : t ≡ false → BackOne false b n b c sh q i
    back_not_ready x = let z : ready_at b q i ≡ false = sym e ∙ x in record { answer = rw z; left = rw z }

    module _ (x : t ≡ true) (u : Bool) (f : u ≡ stays_valid n b c sh q) where
      pub back-not_valid : u ≡ false → BackOne false b n b c sh q i
      back-not_valid y = let z : ready_at b q i ≡ true = sym e ∙ x in record { answer = rw (z, ← f, y); left = rw (z, ← f, y) }

      module _ (y : u ≡ true) where
        is-valid : release_valid n b c sh 1 q ≡ true
        unfolding stays_valid
        is-valid = and_left (release_valid n b c sh 1 q) _ (sym f ∙ y)

        others : get b (page free q) + 1 ≡ get b (page carved q) → ⊥
        unfolding stays_valid
        others = eqb-false (get b (page free q) + 1) (get b (page carved q)) (not-true (eqb (get b (page free q) + 1) (get b (page carved q))) (and_right (release_valid n b c sh 1 q) _ (sym f ∙ y)))

        pub put-pre : BackPre n b c sh q i → PutPre b c q i
        put-pre a = record {
          known = a.class.known;
          below = omega (arith, a.inside, a.class.sound.paged, a.class.few);
          there = (stay-pre a).there;
          head = omega (arith, head-low b c (valid-row n b c sh q 1 is-valid), valid-low n b c sh q 1 is-valid, a.class.long);
          bit = a.bit;
          room = omega (arith, page-room b sh 1 q (valid-page n b c sh q 1 is-valid), page-carved b sh 1 q (valid-page n b c sh q 1 is-valid), a.class.sound.few);
          out = ready-out b q i (sym e ∙ x);
        }

        pub is-back : (b' : List ℕ) → b' ≡ back_book b c q i → BackOne true b' n b c sh q i
        is-back b' l = let z : ready_at b q i ≡ true = sym e ∙ x in record { answer = rw (z, ← f, y); left = rw (z, ← f, y) l }

-- ---- one word
module _ (n : ℕ) (b : List ℕ) (c : ℕ) (sh : Shape) (q w : ℕ) where
  module _ (a : RunPre n b c sh q (w ∷ [])) where
    run_inside : q + sh.pages ≤ n
    run_inside = (whole_says n b sh c q a.run).inside

    pub word-pre : WordPre sh q 0
    word-pre = record { sound = a.class.sound; below = omega (arith, run_inside, a.class.few); block = omega (arith, a.class.sound.blocks) }

    pub near-pre : (base span : ℕ) → base ≡ word_of sh q 0 → span ≡ sh.capacity * sh.block → Near sh q base span
    near-pre base span e l = record { sound = a.class.sound; below = omega (arith, run_inside, a.class.few); first = e; all = l }

    block-pre : (i : ℕ) → is_block sh q w ≡ true → i ≡ index_of sh q w → BackPre n b c sh q i
    block-pre i o e = record { class = a.class; inside = run_inside; bit = omega (arith, below_capacity sh q w o, e, a.class.sound.few) }

  pub one-no_block : None ≡ block_in sh q w → OneIn false b n b c sh q w
  one-no_block h = let z = none_found (of_kind sh.kind w && is_block sh q w) (index_of sh q w) h in record { answer = rw z; left = rw z }

  module _ (i : ℕ) (h : Some i ≡ block_in sh q w) where
    pub one_back_pre : RunPre n b c sh q (w ∷ []) → BackPre n b c sh q i
    one_back_pre a = let y = block_here b sh q w i h in block-pre a i (and_right (of_kind sh.kind w) _ y.0) y.1

    pub one-back : (r : Bool) (b' : List ℕ) → BackOne r b' n b c sh q i → OneIn r b' n b c sh q w
    one-back r b' o = let y = block_here b sh q w i h in record { answer = rw (y.0, ← y.1) o.answer; left = rw (y.0, ← y.1) o.left }

  -- ---- what it comes to: the release of a list of one
  module _ (a : RunPre n b c sh q (w ∷ [])) (u : one_in n b c sh q w ≡ true) where
    block_of : (of_kind sh.kind w && is_block sh q w) ≡ true
    block_of = and_left (of_kind sh.kind w && is_block sh q w) (back_ready n b c sh q (index_of sh q w)) u

    is_block_lem : is_block sh q w ≡ true
    is_block_lem = and_right (of_kind sh.kind w) _ block_of

    both : back_ready n b c sh q (index_of sh q w) ≡ true
    both = and_right (of_kind sh.kind w && is_block sh q w) (back_ready n b c sh q (index_of sh q w)) u

    ready : ready_at b q (index_of sh q w) ≡ true
    ready = and_left (ready_at b q (index_of sh q w)) (stays_valid n b c sh q) both

    stay : stays_valid n b c sh q ≡ true
    stay = and_right (ready_at b q (index_of sh q w)) (stays_valid n b c sh q) both

    one_in_lem : out_in b sh q w ≡ true
    one_in_lem = out_in_lem b sh q w ∙ rw (is_block_lem, and_left (eqb (get b (out q (index_of sh q w))) 1) _ ready)

    one_out : out_at n b c sh w ≡ true
    one_out = run_out n c sh a.class.sound q b a.run w one_in_lem

    one-clean : clean b sh w ≡ true
    one-clean = rw a.start (and_right (eqb (get b (out q (index_of sh q w))) 1) _ ready)

    one-fault : out_fault n b c sh (w ∷ []) ≡ 0
    unfolding unmarked
    one-fault = passes n b c sh (w ∷ []) (rw (one_out, one-clean)) (rw one_out) refl

    one_prepared : PreparedAt q 0 b n b c sh (w ∷ [])
    one_prepared =
        not_marked_at n b c sh (w ∷ [])
        (record { class = a.class; some = refl; kinds = rw (and_left (of_kind sh.kind w) _ block_of); passed = one-fault })
        q a.start (rw (eq-eqb (start_of b w) q a.start))

    carried : (h : ℕ) → Answered (Fate 0) (back_book b c q (index_of sh q w)) (release_blocks n b c sh h (w ∷ []))
    unfolding Finished settle_at back
    carried h =
        let i = index_of sh q w in
        let is = index_of sh q w ∷ [] in
        let d = set_outs b q 0 is in
        let k = block-pre a i is_block_lem refl in
        let p = put-pre n b c sh q i true (sym ready) refl true (sym stay) refl k in
        let s = unmarked-changes b c q i p in
        let l : get d (page free q) + 1 ≤ 4096 = omega (arith, s.kept (page free q) refl refl, p.room) in
        let v : get (pushed d q is) (page free q) ≡ get b (page free q) + 1 = free-now d q is l (omega (arith, s.long, p.there)) ∙ ap (λ x. x + 1) (s.kept (page free q) refl refl) in
        let g : get (pushed d q is) (page carved q) ≡ get b (page carved q) = (push-changes d q is l).kept (page carved q) refl refl ∙ s.kept (page carved q) refl refl in
        let o = others n b c sh q i true (sym ready) refl true (sym stay) refl in
        finished n b c sh (w ∷ []) q 0 b one_prepared h (Fate 0) (back_book b c q i)
        (record {
          valid = is-valid n b c sh q i true (sym ready) refl true (sym stay) refl;
          act = rw (ne_eqb (get (pushed d q is) (page carved q)) (get (pushed d q is) (page free q)) (λ x. o (sym v ∙ sym x ∙ g))) (record { fate = refl; left = refl });
        })

module _ (n : ℕ) (b : List ℕ) (c : ℕ) (sh : Shape) (w : ℕ) (r : Bool) (b' : List ℕ) (o : OneBack r b' n b c sh w) where
  as_told : (t : Bool) → r ≡ t → b' ≡ cond t (back_book b c (start_of b w) (index_of sh (start_of b w) w)) b
  as_told t e = o.left ∙ ap (λ z. cond z (back_book b c (start_of b w) (index_of sh (start_of b w) w)) b) (sym o.answer ∙ e)

  pub one_left : r ≡ false → b' ≡ b
  one_left t = as_told false t

  pub one-carried : ClassPre n b c sh → r ≡ true → (h : ℕ) → Answered (Fate 0) b' (release_blocks n b c sh h (w ∷ []))
  one-carried a t h =
      let e : one_ready n b c sh w ≡ true = sym o.answer ∙ t in
      let i = and_left (in_run_of n b sh c w) (one_in n b c sh (start_of b w) w) e in
      let x : RunPre n b c sh (start_of b w) (w ∷ []) = record { class = a; some = refl; run = run-whole n b c sh w i; start = refl } in
      rw (as_told true t) (carried n b c sh (start_of b w) w x (and_right (in_run_of n b sh c w) (one_in n b c sh (start_of b w) w) e) h)

-- ---- the class's own shape
module _ (n : ℕ) (b : List ℕ) (c : ℕ) (sh : Shape) (z : sh ≡ shape_of c) where
  pub shape-pre : ClassPre n b c (shape_of c) → ClassPre n b c sh
  shape-pre a = rw z a

  module _ (w : ℕ) where
    pub one-no_run : None ≡ run_at n b sh c w → OneBack false b n b c (shape_of c) w
    one-no_run h =
        let i = none_found (in_run_of n b sh c w) (start_of b w) h in
        let x : OneBack false b n b c sh w = record { answer = rw i; left = rw i } in
        rw z at x

    module _ (q : ℕ) (h : Some q ≡ run_at n b sh c w) where
      pub in_run-pre : ClassPre n b c (shape_of c) → RunPre n b c sh q (w ∷ [])
      in_run-pre a = run-pre n b c sh (w ∷ []) q (record { class = rw z a; some = refl }) h

      pub one_of-class : (r : Bool) (b' : List ℕ) → OneIn r b' n b c sh q w → OneBack r b' n b c (shape_of c) w
      one_of-class r b' o =
          let i = found_at (in_run_of n b sh c w) (start_of b w) q h in
          let x : OneBack r b' n b c sh w = record { answer = rw (i.0, ← i.1) o.answer; left = rw (i.0, ← i.1) o.left } in
          rw z at x

  pub of_class_lem : (h : ℕ) (ws : List ℕ) (r : Released) (b' : List ℕ) → Answered r b' (release_blocks n b c sh h ws) → Answered r b' (release_blocks n b c (shape_of c) h ws)
  of_class_lem h ws r b' o = rw z at o

-- ---- a list of one
module _ (n : ℕ) (b : List ℕ) (c w : ℕ) (r : Bool) (b' : List ℕ) (o : OneBack r b' n b c (shape_of c) w) where
  pub one-done : (h : ℕ) (ws : List ℕ) → w ≡ get_or ws 0 0 → length ws ≡ 1 → r ≡ true → ClassPre n b c (shape_of c) → Answered (Fate 0) b' (release_blocks n b c (shape_of c) h ws)
  one-done h ws e l t a = rw (only_one ws l, ← e) (one-carried n b c (shape_of c) w r b' o a t h)

  pub after_one : r ≡ false → ClassPre n b c (shape_of c) → ClassPre n b' c (shape_of c)
  after_one t a = rw (one_left n b c (shape_of c) w r b' o t) a

  pub as_before : (h : ℕ) (ws : List ℕ) → r ≡ false → (u : Released) (b'' : List ℕ) → Answered u b'' (release_blocks n b' c (shape_of c) h ws) → Answered u b'' (release_blocks n b c (shape_of c) h ws)
  as_before h ws t u b'' z = rw (one_left n b c (shape_of c) w r b' o t) at z
