-- The listed blocks come back to their page, and the arena is the last step.
use Rattle.facts.proofs.Prelude.{ℕ, ◌+◌, ◌≤◌, ◌<◌, arith, Bool, true, false, cond, not, ◌&&◌, ◌||◌, List, map, ◌≡◌, refl, sym, ap, ◌∙◌}
use Rattle.facts.proofs.Prelude.{eqb, leb, length, length-map, eqb-true, le-leb, lt-ltb, eq-eqb, ne_eqb, and_left, and_right}
use Rattle.words.specs.Limits.{class_rows}
use Rattle.classes.specs.declared.Shape.{Shape}
use Rattle.classes.specs.way.Sound.{Sound}
use Rattle.fields.specs.Field.{Field, arena, class, hole, page, region, off, frontier, partial, empty, empty_count, cold, cold_count, next, prev, free, carved, listed, virgin, get, put, words, ok, empty_limit, cold_limit}
use Rattle.fields.proofs.Laws.{get_put_same, length-put}
use Rattle.fields.proofs.Changes.{Changes}
use Rattle.fields.specs.Ranges.{head_valid}
use Rattle.fields.proofs.Sound.{head-frontier}
use Rattle.model.specs.declared.Destination.{Destination}
use Rattle.model.specs.declared.Destination.TheVariants.{ToEmpty, ToCold, ToArena}
use Rattle.model.specs.Destination.{is_arena}
use Rattle.arena.specs.Valid.{give_valid}
use Rattle.arena.proofs.Frames.{give_kept}
use Rattle.arena.specs.Calls.{given}
use Rattle.runs.specs.way.Pre.{GiveIn}
use Rattle.pages.specs.declared.Park.TheVariants.{Empty, Cold}
use Rattle.pages.specs.way.Pre.{LinkPre, PushPre}
use Rattle.pages.specs.Links.{park_run}
use Rattle.pages.specs.Stack.{push, pushed, index_of}
use Rattle.pages.specs.Carve.{carve_anew}
use Rattle.pages.proofs.Pushes.{length_push}
use Rattle.pages.proofs.Frames.{changes-park_run, changes-pushed}
use Rattle.calls.specs.Release.{page_valid, row_valid, relisted, released, unlisted, park_cold, parked_in, destination_at, park_at, destination_valid, release_valid, last_step}
use Rattle.pages.specs.Valid.{links_valid}
use Rattle.release.specs.declared.fates.Fate.{Fate}
use Rattle.release.specs.declared.fates.Fate.TheVariants.{Kept, Cold, Arena}
use Rattle.release.specs.way.Fate.{fate_number}
use Rattle.release.specs.way.Act.{settle_at, cold_virgin, ParkingPre, BackPre, SettlePre, Parked}
use Rattle.release.proofs.Destinations.{arena-alone}
use Rattle.release.proofs.ValidSteps.{page-room, page-carved, links-valid, head-low}
use Rattle.release.proofs.ParkSteps.{moves, unlisted-changes, relisted-changes, carve-changes}

-- ---- the page with its blocks back: of the words that are tested, only FREE and VIRGIN are other ones
abbrev pub on_stack : Field → Bool
on_stack f = eqb (region f) 6 || (eqb (region f) 4 && (eqb (off f) 4 || eqb (off f) 7))

module _ (b : List ℕ) (q : ℕ) (is : List ℕ) (l : get b (page free q) + length is ≤ 4096) where
  pub push-changes : Changes on_stack b (pushed b q is)
  push-changes = changes-pushed on_stack b q refl refl (λ i. refl) is l

  links-kept : links_valid (pushed b q is) q ≡ links_valid b q
  links-kept =
      let k = push-changes.kept in
      rw (k (page listed q) refl refl, k (page next q) refl refl, k (page prev q) refl refl, k (arena frontier) refl refl)

  pub free-now : words (q + 1) ≤ length b → get (pushed b q is) (page free q) ≡ get b (page free q) + length is
  unfolding pushed
  free-now h =
      let b₁ = push b q (get b (page free q)) is in
      let g : leb (words (q + 1)) (length (put b₁ (page virgin q) 0)) ≡ true = rw (length-put b₁ (page virgin q) 0, length_push b q (get b (page free q)) is) (le-leb (words (q + 1)) (length b) h) in
      get_put_same (q + 1) (put b₁ (page virgin q) 0) (page free q) _ g (lt-ltb q (q + 1) (omega arith)) refl

  module _ (c : ℕ) (hc : c < class_rows) where
    row_kept : row_valid (pushed b q is) c ≡ row_valid b c
    unfolding row_valid
    row_kept =
        let k = push-changes.kept in
        let o = lt-ltb c class_rows hc in
        rw (k (class partial c) o refl, k (class empty c) o refl, k (class empty_count c) o refl, k (class cold c) o refl, k (class cold_count c) o refl, k (class empty_limit c) o refl, k (class cold_limit c) o refl, k (arena frontier) refl refl)

    destination-kept : (sh : Shape) → destination_at (pushed b q is) c sh ≡ destination_at b c sh
    destination-kept sh =
        let k = push-changes.kept in
        let o = lt-ltb c class_rows hc in
        rw (k (class empty_count c) o refl, k (class cold_count c) o refl, k (class empty_limit c) o refl, k (class cold_limit c) o refl)

module _ (b : List ℕ) (c : ℕ) (sh : Shape) (h q : ℕ) (ws : List ℕ) where
  slots-left : BackPre b c sh q ws → get b (page free q) + length (map (index_of sh q) ws) ≤ 4096
  slots-left a = rw (length-map ws (index_of sh q)) (omega (arith, page-room b sh (length ws) q a.page, page-carved b sh (length ws) q a.page, a.sound.few))

  pub push-pre : BackPre b c sh q ws → PushPre b sh q ws
  push-pre a = record { sound = a.sound; below = a.below; there = a.there; slots = omega (arith, page-room b sh (length ws) q a.page, page-carved b sh (length ws) q a.page, a.sound.few); bits = a.bits }

  module _ (b' : List ℕ) (e : b' ≡ pushed b q (map (index_of sh q) ws)) where
    pub park-pre : BackPre b c sh q ws → ParkingPre b' c sh q
    park-pre a =
        let is = map (index_of sh q) ws in
        let l = slots-left a in
        let k = push-changes b q is l in
        rw e (record {
          known = a.known;
          sound = a.sound;
          below = a.below;
          there = omega (arith, k.long, a.there);
          low = rw (k.kept (arena frontier) refl refl) (omega (arith, k.long, a.low));
          links = links-kept b q is l ∙ links-valid b sh (length ws) q a.page;
          row = row_kept b q is l c a.known ∙ a.row;
        })

    pub link-pre : BackPre b c sh q ws → LinkPre b' c q
    link-pre a =
        let k = push-changes b q (map (index_of sh q) ws) (slots-left a) in
        rw e (record {
          known = a.known;
          below = a.below;
          there = omega (arith, k.long, a.there);
          head = rw (k.kept (class partial c) (lt-ltb c class_rows a.known) refl) (omega (arith, k.long, a.low, head-low b c a.row));
        })

    module _ (x y : ℕ) (j : x ≡ get b' (page carved q)) (k : y ≡ get b' (page free q)) where
      pub none_out_lem : (r : ℕ) (b'' : List ℕ) → x ≡ y → Parked r b'' (park_at b' c sh h q) → Parked r b'' (settle_at b c sh h q (map (index_of sh q) ws))
      unfolding settle_at
      none_out_lem r b'' z p = rw (← e, ← j, ← k, eq-eqb x y z) p

      pub some_out : (b'' : List ℕ) → (x ≡ y → ⊥) → b'' ≡ relisted b' c q → Parked 0 b'' (settle_at b c sh h q (map (index_of sh q) ws))
      unfolding settle_at
      some_out b'' z p = rw (← e, ← j, ← k, ne_eqb x y z) (record { fate = refl; left = p })

-- ---- the arena's words are as they were until the last step, the holes too
abbrev not_arena : Field → Bool
not_arena f = not (eqb (region f) 0 || eqb (region f) 3)

module _ (c : ℕ) (sh : Shape) (h q : ℕ) (hc : c < class_rows) (s : Sound sh) (g : Field) (o : ok g ≡ true) (u : not_arena g ≡ false) (v : moves g ≡ false) (w : on_stack g ≡ false) where
  park_run-kept : (b : List ℕ) → get (park_run b c Empty q) g ≡ get b g
  park_run-kept b = (changes-park_run not_arena b c q (lt-ltb c class_rows hc) Empty refl refl refl).kept g o u

  cold-kept : (b : List ℕ) → get (park_cold b c sh h q) g ≡ get b g
  cold-kept b =
      (changes-park_run not_arena (carve_anew b sh q (cold_virgin sh h)) c q (lt-ltb c class_rows hc) Cold refl refl refl).kept g o u
      ∙ (carve-changes b c sh h q (cold_virgin sh h) s).kept g o v

  in_kept : (b : List ℕ) (t : Destination) → get (parked_in b c sh h q t) g ≡ get b g
  in_kept b ToEmpty = park_run-kept b
  in_kept b ToCold = cold-kept b
  in_kept b ToArena = refl

  park-kept : (b : List ℕ) → get (park_at b c sh h q).book g ≡ get b g
  unfolding park_at
  park-kept b = in_kept (unlisted b c q) (destination_at b c sh) ∙ (unlisted-changes b c q hc).kept g o v

  settle-kept : (b is : List ℕ) → get b (page free q) + length is ≤ 4096 → get (settle_at b c sh h q is).book g ≡ get b g
  unfolding settle_at
  settle-kept b is l = by (eqb (get (pushed b q is) (page carved q)) (get (pushed b q is) (page free q))) ∙ (push-changes b q is l).kept g o w
    where
      by : (t : Bool) → get (cond t (park_at (pushed b q is) c sh h q) (released (relisted (pushed b q is) c q) 0)).book g ≡ get (pushed b q is) g
      by true = park-kept (pushed b q is)
      by false = (relisted-changes (pushed b q is) c q hc).kept g o v

arena-number : (r : Fate) → fate_number r ≡ 2 → r ≡ Arena
arena-number Kept e = absurd (omega (arith, e))
arena-number Cold e = absurd (omega (arith, e))
arena-number Arena e = refl

-- ---- a run whose fate is the arena is one that number 13 was tested for
module _ (n : ℕ) (b : List ℕ) (c : ℕ) (sh : Shape) (q m : ℕ) (e : release_valid n b c sh m q ≡ true) where
  pub valid-low : get b (arena frontier) ≤ n
  unfolding release_valid
  valid-low = head-frontier n b (and_left _ _ e)

  valid-rest : (page_valid b sh m q && (row_valid b c && destination_valid n b c sh m q)) ≡ true
  unfolding release_valid
  valid-rest = and_right (head_valid n b) _ e

  pub valid-page : page_valid b sh m q ≡ true
  valid-page = and_left (page_valid b sh m q) _ valid-rest

  pub valid-row : row_valid b c ≡ true
  valid-row = and_left (row_valid b c) _ (and_right (page_valid b sh m q) _ valid-rest)

  valid-destination : get b (page free q) + m ≡ get b (page carved q) → is_arena (destination_at b c sh) ≡ true → give_valid n b sh.pages ≡ true
  unfolding destination_valid
  valid-destination x y = rw (eq-eqb _ _ x, y) at (and_right (row_valid b c) _ (and_right (page_valid b sh m q) _ valid-rest))

module _ (n : ℕ) (b : List ℕ) (c : ℕ) (sh : Shape) (h q : ℕ) (ws : List ℕ) where
  pub back-pre : SettlePre n b c sh q ws → BackPre b c sh q ws
  back-pre a =
      let k = a.class in
      let f = a.valid in
      record {
        known = k.known;
        sound = k.sound;
        below = omega (arith, a.inside, k.few, k.sound.paged);
        there = omega (arith, a.inside, k.long, k.sound.paged);
        low = omega (arith, k.long, valid-low n b c sh q (length ws) f);
        page = valid-page n b c sh q (length ws) f;
        row = valid-row n b c sh q (length ws) f;
        bits = a.bits;
        blocks = a.blocks;
      }

  gives-valid : SettlePre n b c sh q ws → (settle_at b c sh h q (map (index_of sh q) ws)).fate ≡ 2 → give_valid n b sh.pages ≡ true
  unfolding settle_at park_at
  gives-valid a e = by (pushed b q (map (index_of sh q) ws)) refl _ refl e
    where
      by : (d : List ℕ) → d ≡ pushed b q (map (index_of sh q) ws) → (t : Bool) → eqb (get d (page carved q)) (get d (page free q)) ≡ t
          → (cond t (park_at d c sh h q) (released (relisted d c q) 0)).fate ≡ 2 → give_valid n b sh.pages ≡ true
      by d z true x y =
          let is = map (index_of sh q) ws in
          let l = slots-left b c sh h q ws (back-pre a) in
          let u : get d (page free q) ≡ get b (page free q) + length is = rw z (free-now b q is l (back-pre a).there) in
          let v : get d (page carved q) ≡ get b (page carved q) = rw z ((push-changes b q is l).kept (page carved q) refl refl) in
          let s : destination_at d c sh ≡ destination_at b c sh = rw z (destination-kept b q is l c a.class.known sh) in
          let g = arena-alone sh (destination_at d c sh) y in
          valid-destination n b c sh q (length ws) a.valid (omega (arith, eqb-true (get d (page carved q)) (get d (page free q)) x, u, v, length-map ws (index_of sh q))) (ap is_arena (sym s) ∙ g)
      by d z false x y = absurd (omega (arith, y))

  module _ (r : Fate) (b' : List ℕ) (p : Parked (fate_number r) b' (settle_at b c sh h q (map (index_of sh q) ws))) where
    pub give-pre : SettlePre n b c sh q ws → r ≡ Arena → length b' ≡ length b → GiveIn b' n q sh.pages
    give-pre a x k =
        let same : (g : Field) → ok g ≡ true → not_arena g ≡ false → moves g ≡ false → on_stack g ≡ false → get (settle_at b c sh h q (map (index_of sh q) ws)).book g ≡ get b g
        = λ g o u v w. settle-kept c sh h q a.class.known a.class.sound g o u v w b (map (index_of sh q) ws) (slots-left b c sh h q ws (back-pre a)) in
        record {
          long = omega (arith, a.class.long);
          small = a.class.few;
          inside = a.inside;
          valid = rw p.left (give_kept n b _ (λ j. same (arena j) refl refl refl refl) (λ f j o. same (hole f j) o refl refl refl) sh.pages ∙ gives-valid a (sym p.fate ∙ ap fate_number x));
        }

    pub given-away : (b'' : List ℕ) → r ≡ Arena → b'' ≡ given b' q sh.pages → Parked (fate_number r) b'' (last_step sh q (settle_at b c sh h q (map (index_of sh q) ws)))
    given-away b'' x e =
        rw (eq-eqb (settle_at b c sh h q (map (index_of sh q) ws)).fate 2 (sym p.fate ∙ ap fate_number x)) (record { fate = p.fate; left = e ∙ ap (λ d. given d q sh.pages) p.left })

    pub kept_here : (r ≡ Arena → ⊥) → Parked (fate_number r) b' (last_step sh q (settle_at b c sh h q (map (index_of sh q) ws)))
    kept_here x = rw (ne_eqb (settle_at b c sh h q (map (index_of sh q) ws)).fate 2 (λ e. x (arena-number r (p.fate ∙ e)))) p
