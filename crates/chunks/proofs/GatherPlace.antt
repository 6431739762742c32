-- Placing a chunk's page neither reads nor writes another page's stack, out bits, FREE and CARVED: a write of these may as well come after it.
--     aside          such a field, seen from page q; FIRST of any page is one too
--     past-put ..    a write goes past a step that leaves its field aside
--     place-past     it goes past a whole placing, which has the same fate
--     place-changes  what placing may change
use Rattle.facts.proofs.Prelude.{ℕ, zero, suc, ◌+◌, ◌≤◌, arith, Bool, true, false, cond, not, ◌&&◌, ◌||◌, List, []}
use Rattle.facts.proofs.Prelude.{◌∷◌, ◌≡◌, refl, eqb, ltb, leb, length, lt-ltb, eq-eqb, every, and_left, and_right}
use Rattle.words.specs.Limits.{class_rows}
use Rattle.classes.specs.declared.Shape.{Shape}
use Rattle.fields.specs.Field.{Field, PageField, class, page, slot, out, region, off, row, partial, empty_count, cold_count, empty_limit, cold_limit, next, prev, free, carved, listed, virgin, get, put, ok}
use Rattle.fields.specs.Outcome.{put_at}
use Rattle.fields.proofs.Laws.{get-put_other, put-comm}
use Rattle.fields.proofs.Changes.{Changes, changes-none, changes-put, changes_trans, differ}
use Rattle.pages.specs.declared.Park.{Park}
use Rattle.pages.specs.declared.Park.TheVariants.{Empty, Cold}
use Rattle.words.specs.Host.{digit}
use Rattle.pages.specs.Stack.{descending, set_outs, push}
use Rattle.pages.specs.Links.{point_next, linked, cut_out, link, unlink, top, stored, park_run}
use Rattle.pages.specs.Carve.{carved_at_once, carve_anew}
use Rattle.pages.proofs.Descending.{small, length-descending}
use Rattle.pages.proofs.Frames.{at_once-few}
use Rattle.pages.proofs.Frames.{changes-link, changes-unlink, changes-park_run, changes-carve}
use Rattle.model.specs.declared.Destination.{Destination}
use Rattle.model.specs.declared.Destination.TheVariants.{ToEmpty, ToCold, ToArena}
use Rattle.calls.specs.Release.{Released, released, unlisted, relisted, park_as, parked_in, destination_at, park_at, emptied, set_retired}
use Rattle.release.specs.way.Act.{cold_virgin}
use Rattle.chunks.specs.way.Pass.{place_at}

abbrev pub aside : ℕ → Field → Bool
aside q f = (eqb (region f) 4 && eqb (off f) 1) || ((leb 5 (region f) || (eqb (region f) 4 && (eqb (off f) 4 || eqb (off f) 5))) && not (eqb (row f) q))

-- what is written on another book
abbrev pub on_book : (List ℕ → List ℕ) → Released → Released
on_book u r = record { code = r.code; book = u r.book; fate = r.fate }

-- ---- a write past a step; t has the fields that the step leaves aside
module _ (t : Field → Bool) (f : Field) (v : ℕ) (of : ok f ≡ true) (tf : t f ≡ true) where
  pub unread : (b : List ℕ) (g : Field) → ok g ≡ true → t g ≡ false → get (put b f v) g ≡ get b g
  unread b g og tg = get-put_other b f g v of og (differ t f g tf tg)

  pub past-put : (b d : List ℕ) (g : Field) (u : ℕ) → ok g ≡ true → t g ≡ false → d ≡ put b f v → put d g u ≡ put (put b g u) f v
  past-put b d g u og tg e = rw e (put-comm b f g v u of og (differ t f g tf tg))

  past-put_at : (b d : List ℕ) (k : PageField) (code u : ℕ) → ((x : ℕ) → t (page k x) ≡ false) → d ≡ put b f v → put_at d k code u ≡ put (put_at b k code u) f v
  past-put_at b d k zero u tk e = e
  past-put_at b d k (suc x) u tk e = past-put b d (page k x) u refl (tk x) e

  pub past-push : (b d : List ℕ) (q m : ℕ) (is : List ℕ) → ((i : ℕ) → t (slot q i) ≡ false) → m + length is ≤ 4096 → d ≡ put b f v → push d q m is ≡ put (push b q m is) f v
  past-push b d q m [] ts l e = e
  past-push b d q m (i ∷ is) ts l e =
      past-put (push b q m is) (push d q m is) (slot q (m + length is)) i (lt-ltb (m + length is) 4096 (omega arith)) (ts (m + length is)) (past-push b d q m is ts (omega arith) e)

  pub past-marks : (b d : List ℕ) (q u : ℕ) (is : List ℕ) → ((i : ℕ) → t (out q i) ≡ false) → every small is ≡ true → d ≡ put b f v → set_outs d q u is ≡ put (set_outs b q u is) f v
  past-marks b d q u [] ts l e = e
  past-marks b d q u (i ∷ is) ts l e =
      past-put (set_outs b q u is) (set_outs d q u is) (out q i) u (and_left (small i) (every small is) l) (ts i) (past-marks b d q u is ts (and_right (small i) (every small is) l) e)

-- ---- past the placing of page q
pub own : (q : ℕ) → not (eqb q q) ≡ false
own q = rw (eq-eqb q q refl)

module _ (c q : ℕ) (hc : ltb c class_rows ≡ true) (f : Field) (v : ℕ) (of : ok f ≡ true) (tf : aside q f ≡ true) where
  after : List ℕ → List ℕ
  after d = put d f v

  past : (b d : List ℕ) (g : Field) (u : ℕ) → ok g ≡ true → aside q g ≡ false → d ≡ put b f v → put d g u ≡ put (put b g u) f v
  past b d g u og tg e = past-put (aside q) f v of tf b d g u og tg e

  idle : (b : List ℕ) (g : Field) → ok g ≡ true → aside q g ≡ false → get (put b f v) g ≡ get b g
  idle b g og tg = unread (aside q) f v of tf b g og tg

  link-past : (b : List ℕ) → link (put b f v) c q ≡ put (link b c q) f v
  unfolding link linked
  link-past b =
      let h = get b (class partial c) in
      rw (idle b (class partial c) hc refl)
      (past _ _ (page listed q) 1 refl refl
      (past _ _ (class partial c) (q + 1) hc refl
      (past-put_at (aside q) f v of tf _ _ prev h (q + 1) (λ x. refl)
      (past _ _ (page prev q) 0 refl refl
      (past b _ (page next q) h refl refl refl)))))

  point_past : (b : List ℕ) (y x : ℕ) → point_next (put b f v) c y x ≡ put (point_next b c y x) f v
  point_past b zero x = past b _ (class partial c) x hc refl refl
  point_past b (suc y) x = past b _ (page next y) x refl refl refl

  unlink-past : (b : List ℕ) → unlink (put b f v) c q ≡ put (unlink b c q) f v
  unfolding unlink cut_out
  unlink-past b =
      let x = get b (page next q) in
      let y = get b (page prev q) in
      rw (idle b (page next q) refl refl, idle b (page prev q) refl refl)
      (past _ _ (page listed q) 0 refl refl
      (past _ _ (page prev q) 0 refl refl
      (past _ _ (page next q) 0 refl refl
      (past-put_at (aside q) f v of tf _ _ prev x y (λ z. refl) (point_past b y x)))))

  unlisted-past : (b : List ℕ) → unlisted (put b f v) c q ≡ put (unlisted b c q) f v
  unfolding unlisted
  unlisted-past b = rw (idle b (page listed q) refl refl) (by (eqb (get b (page listed q)) 1))
    where
      by : (t : Bool) → cond t (unlink (put b f v) c q) (put b f v) ≡ put (cond t (unlink b c q) b) f v
      by true = unlink-past b
      by false = refl

  relisted-past : (b : List ℕ) → relisted (put b f v) c q ≡ put (relisted b c q) f v
  unfolding relisted
  relisted-past b = rw (idle b (page listed q) refl refl) (by (eqb (get b (page listed q)) 0))
    where
      by : (t : Bool) → cond t (link (put b f v) c q) (put b f v) ≡ put (cond t (link b c q) b) f v
      by true = link-past b
      by false = refl

  park_run-past : (b : List ℕ) (k : Park) → park_run (put b f v) c k q ≡ put (park_run b c k q) f v
  unfolding park_run
  park_run-past b k =
      rw (idle b (class (top k) c) hc refl, idle b (class (stored k) c) hc refl)
      (past _ _ (class (stored k) c) _ hc refl
      (past _ _ (class (top k) c) _ hc refl
      (past b _ (page next q) _ refl refl refl)))

  emptied-past : (b : List ℕ) → emptied (put b f v) q ≡ put (emptied b q) f v
  unfolding emptied
  emptied-past b = past _ _ (page free q) 0 refl (own q) (past b _ (page carved q) 0 refl (own q) refl)

  module _ (sh : Shape) (few : sh.capacity ≤ 4096) where
    carve-past : (b : List ℕ) (z : Bool) → carve_anew (put b f v) sh q z ≡ put (carve_anew b sh q z) f v
    unfolding carve_anew
    carve-past b z =
        let k = carved_at_once sh in
        let l : 0 + length (descending 0 k) ≤ 4096 = omega (arith, length-descending 0 k, at_once-few sh k refl few) in
        past _ _ (page free q) k refl (own q)
        (past _ _ (page carved q) k refl (own q)
        (past _ _ (page virgin q) (digit z) refl refl
        (past-push (aside q) f v of tf b _ q 0 (descending 0 k) (λ i. own q) l refl)))

    as_past : (b : List ℕ) (h : ℕ) (s : Destination) → park_as (put b f v) c sh h q s ≡ on_book after (park_as b c sh h q s)
    unfolding after
    as_past b h ToEmpty = rw (park_run-past b Empty)
    as_past b h ToCold = rw (carve-past b (cold_virgin sh h), park_run-past (carve_anew b sh q (cold_virgin sh h)) Cold)
    as_past b h ToArena = refl

    park-past : (b : List ℕ) (h : ℕ) → park_at (put b f v) c sh h q ≡ on_book after (park_at b c sh h q)
    unfolding park_at
    park-past b h =
        rw (idle b (class empty_count c) hc refl, idle b (class cold_count c) hc refl, idle b (class empty_limit c) hc refl, idle b (class cold_limit c) hc refl, unlisted-past b) (as_past (unlisted b c q) h (destination_at b c sh))

    pub place-past : (b : List ℕ) (h : ℕ) → place_at (put b f v) c sh h q ≡ on_book (λ d. put d f v) (place_at b c sh h q)
    unfolding place_at after
    place-past b h =
        let d = put b (page virgin q) 0 in
        rw (past b _ (page virgin q) 0 refl refl refl, idle d (page carved q) refl (own q), idle d (page free q) refl (own q)) (by d (eqb (get d (page carved q)) (get d (page free q))))
      where
        by : (d : List ℕ) (t : Bool) → cond t (set_retired (park_at (emptied (put d f v) q) c sh h q)) (released (relisted (put d f v) c q) 0)
            ≡ on_book (λ d. put d f v) (cond t (set_retired (park_at (emptied d q) c sh h q)) (released (relisted d c q) 0))
        by d true = rw (emptied-past d, park-past (emptied d q) h)
        by d false = rw (relisted-past d)

-- ---- what placing may change
abbrev pub writes : ℕ → Field → Bool
writes q f = (eqb (region f) 2 && leb (off f) 4) || (leb 4 (region f) && not (aside q f))

pub writes-own : (q : ℕ) → not (not (eqb q q)) ≡ true
writes-own q = rw (eq-eqb q q refl)

module _ (c q : ℕ) (hc : ltb c class_rows ≡ true) where
  unlisted-writes : (b : List ℕ) → Changes (writes q) b (unlisted b c q)
  unfolding unlisted
  unlisted-writes b = by (eqb (get b (page listed q)) 1)
    where
      by : (t : Bool) → Changes (writes q) b (cond t (unlink b c q) b)
      by true = changes-unlink (writes q) b c q hc (λ z. refl) (λ z k. refl) (λ z k. refl) refl refl refl
      by false = changes-none (writes q) b

  relisted-writes : (b : List ℕ) → Changes (writes q) b (relisted b c q)
  unfolding relisted
  relisted-writes b = by (eqb (get b (page listed q)) 0)
    where
      by : (t : Bool) → Changes (writes q) b (cond t (link b c q) b)
      by true = changes-link (writes q) b c q hc refl refl refl refl (λ z k. refl)
      by false = changes-none (writes q) b

  module _ (sh : Shape) (few : sh.capacity ≤ 4096) (h : ℕ) where
    as_writes : (b : List ℕ) (s : Destination) → Changes (writes q) b (parked_in b c sh h q s)
    as_writes b ToEmpty = changes-park_run (writes q) b c q hc Empty refl refl refl
    as_writes b ToCold =
        let d = carve_anew b sh q (cold_virgin sh h) in
        changes_trans (writes q) b d _ (changes-carve (writes q) b q (writes-own q) refl (λ i. writes-own q) sh (cold_virgin sh h) (writes-own q) few)
        (changes-park_run (writes q) d c q hc Cold refl refl refl)
    as_writes b ToArena = changes-none (writes q) b

    park-writes : (b : List ℕ) → Changes (writes q) b (park_at b c sh h q).book
    unfolding park_at
    park-writes b = changes_trans (writes q) b (unlisted b c q) _ (unlisted-writes b) (as_writes (unlisted b c q) (destination_at b c sh))

    pub place-changes : (b : List ℕ) → Changes (writes q) b (place_at b c sh h q).book
    unfolding place_at emptied
    place-changes b =
        let d = put b (page virgin q) 0 in
        changes_trans (writes q) b d _ (changes-put (writes q) b b (page virgin q) 0 refl refl (changes-none (writes q) b)) (by d (eqb (get d (page carved q)) (get d (page free q))))
      where
        by : (d : List ℕ) (t : Bool) → Changes (writes q) d (cond t (set_retired (park_at (emptied d q) c sh h q)) (released (relisted d c q) 0)).book
        by d true =
            let e = emptied d q in
            changes_trans (writes q) d e _
            (changes-put (writes q) d _ (page free q) 0 refl (writes-own q) (changes-put (writes q) d d (page carved q) 0 refl (writes-own q) (changes-none (writes q) d)))
            (park-writes e)
        by d false = relisted-writes d
