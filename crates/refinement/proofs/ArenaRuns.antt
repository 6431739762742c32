-- The classes' runs along the arena's steps: which are whole as before, which are new, which are gone. For class d below 152 with a
-- shape of 1 page or more.
--     pages-whole     a step that passes no page to or from class d leaves its runs alone
--     commit-whole    a commit for another holder is such a step; grow-whole, give-whole
--     claimed-others, claimed-new   a commit for a class, once the run's pages name its first: the others are as before, the run is whole
--     left-whole, left-gone         a class's run is given: it is not whole any more, the others are as before
use Rattle.facts.proofs.Prelude.{ℕ, suc, ◌+◌, ◌≤◌, ◌<◌, arith, Bool, true, false, cond, ◌&&◌, List, ◌≡◌, refl, sym, ◌∙◌, eqb, ltb, leb, eqb·zero-suc}
use Rattle.facts.proofs.Prelude.{ltb-true, ltb-false, ne_eqb, eqb-true, eqb-false, le-leb, lt-ltb, leb-true, by_cases, and_left, and_right}
use Rattle.words.specs.Limits.{class_rows}
use Rattle.model.specs.Cover.{in_run, covers, covers_run}
use Rattle.classes.specs.declared.Shape.{Shape}
use Rattle.fields.specs.Field.{arena, page, owner, first, frontier, get}
use Rattle.fields.proofs.Changes.{Changes}
use Rattle.model.specs.Arena.{Arena, commit, grow, give}
use Rattle.model.specs.Class.{Class}
use Rattle.model.specs.Heap.{Heap, Holder, nobody, direct, class, is_held, pass_to}
use Rattle.model.proofs.ArenaTidy.{tidy-give}
use Rattle.model.proofs.ArenaLaws.{idle, commit-law, grow-law, grow-rises, give-frontier}
use Rattle.pages.specs.Runs.{whole}
use Rattle.pages.proofs.Runs.{whole_says, whole_of}
use Rattle.arena.specs.Owners.{owner_code}
use Rattle.arena.specs.Calls.{commit_book, given, grown_by, grow_book}
use Rattle.arena.specs.way.Represents.{ArenaRep}
use Rattle.refinement.proofs.ArenaReached.{Reached, heap_of, above-nobody, idle-nobody}
use Rattle.refinement.proofs.ArenaValid.{loads-frontier}
use Rattle.refinement.proofs.ArenaFrames.{is_step, in_run_of, either, passed, step-first, committed-changes, grown-changes, given-changes, names, whole_same}
use Rattle.refinement.proofs.CommitRep.{commit-rep, grow-rep}
use Rattle.refinement.proofs.GiveRep.{run_ends, give-rep}

-- is a holder class d
abbrev pub is_of : ℕ → Holder → Bool
is_of d w = eqb (owner_code w) (suc d)

pub direct-other : (d : ℕ) → ltb d class_rows ≡ true → is_of d direct ≡ false
direct-other d h = ne_eqb (owner_code direct) (suc d) (λ e. let z = ltb-true d class_rows h in omega arith)

pub nobody-other : (d : ℕ) → is_of d nobody ≡ false
nobody-other d = eqb·zero-suc d

pub class-other : (c d : ℕ) → (c ≡ d → ⊥) → is_of d (class c) ≡ false
class-other c d ne = ne_eqb (suc c) (suc d) (λ e. ne (omega arith))

and_false_l : (s t : Bool) → s ≡ false → (s && t) ≡ false
and_false_l s t e = rw e

and_false_r : (s t : Bool) → t ≡ false → (s && t) ≡ false
and_false_r true t e = e
and_false_r false t e = refl

-- ---- two books that stand for two heaps, page by page
module _ (n : ℕ) (b b' : List ℕ) (H H' : Heap) (rep : ArenaRep n b H) (rep' : ArenaRep n b' H') (rises : H.arena.frontier ≤ H'.arena.frontier) where
  f-is : get b (arena frontier) ≡ H.arena.frontier
  f-is = loads-frontier b H.arena rep.loads

  f_is' : get b' (arena frontier) ≡ H'.arena.frontier
  f_is' = loads-frontier b' H'.arena rep'.loads

  -- a page y below the new frontier: as it was, or in no run of class d at x, before and after
  pub data Page (d x y : ℕ) : Type 0 where
    same : y < H.arena.frontier → H'.holder y ≡ H.holder y → get b' (page first y) ≡ get b (page first y) → Page d x y
    free : names b' d x y ≡ false → (y < H.arena.frontier → names b d x y ≡ false) → Page d x y

  page-under : (d x y : ℕ) → y < H.arena.frontier → Page d x y → names b' d x y ≡ names b d x y
  page-under d x y l (same u e s) = rw (rep'.owners y (omega arith), rep.owners y l, e, s)
  page-under d x y l (free e s) = e ∙ sym (s l)

  page-over : (d x y : ℕ) → H.arena.frontier ≤ y → Page d x y → names b' d x y ≡ false
  page-over d x y l (same u e s) = absurd (omega arith)
  page-over d x y l (free e s) = e

  pub pages-whole : (sh : Shape) (d x : ℕ) → 1 ≤ sh.pages → ((y : ℕ) → y < H'.arena.frontier → Page d x y) → whole n b' sh d x ≡ whole n b sh d x
  pages-whole sh d x one k =
      whole_same n b b' sh d x one (rw (f-is, f_is') rises)
      (λ y l. let u : y < H.arena.frontier = rw f-is at l in page-under d x y u (k y (omega arith)))
      (λ y l u. let l' : H.arena.frontier ≤ y = rw f-is at l in let u' : y < H'.arena.frontier = rw f_is' at u in page-over d x y l' (k y u'))

  -- a page that is not the class's, before and after
  pub page-free : (d x y : ℕ) → y < H'.arena.frontier → is_of d (H'.holder y) ≡ false → (y < H.arena.frontier → is_of d (H.holder y) ≡ false) → Page d x y
  page-free d x y l e k = free (rw (rep'.owners y l, e)) (λ u. rw (rep.owners y u, k u))

-- ---- pages that were nobody's pass to a holder: commits and growths
module _ (n : ℕ) (b b' : List ℕ) (H : Heap) (r : Reached n H) (rep : ArenaRep n b H) (a : Arena) (g : ℕ → ℕ) (who : Holder) (cs : ℕ → Class)
    (rep' : ArenaRep n b' (heap_of H.rules a (pass_to who g H.holder) cs)) (rises : H.arena.frontier ≤ a.frontier)
    (drawn : (x : ℕ) → idle x a + g x ≤ idle x H.arena) where
  drawn-nobody : (y : ℕ) → eqb (g y) 0 ≡ false → H.holder y ≡ nobody
  drawn-nobody y e = let z : g y ≡ 0 → ⊥ = eqb-false (g y) 0 e in idle-nobody n H r y (omega (arith, z, drawn y))

  module _ (starts : (y : ℕ) → eqb (g y) 0 ≡ true → get b' (page first y) ≡ get b (page first y)) where
    -- a page that did not pass
    page-left : (d x y : ℕ) → y < a.frontier → eqb (g y) 0 ≡ true → Page n b b' H (heap_of H.rules a (pass_to who g H.holder) cs) rep rep' rises d x y
    page-left d x y l e =
        let h : pass_to who g H.holder y ≡ H.holder y = rw e in
        by_cases (ltb y H.arena.frontier)
        (λ u. same (ltb-true y H.arena.frontier u) h (starts y e))
        (λ u. let z = ltb-false y H.arena.frontier u in
        page-free n b b' H (heap_of H.rules a (pass_to who g H.holder) cs) rep rep' rises d x y l (rw (h, above-nobody n H r y z) (nobody-other d)) (λ v. absurd (omega arith)))

    -- a class that is not the holder
    pub drawn-whole : (sh : Shape) (d x : ℕ) → 1 ≤ sh.pages → is_of d who ≡ false → whole n b' sh d x ≡ whole n b sh d x
    drawn-whole sh d x one o =
        pages-whole n b b' H (heap_of H.rules a (pass_to who g H.holder) cs) rep rep' rises sh d x one
        (λ y l. by_cases (eqb (g y) 0)
        (λ e. page-left d x y l e)
        (λ e. page-free n b b' H (heap_of H.rules a (pass_to who g H.holder) cs) rep rep' rises d x y l (rw e o) (λ u. rw (drawn-nobody y e) (nobody-other d))))

    -- the holder's class, once the pages name q: its other runs
    pub claimed_others : (q : ℕ) → ((y : ℕ) → eqb (g y) 0 ≡ false → get b' (page first y) ≡ q) → (sh : Shape) (d x : ℕ) → 1 ≤ sh.pages → (x ≡ q → ⊥)
        → whole n b' sh d x ≡ whole n b sh d x
    claimed_others q fs sh d x one ne =
        pages-whole n b b' H (heap_of H.rules a (pass_to who g H.holder) cs) rep rep' rises sh d x one
        (λ y l. by_cases (eqb (g y) 0)
        (λ e. page-left d x y l e)
        (λ e. free (and_false_r (eqb (get b' (page owner y)) (suc d)) _ (rw (fs y e) (ne_eqb q x (λ z. ne (sym z))))) (λ u. rw (rep.owners y u, drawn-nobody y e) (and_false_l _ _ (nobody-other d)))))

    -- and the run itself
    pub claimed_new : (c q : ℕ) → who ≡ class c → (sh : Shape) → ((y : ℕ) → in_run sh.pages q y ≡ true → eqb (g y) 0 ≡ false)
        → ((y : ℕ) → eqb (g y) 0 ≡ false → get b' (page first y) ≡ q) → q + sh.pages ≤ a.frontier → a.frontier ≤ n → whole n b' sh c q ≡ true
    claimed_new c q wc sh ins fs l u =
        let drawn : (y : ℕ) → q ≤ y → y < q + sh.pages → eqb (g y) 0 ≡ false = λ y i o. ins y (rw (le-leb q y i, lt-ltb y (q + sh.pages) o)) in
        whole_of n b' sh c q
        (record {
          inside = omega arith;
          below = rw (loads-frontier b' a rep'.loads) l;
          owner = λ y i o. rw (drawn y i o, wc) at (rep'.owners y (omega arith));
          first = λ y i o. fs y (drawn y i o);
        })

-- ---- a run that is held is given
module _ (n : ℕ) (b : List ℕ) (H : Heap) (rep : ArenaRep n b H) (r : Reached n H) (q m : ℕ) (one : 1 ≤ m) (holds : (x : ℕ) → covers m q x ≤ is_held (H.holder x)) where
  pub given-step : Changes (is_step (in_run m q)) b (given b q m)
  given-step = given-changes b q m (rw rep.loads (tidy-give m one q H.arena r.tidy).slots)

  given-rep : ArenaRep n (given b q m) (heap_of H.rules (give m q H.arena) (pass_to nobody (covers m q) H.holder) H.classes)
  given-rep = give-rep n b H rep r q m one holds H.classes

  given-pages : (sh : Shape) (d x : ℕ) → 1 ≤ sh.pages → ((y : ℕ) → in_run m q y ≡ true → names b d x y ≡ false) → whole n (given b q m) sh d x ≡ whole n b sh d x
  given-pages sh d x some-page k =
      let H' = heap_of H.rules (give m q H.arena) (pass_to nobody (covers m q) H.holder) H.classes in
      pages-whole n b (given b q m) H H' rep given-rep (omega (arith, give-frontier m q H.arena)) sh d x some-page
      (λ y l. by_cases (in_run m q y)
      (λ e. let o : get (given b q m) (page owner y) ≡ 0 = rw e at (given-rep.owners y l) in free (rw (o, eqb·zero-suc d)) (λ u. k y e))
      (λ e. same (omega (arith, give-frontier m q H.arena)) (rw e) (step-first (in_run m q) b (given b q m) given-step y)))

  -- from a holder that is not class d
  pub give-whole : (sh : Shape) (d x : ℕ) → 1 ≤ sh.pages → ((y : ℕ) → in_run m q y ≡ true → is_of d (H.holder y) ≡ false) → whole n (given b q m) sh d x ≡ whole n b sh d x
  give-whole sh d x some-page k =
      given-pages sh d x some-page
      (λ y e. let u = ltb-true y (q + m) (and_right (leb q y) (ltb y (q + m)) e) in
      rw (rep.owners y (omega (arith, run_ends n b H rep r q m one holds)), k y e))

  -- from class c, whose run it was
  module _ (sh₀ : Shape) (c : ℕ) (pages : sh₀.pages ≡ m) (run : whole n b sh₀ c q ≡ true) where
    pub left-whole : (sh : Shape) (d x : ℕ) → 1 ≤ sh.pages → (d ≡ c → x ≡ q → ⊥) → whole n (given b q m) sh d x ≡ whole n b sh d x
    left-whole sh d x some-page ne = given-pages sh d x some-page other
      where
        other : (y : ℕ) → in_run m q y ≡ true → names b d x y ≡ false
        other y t =
            let w = whole_says n b sh₀ c q run in
            let i = leb-true q y (and_left (leb q y) (ltb y (q + m)) t) in
            let u : y < q + sh₀.pages = rw pages (ltb-true y (q + m) (and_right (leb q y) (ltb y (q + m)) t)) in
            rw (w.owner y i u, w.first y i u)
            (by_cases (eqb c d)
            (λ e. let z = eqb-true c d e in and_false_r (eqb (suc c) (suc d)) (eqb q x) (ne_eqb q x (λ w. ne (sym z) (sym w))))
            (λ e. let z : c ≡ d → ⊥ = eqb-false c d e in and_false_l (eqb (suc c) (suc d)) (eqb q x) (class-other c d z)))

    pub left-gone : whole n (given b q m) sh₀ c q ≡ false
    left-gone =
        by_cases (whole n (given b q m) sh₀ c q)
        (λ e. absurd (let o = (whole_says n (given b q m) sh₀ c q e).owner q (omega arith) (omega arith) in
        let i : in_run m q q ≡ true = rw (le-leb q q (omega arith), lt-ltb q (q + m) (omega arith)) in
        let z : get (given b q m) (page owner q) ≡ 0 = rw i at (given-rep.owners q (omega (arith, give-frontier m q H.arena, run_ends n b H rep r q m one holds))) in
        omega arith))
        (λ e. e)

-- ---- a commit for a holder that is not class d
module _ (n : ℕ) (b : List ℕ) (H : Heap) (rep : ArenaRep n b H) (r : Reached n H) (h m : ℕ) (one : 1 ≤ m) (who : Holder) (holds : is_held who ≡ 1) where
  pub commit-whole : (sh : Shape) (d x : ℕ) → 1 ≤ sh.pages → is_of d who ≡ false → whole n (commit_book n b h m H.arena (owner_code who)) sh d x ≡ whole n b sh d x
  commit-whole sh d x some-page o =
      let g = commit n h m H.arena in
      let law = commit-law n h m H.arena in
      let c = commit_book n b h m H.arena (owner_code who) in
      let t = either (passed b g.arena) (in_run_of m g.run) in
      drawn-whole n b c H r rep g.arena (covers_run m g.run) who H.classes (commit-rep n b H rep r h m one who holds H.classes) law.rises
      (λ y. omega (arith, law.pages y))
      (λ y e. step-first t b c (committed-changes n b h m H.arena r.tidy.slots (owner_code who)) y)
      sh d x some-page o

-- a growth, for a class
pub grow-whole : (n : ℕ) (b : List ℕ) (H : Heap) → ArenaRep n b H → Reached n H → (h m : ℕ) → 1 ≤ m → (e : ℕ) (sh : Shape) (d x : ℕ) → 1 ≤ sh.pages → ltb d class_rows ≡ true
    → whole n (grow_book n b h e m H.arena) sh d x ≡ whole n b sh d x
grow-whole n b H rep r h m one e sh d x some-page hd =
    let g = grow n h e m H.arena in
    let t = either (passed b g.arena) (in_run_of m (grown_by g.grew e)) in
    drawn-whole n b (grow_book n b h e m H.arena) H r rep g.arena (λ y. cond g.grew (covers m e y) 0) direct H.classes
    (grow-rep n b H rep r h m one e H.classes) (grow-rises n h e m H.arena)
    (λ y. omega (arith, grow-law n h e m H.arena y))
    (λ y z. step-first t b (grow_book n b h e m H.arena) (grown-changes n b h m H.arena r.tidy.slots e) y)
    sh d x some-page (direct-other d hd)
