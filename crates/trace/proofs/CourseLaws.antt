-- The words in turn: the start, one more, and the end.
use Rattle.facts.proofs.Prelude.{ℕ, zero, suc, ◌+◌, ◌-◌, ◌≤◌, ◌<◌, arith, false, List, [], ◌∷◌, ◌++◌, map, ◌≡◌}
use Rattle.facts.proofs.Prelude.{refl, sym, ap, ◌∙◌, length, drop, get_or, take-append-drop, drop-cons, drop-drop, length-take-le}
use lib.ListN as ListN
use Rattle.trace.specs.declared.course.Course.{Course}
use Rattle.trace.specs.declared.tally.Tally.{Tally}
use Rattle.trace.specs.Trace.{Room, say_of}
use Rattle.trace.specs.Words.{Going, restore_kind, begins, goes, after, stops, carried, room_of}
use Rattle.trace.specs.way.Steps.{Lent, lent, going_of, TallyPre, Went}
use Rattle.rules.specs.Rules.{rules_of}
use Rattle.arena.specs.Open.{opened}
use Rattle.trace.specs.way.Course.{Coursed, Ran}

goes-more : (n : ℕ) (g : Going) (ws : List ℕ) (i : ℕ) → i < length ws → goes n g (ListN.take (suc i) ws) ≡ after n (goes n g (ListN.take i ws)) (get_or ws i 0)
goes-more n g [] i h = absurd (omega arith)
goes-more n g (w ∷ ws) zero h = refl
goes-more n g (w ∷ ws) (suc i) h = goes-more n (after n g w) ws i (omega arith)

carried-more : (n : ℕ) (m : Room) (g : Going) (ws : List ℕ) (i : ℕ) → i < length ws → stops n m g (get_or ws i 0) ≡ false
    → carried n m g (drop i ws) ≡ suc (carried n m (after n g (get_or ws i 0)) (drop (suc i) ws))
carried-more n m g ws i h e = rw (drop-cons ws i 0 h, e)

drop-later : (a b : ℕ) → a ≤ b → (u v : List ℕ) → drop a u ≡ drop a v → drop b u ≡ drop b v
drop-later a b h u v e =
    let f : b ≡ a + (b - a) = omega arith in
    rw f (sym (drop-drop (b - a) a u) ∙ ap (drop (b - a)) e ∙ drop-drop (b - a) a v)

-- how far the loop is: from x, at y with the tally t, after i words
pub record Onward (n : ℕ) (x : Lent) (ws : List ℕ) (y : Lent) (t : Tally) (i : ℕ) : Type 0 where
  pub within : i ≤ length ws
  pub pre : TallyPre n y t
  pub long : length y.book ≡ length x.book
  pub places : length y.blocks ≡ length x.blocks
  pub rows : length y.figures ≡ length x.figures
  pub goes : going_of y t ≡ goes n (begins x.book) (ListN.take i ws)
  pub carried : carried n (room_of x.blocks x.figures) (begins x.book) ws ≡ i + carried n (room_of x.blocks x.figures) (going_of y t) (drop i ws)
  pub blocks : drop t.at y.blocks ≡ drop t.at x.blocks
  pub figures : drop t.written y.figures ≡ drop t.written x.figures

module _ (n : ℕ) (x : Lent) (ws : List ℕ) (y : Lent) (t : Tally) (i : ℕ) (o : Onward n x ws y t i) where
  abbrev m : Room
  m = room_of x.blocks x.figures

  pub onward-more : i < length ws → (y' : Lent) (t' : Tally) → Went n (say_of (get_or ws i 0)) y t y' t' → length y'.book ≡ length y.book → length y'.blocks ≡ length y.blocks → length y'.figures ≡ length y.figures
      → Onward n x ws y' t' (i + 1)
  onward-more h y' t' s long places rows =
      let w = get_or ws i 0 in
      let e : stops n m (going_of y t) w ≡ false = rw (← o.places, ← o.rows) s.free in
      let one : i + 1 ≡ suc i = omega arith in
      let left = carried n m (going_of y' t') (drop (suc i) ws) in
      let next : carried n m (going_of y t) (drop i ws) ≡ suc left = carried-more n m (going_of y t) ws i h e ∙ rw s.goes in
      record {
        within = omega arith;
        pre = record {
          there = record {
            book = record { few = o.pre.there.book.few; long = omega (arith, o.pre.there.book.long) };
            blocks = s.handed o.pre.there.blocks;
            out = s.fewer o.pre.there.out;
          };
          figures = s.written o.pre.figures;
        };
        long = long ∙ o.long;
        places = places ∙ o.places;
        rows = rows ∙ o.rows;
        goes = rw one (s.goes ∙ (rw o.goes (sym (goes-more n (begins x.book) ws i h))));
        carried = rw one (omega (arith, o.carried, next));
        blocks = s.blocks ∙ drop-later t.at t'.at s.further.0 y.blocks x.blocks o.blocks;
        figures = s.figures ∙ drop-later t.written t'.written s.further.1 y.figures x.figures o.figures;
      }

-- ---- the whole trace, from the book as it was lent
pub ran : (n : ℕ) (b b₁ bl fl ws : List ℕ) (r : Course) (b' bl' fl' ks : List ℕ) → b₁ ≡ opened n (rules_of []) b → Coursed r n (lent b₁ bl fl) (lent b' bl' fl') ws → ks ≡ map restore_kind (ListN.take r.tally.at bl')
    → Ran r n (lent b bl fl) (lent b' (ks ++ drop r.tally.at bl') fl') ws
ran n b b₁ bl fl ws r b' bl' fl' ks e c s =
    let k : r.carried ≡ carried n (room_of bl fl) (begins (opened n (rules_of []) b)) ws = rw (← e) c.carried in
    let g : going_of (lent b' bl' fl') r.tally ≡ goes n (begins (opened n (rules_of []) b)) (ListN.take (carried n (room_of bl fl) (begins (opened n (rules_of []) b)) ws) ws) = rw (← k, ← e) c.goes in
    let at : length (ListN.take r.tally.at bl') ≡ r.tally.at = length-take-le r.tally.at bl' c.handed in
    let written : length (ListN.take r.tally.written fl') ≡ r.tally.written = length-take-le r.tally.written fl' c.written in
    let blocks : map restore_kind (ListN.take r.tally.at bl') ++ drop r.tally.at bl' ≡ map restore_kind (ListN.take r.tally.at bl') ++ drop (length (ListN.take r.tally.at bl')) bl = rw (at, c.blocks) in
    let figures : fl' ≡ ListN.take r.tally.written fl' ++ drop (length (ListN.take r.tally.written fl')) fl = rw (written, ← c.figures) (sym (take-append-drop r.tally.written fl')) in
    record {
      book = ap (λ (x : Going). x.book) g;
      blocks = ap (λ (l : List ℕ). l ++ drop r.tally.at bl') s ∙ blocks ∙ ap (λ (x : Going). map restore_kind x.listed ++ drop (length x.listed) bl) g;
      figures = figures ∙ ap (λ (x : Going). x.figures ++ drop (length x.figures) fl) g;
      done = rw (k, ← at, ← written) (ap (λ (x : Going). carried n (room_of bl fl) (begins (opened n (rules_of []) b)) ws ∷ length x.listed ∷ length x.figures ∷ []) g);
    }
