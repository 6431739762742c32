-- Document 02, A.7, holds of the exported call's definition on the words: for every book that opens, every trace and all lent lists.
use Rattle.facts.proofs.Prelude.{ℕ, zero, suc, ◌≤◌, ◌<◌, arith, true, false, cond, ◌&&◌, true≢false, List, [], ◌∷◌, map, ◌⊎◌}
use Rattle.facts.proofs.Prelude.{inl, inr, ◌≡◌, sym, ap, ◌∙◌, eqb, leb, length, length-map, get_or, eqb-true, eqb-false, by_cases}
use lib.ListN as ListN
use Rattle.rules.specs.Rules.{rules_of}
use Rattle.fields.specs.Field.{words}
use Rattle.fields.specs.Ranges.{max_pages, length_fault}
use Rattle.arena.specs.Open.{opened}
use Rattle.model.specs.History.{events}
use Rattle.model.proofs.Fold.{live_in, in_live}
use Rattle.trace.specs.Trace.{Handed, Reach, Room, at_opening, carried, carried_from, reach_from, after, stops}
use Rattle.trace.specs.Words as Words
use Rattle.trace.specs.Words.{Going, Traced, begins, room_of, ending, trace_on}
use Rattle.demands.specs.Run.{Opens, run}
use Rattle.demands.specs.Trace.{reached, did_calls, handed_by, TraceOpens, TraceFigures, TraceStops, TraceOut, Trace}
use Rattle.demands.proofs.Calls.{room, room-plain, opens, fits-length, opened-by}
use Rattle.demands.proofs.TraceListed.{listed_word, word_of, restored_listed}
use Rattle.demands.proofs.TraceWords.{standing, Whole, whole, good_start, good-bytes}
use Rattle.demands.proofs.TraceReasons.{reason-stops, stops-reason, highest-is}

length-listed : (hs : List Handed) → length (map listed_word hs) ≡ length hs
length-listed hs = length-map hs listed_word

-- ---- when it stops
module _ (n : ℕ) (m : Room) where
  goes_on : (ws : List ℕ) (r : Reach) (i : ℕ) → i < carried_from n m r ws → stops n m (reach_from n r (ListN.take i ws)) (get_or ws i 0) ≡ false
  goes_on [] r i h = absurd (omega arith)
  goes_on (w ∷ ws) r zero h = by_cases (stops n m r w) (λ e. absurd (omega (arith, rw e at h))) (λ e. e)
  goes_on (w ∷ ws) r (suc i) h =
      by_cases (stops n m r w) (λ e. absurd (omega (arith, rw e at h)))
      (λ e. let l : suc i < suc (carried_from n m (after n r w) ws) = rw e at h in goes_on ws (after n r w) i (omega arith))

  ends_at_lem : (ws : List ℕ) (r : Reach) → carried_from n m r ws < length ws
      → stops n m (reach_from n r (ListN.take (carried_from n m r ws) ws)) (get_or ws (carried_from n m r ws) 0) ≡ true
  ends_at_lem [] r h = absurd (omega arith)
  ends_at_lem (w ∷ ws) r h =
      by_cases (stops n m r w) (λ e. rw (e, e))
      (λ e. let l : suc (carried_from n m (after n r w) ws) < suc (length ws) = rw e at h in rw e (ends_at_lem ws (after n r w) (omega arith)))

-- ---- from an opening
module _ (n : ℕ) (b : List ℕ) (o : Opens n [] b) (ws bl fl dn : List ℕ) where
  all : Whole n b o (room_of bl fl) at_opening ws
  all = whole n b o (room_of bl fl) ws at_opening (good_start n b o)

  start_is : begins (opened n (rules_of []) b) ≡ standing n b o at_opening
  start_is = ap begins (sym (opened-by n [] b o))

  trace-is : trace_on b n ws bl fl dn ≡ ending (carried n (room_of bl fl) ws) ws bl fl (standing n b o (reached n ws bl fl))
  unfolding trace_on
  trace-is =
      let r = room n [] b o in
      let c : Words.carried n (room_of bl fl) (begins (opened n (rules_of []) b)) ws ≡ carried n (room_of bl fl) ws = ap (λ (g : Going). Words.carried n (room_of bl fl) g ws) start_is ∙ all.carried in
      rw (fits-length n (length b) r.some-pages r.few-pages r.long, c)
      (ap (λ (g : Going). ending (carried n (room_of bl fl) ws) ws bl fl (Words.goes n g (ListN.take (carried n (room_of bl fl) ws) ws))) start_is
      ∙ ap (ending (carried n (room_of bl fl) ws) ws bl fl) all.goes)

  pub trace-opens : TraceOpens n b ws bl fl (trace_on b n ws bl fl dn).book (trace_on b n ws bl fl dn).blocks
  trace-opens =
      let hs = (reached n ws bl fl).handed in
      let w = restored_listed hs all.good.kinds ∙ all.good.words in
      let l : length (map listed_word hs) ≡ length (handed_by (run n [] b (did_calls n ws bl fl))) = length-listed hs ∙ sym (length-map hs word_of) ∙ ap length all.good.words in
      record {
        book = ap (λ (t : Traced). t.book) trace-is;
        blocks = ap (λ (t : Traced). t.blocks) trace-is ∙ (rw (w, l));
        unrefused = all.good.fine;
      }

  trace-figures : TraceFigures n ws bl fl (trace_on b n ws bl fl dn).figures (trace_on b n ws bl fl dn).done
  trace-figures = record {
    figures = ap (λ (t : Traced). t.figures) trace-is;
    done = ap (λ (t : Traced). t.done) trace-is ∙ (rw (length-listed (reached n ws bl fl).handed));
    highest = λ i. highest-is n (ListN.take i ws);
    within = good-bytes n b o (reached n ws bl fl) all.good;
  }

  pub trace-stops : TraceStops n ws bl fl (trace_on b n ws bl fl dn).code
  trace-stops =
      let m = room_of bl fl in
      record {
        code = ap (λ (t : Traced). t.code) trace-is;
        goes = λ i l x. true≢false (sym (reason-stops n m _ (get_or ws i 0) x) ∙ goes_on n m ws at_opening i l);
        ends = λ l. stops-reason n m (reached n ws bl fl) (get_or ws (carried n m ws) 0) (ends_at_lem n m ws at_opening l);
      }

  trace-out : TraceOut n ws bl fl
  trace-out = record {
    out = λ e. (
      (λ i. in_live e (events n (rules_of []) (did_calls n ws bl fl)) (rw all.good.out at i)),
      (λ l. rw all.good.out (live_in 0 e [] (events n (rules_of []) (did_calls n ws bl fl)) l)),
    );
  }

-- ---- any book: 1 and 2 come first
fault-low : (n k : ℕ) → length_fault n k ≤ 2
fault-low n k =
    by_cases (leb 1 n && leb n max_pages)
    (λ u. by_cases (leb (words n) k) (λ v. rw (u, v) (omega arith)) (λ v. rw (u, v) (omega arith)))
    (λ u. rw u (omega arith))

ended_as : (k j : ℕ) (r : ℕ) → r ≡ cond (eqb k j) 0 16 → (r ≡ 0) ⊎ (r ≡ 16)
ended_as k j r e = by_cases (eqb k j) (λ u. inl (e ∙ rw u)) (λ u. inr (e ∙ rw u))

module _ (n : ℕ) (b ws bl fl dn : List ℕ) where
  abbrev fault : ℕ
  fault = length_fault n (length b)

  -- a number that is not 1 or 2
  unfaulty : (r : ℕ) → r ≡ (trace_on b n ws bl fl dn).code → (r ≡ 0) ⊎ (r ≡ 16) → Opens n [] b
  unfolding trace_on
  unfaulty r e z =
      by_cases (eqb fault 0)
      (λ u. opens n [] b (room-plain n b (eqb-true fault 0 u)))
      (λ u. let same : r ≡ fault = rw u at e in
      elim z [
        | inl y ↦ absurd (eqb-false fault 0 u (sym same ∙ y))
        | inr y ↦ absurd (omega (arith, fault-low n (length b), same, y))
      ])

pub trace : Trace
trace = record {
  starts = λ n b ws bl fl dn r b' bl' fl' dn' e. (
    (λ z. unfaulty n b ws bl fl dn r e.code z),
    (λ o. ended_as (carried n (room_of bl fl) ws) (length ws) r (e.code ∙ (trace-stops n b o ws bl fl dn).code)),
  );
  traces = λ n b ws bl fl dn r b' bl' fl' dn' e o.
      rw (e.code, e.book, e.blocks, e.figures, e.done)
      (record {
        opens = trace-opens n b o ws bl fl dn;
        figures = trace-figures n b o ws bl fl dn;
        stops = trace-stops n b o ws bl fl dn;
        out = trace-out n b o ws bl fl dn;
      });
}
