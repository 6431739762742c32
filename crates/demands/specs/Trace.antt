-- Document 02, A.7, of a call of `vigbuso_trace`, by its contract (`TraceEnds`) and the model's trace (`reach`). n is the arena's length, b the
-- book, ws the trace, bl and fl the lent lists of blocks and figures, dn the three counts; r is what it returns, and a prime marks what stands
-- there afterwards. proofs/Trace proves it.
--     TraceOpens      what a trace leaves is what an opening and its takes and releases leave
--     TraceFigures    what it writes, by definitions over the arena's length and the words carried out
--     Reason          why a word stops it
--     TraceStops      it stops before the first word for which there is a reason
--     TraceOut        the blocks out are the entries not yet released, as document 01 tells them from the calls and answers
--     Traces, Trace   all of this, where numbers 1 and 2 do not apply
use Rattle.std.specs.Prelude.{ℕ, ◌+◌, ◌*◌, ◌/◌, ◌%◌, ◌^◌, ◌≤◌, ◌<◌, false, cond, List, [], ◌∷◌, ◌++◌, ◌⊎◌, ◌↔◌, ◌≡◌, eqb, length, drop, get_or}
use Rattle.std.proofs.Math.ListN as ListN
use Rattle.facts.specs.Lists.{All, total}
use Rattle.classes.specs.Sizes.{page_bytes}
use Rattle.rules.specs.Rules.{rules_of}
use Rattle.model.specs.Calls.{Call, blocks_of}
use Rattle.model.specs.History.{events}
use Rattle.model.specs.Entries.{Entry, In, Live}
use Rattle.refinement.specs.Direct.{Reply}
use Rattle.trace.specs.Trace.{Reach, Handed, Room, bytes_of, out_at, offered, reach, carried}
use Rattle.trace.specs.Words.{room_of, trace_on}
use Rattle.vigbuso.specs.Trace.{TraceEnds}
use Rattle.demands.specs.Run.{Opens, run, book_after}

-- the words that are carried out, what they come to, and the takes and releases among them
abbrev pub words_read : ℕ → List ℕ → List ℕ → List ℕ → List ℕ
words_read n ws bl fl = ListN.take (carried n (room_of bl fl) ws) ws

abbrev pub reached : ℕ → List ℕ → List ℕ → List ℕ → Reach
reached n ws bl fl = reach n (words_read n ws bl fl)

abbrev pub did_calls : ℕ → List ℕ → List ℕ → List ℕ → List Call
did_calls n ws bl fl = (reached n ws bl fl).calls

-- ---- "in a history the trace, stopped or not, counts as an opening with the takes and releases it did"
-- the blocks that the takes of a history answered, in order
abbrev pub handed_by : List Reply → List ℕ
handed_by [] = []
handed_by (r ∷ rs) = blocks_of r.answer ++ handed_by rs

-- the list holds these, and past them what it held
abbrev pub over : List ℕ → List ℕ → List ℕ
over xs l = xs ++ drop (length xs) l

pub record TraceOpens (n : ℕ) (b ws bl fl b' bl' : List ℕ) : Type 0 where
  pub book : b' ≡ book_after n [] b (did_calls n ws bl fl)
  pub blocks : bl' ≡ over (handed_by (run n [] b (did_calls n ws bl fl))) bl
  -- none of these takes and releases is refused
  pub unrefused : All (λ (r : Reply). r.code ≡ 0) (run n [] b (did_calls n ws bl fl))

-- ---- the figures
-- "the highest bytes out so far": the maximum over the moments after each word, of which the first is the opening
abbrev pub bytes_after : ℕ → List ℕ → ℕ
bytes_after n ws = total bytes_of (reach n ws).handed

pub record Highest (n : ℕ) (ws : List ℕ) : Type 0 where
  pub above : (i : ℕ) → bytes_after n (ListN.take i ws) ≤ (reach n ws).highest
  pub met : (i : ℕ) × (bytes_after n (ListN.take i ws) ≡ (reach n ws).highest)

pub record TraceFigures (n : ℕ) (ws bl fl fl' dn' : List ℕ) : Type 0 where
  pub figures : fl' ≡ over (reached n ws bl fl).figures fl
  pub done : dn' ≡ carried n (room_of bl fl) ws ∷ length (reached n ws bl fl).handed ∷ length (reached n ws bl fl).figures ∷ []
  pub highest : (i : ℕ) → Highest n (ListN.take i ws)
  -- the bytes out are the arena's
  pub within : bytes_after n (words_read n ws bl fl) ≤ n * page_bytes

-- ---- "16 when a word has kind 3, is a report with other bits set, names a class above 75 or a place not handed out or already released, or
-- when a lent list cannot hold what the word adds"
pub data Reason (n : ℕ) (m : Room) (r : Reach) (w : ℕ) : Type 0 where
  no_kind : 3 ≤ w / 2 ^ 30 → Reason n m r w
  other_bits : w / 2 ^ 30 ≡ 2 → (w % 2 ^ 30 ≡ 0 → ⊥) → Reason n m r w
  no_class : w / 2 ^ 30 ≡ 0 → 75 < w % 2 ^ 30 → Reason n m r w
  not_out : w / 2 ^ 30 ≡ 1 → out_at (w % 2 ^ 30) r.handed ≡ false → Reason n m r w
  no_blocks : w / 2 ^ 30 ≡ 0 → w % 2 ^ 30 ≤ 75 → m.blocks < length r.handed + length (offered n r (w % 2 ^ 30)) → Reason n m r w
  no_figures : w / 2 ^ 30 ≡ 2 → w % 2 ^ 30 ≡ 0 → m.figures < length r.figures + 5 → Reason n m r w

pub record TraceStops (n : ℕ) (ws bl fl : List ℕ) (r : ℕ) : Type 0 where
  pub code : r ≡ cond (eqb (carried n (room_of bl fl) ws) (length ws)) 0 16
  -- there is none for a word carried out, and there is one for the word that it stopped before
  pub goes : (i : ℕ) → i < carried n (room_of bl fl) ws → Reason n (room_of bl fl) (reach n (ListN.take i ws)) (get_or ws i 0) → ⊥
  pub ends : carried n (room_of bl fl) ws < length ws → Reason n (room_of bl fl) (reached n ws bl fl) (get_or ws (carried n (room_of bl fl) ws) 0)

-- ---- blocks out: the entries handed out that are not back
abbrev pub still_out : List Handed → List Entry
still_out [] = []
still_out (h ∷ hs) = cond h.back (still_out hs) (h.entry ∷ still_out hs)

pub record TraceOut (n : ℕ) (ws bl fl : List ℕ) : Type 0 where
  pub out : (e : Entry) → In e (still_out (reached n ws bl fl).handed) ↔ Live 0 (events n (rules_of []) (did_calls n ws bl fl)) e

pub record Traces (n : ℕ) (b ws bl fl : List ℕ) (r : ℕ) (b' bl' fl' dn' : List ℕ) : Type 0 where
  pub opens : TraceOpens n b ws bl fl b' bl'
  pub figures : TraceFigures n ws bl fl fl' dn'
  pub stops : TraceStops n ws bl fl r
  pub out : TraceOut n ws bl fl

pub record Trace : Type 0 where
  -- "it is checked after 14", and so after 1 and 2
  pub starts : (n : ℕ) (b ws bl fl dn : List ℕ) (r : ℕ) (b' bl' fl' dn' : List ℕ) → TraceEnds (trace_on b n ws bl fl dn) r b' bl' fl' dn'
      → ((r ≡ 0) ⊎ (r ≡ 16)) ↔ Opens n [] b
  pub traces : (n : ℕ) (b ws bl fl dn : List ℕ) (r : ℕ) (b' bl' fl' dn' : List ℕ) → TraceEnds (trace_on b n ws bl fl dn) r b' bl' fl' dn'
      → Opens n [] b → Traces n b ws bl fl r b' bl' fl' dn'
