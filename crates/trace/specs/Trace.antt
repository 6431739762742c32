-- A trace (document 02, A.7): what its words say, the history that they stand for, the blocks that it handed out, its figures, and when it
-- stops. All is told from the arena's length and the words; `room` is what the two lent lists hold.
--     say_of      what a word says
--     Reach      how far a trace has come: a history from an opening, the entries handed out, the figures
--     after      one word carried out
--     stops      a word stops the trace
--     reach      the words carried out in turn, from an opening
--     carried    how many words there are before the first that stops it
use Rattle.std.specs.Prelude.{ℕ, zero, suc, ◌+◌, ◌-◌, ◌/◌, ◌%◌, ◌^◌, List, [], ◌∷◌, ◌++◌, map, Bool, true, false, cond, not, ◌&&◌, eqb, ltb, length, replicate}
use Rattle.facts.specs.Lists.{total}
use Rattle.classes.specs.Shape.{class_count}
use Rattle.rules.specs.Rules.{rules_of}
use Rattle.model.specs.Calls as Calls
use Rattle.model.specs.Calls.{Call, names}
use Rattle.words.specs.Host.{host_max}
use Rattle.model.specs.Heap.{Heap, figures, step}
use Rattle.model.specs.History.{heap_after}
use Rattle.model.specs.Entries.{Entry, entries_of, block_bytes}

-- ---- a word: the kind in its top two bits, a number below them
pub data Say : Type 0 where
  take : (class : ℕ) → Say  -- 0 to 63 small, 64 to 75 medium
  back : (place : ℕ) → Say  -- "the block whose place in order of handing out (from 0)"
  report : Say
  wrong : Say  -- "kind 3, .. a report with other bits set, .. a class above 75"

abbrev pub say : ℕ → ℕ → Say
say kind m =
    cond (eqb kind 0) (cond (ltb m class_count) (take m) wrong)
    (cond (eqb kind 1) (back m)
    (cond (eqb kind 2 && eqb m 0) report wrong))

-- a trace's own words are 32 bits: "the top two bits the kind", the low 30 its number
unfoldable pub say_of : ℕ → Say
say_of w = say (w / 2 ^ 30) (w % 2 ^ 30)

-- ---- the calls that they stand for: "Host answers are all granted and zeroing"
abbrev pub blank : List ℕ
blank = replicate 64 0

unfoldable pub take_of : ℕ → Call
take_of c = cond (ltb c 64) (Calls.take_blocks c host_max blank) (Calls.medium_take_blocks (c - 64) host_max blank)

unfoldable pub back_of : Entry → Call
back_of e = cond (ltb e.class 64) (Calls.release_blocks e.class host_max (e.word ∷ [])) (Calls.medium_release_blocks (e.class - 64) host_max (e.word ∷ []))

-- ---- the blocks handed out, in order; "Within one take the listed order counts"
pub record Handed : Type 0 where
  pub entry : Entry
  pub back : Bool  -- already released

abbrev pub handed : Entry → Handed
handed e = record { entry = e; back = false }

abbrev pub returned : Handed → Handed
returned h = record { entry = h.entry; back = true }

abbrev pub is_out : Handed → ℕ
is_out h = cond h.back 0 1

abbrev pub bytes_of : Handed → ℕ
bytes_of h = cond h.back 0 (block_bytes h.entry)

-- the place is handed out and not released
abbrev pub out_at : ℕ → List Handed → Bool
out_at p [] = false
out_at zero (h ∷ hs) = not h.back
out_at (suc p) (h ∷ hs) = out_at p hs

-- that place released, and the calls that do it: none where there is no such place
abbrev pub back_at : ℕ → List Handed → List Handed
back_at p [] = []
back_at zero (h ∷ hs) = returned h ∷ hs
back_at (suc p) (h ∷ hs) = h ∷ back_at p hs

abbrev pub calls_at : ℕ → List Handed → List Call
calls_at p [] = []
calls_at zero (h ∷ hs) = back_of h.entry ∷ []
calls_at (suc p) (h ∷ hs) = calls_at p hs

-- ---- how far it has come
pub record Reach : Type 0 where
  pub calls : List Call  -- the takes and releases carried out
  pub handed : List Handed
  pub figures : List ℕ
  pub highest : ℕ  -- the most bytes out after any word so far

abbrev pub at_opening : Reach
at_opening = record { calls = []; handed = []; figures = []; highest = 0 }

abbrev pub heap_of : ℕ → Reach → Heap
heap_of n r = heap_after n (rules_of []) r.calls

abbrev pub max : ℕ → ℕ → ℕ
max a b = cond (ltb a b) b a

abbrev pub come : Reach → List Call → List Handed → Reach
come r xs hs = record { calls = r.calls ++ xs; handed = hs; figures = r.figures; highest = max r.highest (total bytes_of hs) }

-- the entries that a take of class c answers now
unfoldable pub offered : ℕ → Reach → ℕ → List Entry
offered n r c = entries_of (length r.calls) (names (take_of c)) (step n (heap_of n r) (take_of c)).answer

-- "blocks out, their bytes, pages held, idle pages, and the highest bytes out so far"
abbrev pub five : ℕ → Reach → List ℕ
five n r =
    let f = figures n (heap_of n r) in
    total is_out r.handed ∷ total bytes_of r.handed ∷ f.held ∷ f.idle ∷ r.highest ∷ []

abbrev pub does : ℕ → Reach → Say → Reach
does n r (take c) = come r (take_of c ∷ []) (r.handed ++ map handed (offered n r c))
does n r (back p) = come r (calls_at p r.handed) (back_at p r.handed)
does n r report = record { calls = r.calls; handed = r.handed; figures = r.figures ++ five n r; highest = r.highest }
does n r wrong = r

abbrev pub after : ℕ → Reach → ℕ → Reach
after n r w = does n r (say_of w)

-- ---- when it stops: "a lent list cannot hold what the word adds", or there is no such place, or the word is wrong
pub record Room : Type 0 where
  pub blocks : ℕ
  pub figures : ℕ

abbrev pub stops_as : ℕ → Room → Reach → Say → Bool
stops_as n m r (take c) = ltb m.blocks (length r.handed + length (offered n r c))
stops_as n m r (back p) = not (out_at p r.handed)
stops_as n m r report = ltb m.figures (length r.figures + 5)
stops_as n m r wrong = true

abbrev pub stops : ℕ → Room → Reach → ℕ → Bool
stops n m r w = stops_as n m r (say_of w)

-- ---- a whole trace
abbrev pub reach_from : ℕ → Reach → List ℕ → Reach
reach_from n r [] = r
reach_from n r (w ∷ ws) = reach_from n (after n r w) ws

abbrev pub reach : ℕ → List ℕ → Reach
reach n ws = reach_from n at_opening ws

abbrev pub carried_from : ℕ → Room → Reach → List ℕ → ℕ
carried_from n m r [] = 0
carried_from n m r (w ∷ ws) = cond (stops n m r w) 0 (suc (carried_from n m (after n r w) ws))

abbrev pub carried : ℕ → Room → List ℕ → ℕ
carried n m ws = carried_from n m at_opening ws
