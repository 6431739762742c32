-- The demands hold of the model: every statement of specs/Demands, for every arena and every history.
use Rattle.facts.proofs.Prelude.{ℕ, ◌≤◌, false, List, ◌⊎◌, ◌≡◌, eqb}
use Rattle.words.specs.Limits.{max_pages}
use Rattle.classes.specs.Shape.{shape_of}
use Rattle.rules.specs.Rules.{Rules}
use Rattle.model.specs.Calls.{Call, Request}
use Rattle.model.specs.Chunks.{answer}
use Rattle.model.specs.Heap.{Heap, figures}
use Rattle.model.specs.History.{events, heap_after}
use Rattle.model.specs.Demands.{BestFit, Joining, Yielding, Offered, Sources, Virgins, Outs, Conserved, Figured, Demand3, IsoDisjoint, Commute, StaysHome, Orderless}
use Rattle.model.proofs.HistoryArena as Arenas
use Rattle.model.proofs.SameHeaps as Orders
use Rattle.model.proofs.Yields as Yields
use Rattle.model.specs.Reservation.{Reserved}
use Rattle.model.proofs.Reservation as Reservation
use Rattle.classes.specs.declared.Shape.{Shape}
use Rattle.rules.specs.declared.Limits.{Limits}
use Rattle.model.specs.Class.{Class}
use Rattle.model.specs.Counted.{Counted}
use Rattle.model.proofs.Counted as Counts
use Rattle.model.specs.Groups.{GroupsGive}
use Rattle.model.proofs.Groups as Groups
use Rattle.model.proofs.Conserved as Pages
use Rattle.model.proofs.Figured as Figures
use Rattle.model.proofs.Alone as Alone
use Rattle.model.proofs.Apart as Apart
use Rattle.model.proofs.Outs as Blocks
use Rattle.model.proofs.TakesObserved as Takes
use Rattle.model.proofs.Sources as Order
use Rattle.model.proofs.Commute as Calls

-- Demand 2
pub best_fit : (size : ℕ) (rules : Rules) (xs : List Call) → BestFit size rules xs
best_fit = Arenas.best_fit

-- document 02, A.4: touching holes are one
pub joining : (size : ℕ) (rules : Rules) (xs : List Call) → Joining size rules xs
joining = Arenas.joining

-- the order of the holes shows in no answer
pub orderless : (size : ℕ) (rules : Rules) (xs ys : List Call) → Orderless size rules xs ys
orderless = Orders.orderless

pub yielding : (size : ℕ) (rules : Rules) (xs : List Call) → Yielding size rules xs
yielding = Yields.yielding

-- what is at hand is offered, and virgin, by the history
pub offered : (size : ℕ) (rules : Rules) (xs : List Call) → Offered size rules xs
offered = Takes.offered

-- in which order a take turns to its sources
pub sources : (size : ℕ) (rules : Rules) (xs : List Call) → Sources size rules xs
sources = Order.sources

pub virgins : (size : ℕ) (rules : Rules) (xs : List Call) → Virgins size rules xs
virgins = Takes.virgins

-- number 10 by the history
pub outs : (size : ℕ) (rules : Rules) (xs : List Call) → Outs size rules xs
outs = Blocks.outs

-- the reservation by the history, and `contains`
pub reserved : (size : ℕ) (rules : Rules) (xs : List Call) → Reserved size rules xs
reserved = Reservation.reserved

-- every page is in exactly one place
pub conserved : (size : ℕ) (rules : Rules) (xs : List Call) → Conserved size rules xs
conserved size rules xs = record {
  one = Pages.one_place size rules xs;
  classes = Pages.one-run size rules xs;
  direct = Pages.observed-direct size rules xs;
  hole_total = Arenas.hole-total size rules xs;
}

-- document 02, A.5: a report's figures
pub figured : (size : ℕ) (rules : Rules) (xs : List Call) → Figured size rules xs (figures size (heap_after size rules xs))
figured = Figures.figured

-- a report's three counts, by the history
pub counted : (size : ℕ) (rules : Rules) (xs : List Call) → Counted size rules xs (figures size (heap_after size rules xs))
counted = Counts.counted-by

-- what a group release gives, by its answer
pub groups-give : (sh : Shape) (lim : Limits) (s : Class) → GroupsGive sh lim s
groups-give = Groups.groups-give

-- Demand 3, both halves; a word has room for the granules of no longer arena
pub demand_3 : (size : ℕ) → size ≤ max_pages → Demand3 size
demand_3 size small = record { alone = Alone.alone size size; disjoint = Apart.disjoint size small }

-- the second half in ISO C's words
pub iso-disjoint : (size : ℕ) → size ≤ max_pages → (rules : Rules) (xs : List Call) → IsoDisjoint size (events size rules xs)
iso-disjoint = Apart.iso-disjoint

-- calls of two classes, one of which does not reach the arena, on any heap
pub commute : (size : ℕ) (H : Heap) (c d : ℕ) (x y : Request) → eqb c d ≡ false
    → StaysHome (answer (shape_of c) (H.rules c) (H.classes c) x) ⊎ StaysHome (answer (shape_of d) (H.rules d) (H.classes d) y) → Commute size H c d x y
commute = Calls.commute
