use Rattle.facts.proofs.Prelude.{◌≤◌, ◌-◌, ◌++◌, ◌≡◌, length, take}
use Rattle.tables.specs.Table.{sizes_from, table}
use Rattle.tables.proofs.rate.Rate.fill.Given as goal

-- What is written, and the sizes still to come, are the table.
abbrev pub invariant-loop-slot : goal.invariant-loop-slot
invariant-loop-slot l = record {
  size_le_top : l.size ≤ l.self.top;
  sizes_are : take l.slot-index l.slot-items ++ sizes_from l.self.a l.self.b l.self.top l.size (length l.slot-items - l.slot-index) ≡ table l.self.a l.self.b l.self.top (length l.slot-items);
}
