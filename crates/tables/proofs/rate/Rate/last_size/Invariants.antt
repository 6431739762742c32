use Rattle.facts.proofs.Prelude.{◌≤◌, ◌+◌, ◌-◌, ◌≡◌, get_or}
use Rattle.tables.specs.Table.{sizes_from, last_size}
use Rattle.tables.proofs.rate.Rate.last_size.Given as goal

-- The last of the sizes still to come stays the table's last.
abbrev pub invariant-loop : goal.invariant-loop
invariant-loop l = record {
  size_le_top : l.size ≤ l.self.top;
  last_is : get_or (sizes_from l.self.a l.self.b l.self.top l.size (l.slots + 1 - l.counter)) (l.slots - l.counter) 0 ≡ last_size l.self.a l.self.b l.self.top l.slots;
}
