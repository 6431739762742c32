use Rattle.release.proofs.ParkSteps.{fate-empty, span-kept, page-cold, fate-arena}
use Rattle.std.proofs.Common.{rules}
use Rattle.release.proofs.park.fate_of.Goals as goal

pub enum_told-1 : goal.enum_told-1
enum_told-1 c = search (rules, fate-empty, span-kept, page-cold, fate-arena)

pub enum_told-in-ToCold : goal.enum_told-in-ToCold
enum_told-in-ToCold c = search (rules, fate-empty, span-kept, page-cold, fate-arena)

pub enum_told-in-ToArena : goal.enum_told-in-ToArena
enum_told-in-ToArena c = search (rules, fate-empty, span-kept, page-cold, fate-arena)

pub returns-in-ToEmpty : goal.returns-in-ToEmpty
returns-in-ToEmpty c = search (rules, fate-empty, span-kept, page-cold, fate-arena)

pub returns-then-shape-eq-MEDIUM : goal.returns-then-shape-eq-MEDIUM
returns-then-shape-eq-MEDIUM c = search (rules, fate-empty, span-kept, page-cold, fate-arena)

pub returns-else-shape-eq-MEDIUM : goal.returns-else-shape-eq-MEDIUM
returns-else-shape-eq-MEDIUM c = search (rules, fate-empty, span-kept, page-cold, fate-arena)

pub returns-in-ToArena : goal.returns-in-ToArena
returns-in-ToArena c = search (rules, fate-empty, span-kept, page-cold, fate-arena)
