-- The code's names of the fields (enums), and what the definitions call them. At a name that is written out, as at every call, each computes.
--     arena_name, class_name, hole_name, page_name     for the fields of a row
--     low_of, high_of                                  the two words of a count
use Rattle.fields.specs.Field.{ArenaField, ClassField, HoleField, PageField, size, state, frontier, holes, hole_pages, commits, commits_high, reuses, reuses_high, abandoned, abandoned_high, held, format, partial, empty, empty_count, cold, cold_count, empty_limit, cold_limit, start, pages, owner, first, next, prev, free, carved, listed, virgin, tally}
use Rattle.fields.specs.declared.arena.ArenaField.{ArenaField as ArenaName}
use Rattle.fields.specs.declared.arena.ArenaField.TheVariants.{Size, State, Frontier, Holes, HolePages, Commits, CommitsHigh, Reuses, ReusesHigh, Abandoned, AbandonedHigh, Held, Format}
use Rattle.fields.specs.declared.class.ClassField.{ClassField as ClassName}
use Rattle.fields.specs.declared.class.ClassField.TheVariants.{Partial, Empty, EmptyCount, Cold, ColdCount, EmptyLimit, ColdLimit}
use Rattle.fields.specs.declared.hole.HoleField.{HoleField as HoleName}
use Rattle.fields.specs.declared.hole.HoleField.TheVariants.{Start, Pages}
use Rattle.fields.specs.declared.page.PageField.{PageField as PageName}
use Rattle.fields.specs.declared.page.PageField.TheVariants.{Owner, First, Next, Prev, Free, Carved, Listed, Virgin, Tally}
use Rattle.fields.specs.declared.arena.Counter.{Counter}
use Rattle.fields.specs.declared.arena.Counter.TheVariants.{Commits as CommitsCount, Reuses as ReusesCount, Abandoned as AbandonedCount}

abbrev pub arena_name : ArenaName → ArenaField
arena_name Size = size
arena_name State = state
arena_name Frontier = frontier
arena_name Holes = holes
arena_name HolePages = hole_pages
arena_name Commits = commits
arena_name CommitsHigh = commits_high
arena_name Reuses = reuses
arena_name ReusesHigh = reuses_high
arena_name Abandoned = abandoned
arena_name AbandonedHigh = abandoned_high
arena_name Held = held
arena_name Format = format

abbrev pub class_name : ClassName → ClassField
class_name Partial = partial
class_name Empty = empty
class_name EmptyCount = empty_count
class_name Cold = cold
class_name ColdCount = cold_count
class_name EmptyLimit = empty_limit
class_name ColdLimit = cold_limit

abbrev pub hole_name : HoleName → HoleField
hole_name Start = start
hole_name Pages = pages

abbrev pub page_name : PageName → PageField
page_name Owner = owner
page_name First = first
page_name Next = next
page_name Prev = prev
page_name Free = free
page_name Carved = carved
page_name Listed = listed
page_name Virgin = virgin
page_name Tally = tally

abbrev pub low_of : Counter → ArenaField
low_of CommitsCount = commits
low_of ReusesCount = reuses
low_of AbandonedCount = abandoned

abbrev pub high_of : Counter → ArenaField
high_of CommitsCount = commits_high
high_of ReusesCount = reuses_high
high_of AbandonedCount = abandoned_high
