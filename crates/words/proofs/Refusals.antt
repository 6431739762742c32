-- Every refusal's number is above 0, which a call returns where it is done.
use Rattle.std.proofs.Common.{◌<◌, arith}
use Rattle.words.specs.Refusal.{number_of}
use Rattle.words.specs.declared.refusal.Refusal.{Refusal}
use Rattle.words.specs.declared.refusal.Refusal.TheVariants.{ArenaLength, BookTooShort, HostWord, Class, ListTooShort, RunLength, EmptyList, Chunks, WrongKind, NotOut, OtherPage, NotHeld, BookWord, Plan, Repeated, Stopped, NoRow, TwoRows, Rows, Listing, Game, Growth, Top, Slots}

pub positive : (e : Refusal) → 0 < number_of e
positive ArenaLength = omega arith
positive BookTooShort = omega arith
positive HostWord = omega arith
positive Class = omega arith
positive ListTooShort = omega arith
positive RunLength = omega arith
positive EmptyList = omega arith
positive Chunks = omega arith
positive WrongKind = omega arith
positive NotOut = omega arith
positive OtherPage = omega arith
positive NotHeld = omega arith
positive BookWord = omega arith
positive Plan = omega arith
positive Repeated = omega arith
positive Stopped = omega arith
positive NoRow = omega arith
positive TwoRows = omega arith
positive Rows = omega arith
positive Listing = omega arith
positive Game = omega arith
positive Growth = omega arith
positive Top = omega arith
positive Slots = omega arith
