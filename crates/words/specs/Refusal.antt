-- The refusals by their numbers (document 01, "Numbers for a refused call"; document 02).
--     number_of     a refusal's number
--     code_of       what a call returns: 0, or its refusal's number
use Rattle.std.specs.Prelude.{ℕ, Result, Ok, Err}
use Rattle.words.specs.declared.refusal.Refusal.{Refusal}
use Rattle.words.specs.declared.refusal.Refusal.TheVariants.{ArenaLength, BookTooShort, HostWord, Class, ListTooShort, RunLength, EmptyList, Chunks, WrongKind, NotOut, OtherPage, NotHeld, BookWord, Plan, Repeated, Stopped, NoRow, TwoRows, Rows, Listing, Game, Growth, Top, Slots}

abbrev pub number_of : Refusal → ℕ
number_of ArenaLength = 1
number_of BookTooShort = 2
number_of HostWord = 3
number_of Class = 4
number_of ListTooShort = 5
number_of RunLength = 6
number_of EmptyList = 7
number_of Chunks = 8
number_of WrongKind = 9
number_of NotOut = 10
number_of OtherPage = 11
number_of NotHeld = 12
number_of BookWord = 13
number_of Plan = 14
number_of Repeated = 15
number_of Stopped = 16
number_of NoRow = 17
number_of TwoRows = 18
number_of Rows = 19
number_of Listing = 20
number_of Game = 21
number_of Growth = 22
number_of Top = 23
number_of Slots = 24

abbrev pub code_of : {T : Type 0} → Result T Refusal → ℕ
code_of (Ok x) = 0
code_of (Err e) = number_of e
