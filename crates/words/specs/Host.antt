-- The host word: the system's answers for one call (document 01, "What the editor lends").
use Rattle.std.specs.Prelude.{ℕ, ◌+◌, ◌*◌, ◌/◌, ◌%◌, ◌^◌, Bool, true, false, ◌&&◌, ◌==◌, nat_lt}

-- a host word has four bits; the highest has all four set
abbrev pub host_bits : ℕ
host_bits = 4

abbrev pub host_max : ℕ
host_max = 15

-- number 3: "The host word exceeds 15."
abbrev pub bad_host : ℕ → Bool
bad_host h = nat_lt host_max h

-- is bit k of a number set
abbrev pub bit : ℕ → ℕ → Bool
bit k h = h / 2 ^ k % 2 == 1

abbrev pub reservation_granted : ℕ → Bool
reservation_granted h = bit 0 h

abbrev pub commit_granted : ℕ → Bool
commit_granted h = bit 1 h

abbrev pub discard_done : ℕ → Bool
discard_done h = bit 2 h

-- a done discard zeroes; of one that is not done this bit says nothing
abbrev pub discard_zeroes : ℕ → Bool
discard_zeroes h = bit 3 h

-- a discard is done, and a done discard zeroes: only both together leave zeroed pages
abbrev pub discard_zeroed : ℕ → Bool
discard_zeroed h = discard_done h && discard_zeroes h

-- the host word of four answers
abbrev pub digit : Bool → ℕ
digit true = 1
digit false = 0

abbrev pub host_word : Bool → Bool → Bool → Bool → ℕ
host_word reservation commit done zeroes = digit zeroes * 2 ^ 3 + (digit done * 2 ^ 2 + (digit commit * 2 ^ 1 + digit reservation))
