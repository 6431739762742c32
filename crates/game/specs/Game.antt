-- The game of document 02, A.12, computed: an asker against any placing, with n pages and at most `limit` live ones.
--     State        which pages are live and where runs start
--     may_stand     a run may be placed there
--     wins         the asker wins within so many moves; specs/Forces says what that means
--     asker_wins    a call: its number, and whether the asker wins
use Rattle.std.specs.Prelude.{ℕ, zero, suc, ◌+◌, ◌-◌, Bool, false, cond, not, ◌&&◌, ◌||◌, List, ◌≡◌, leb, ltb, eqb, get_or, set, replicate}
use Rattle.facts.specs.Lists.{every, any, total, below}
use Rattle.words.specs.Host.{digit}

-- the most pages, and the most moves
abbrev pub game_pages : ℕ
game_pages = 6

abbrev pub game_moves : ℕ
game_moves = 8

-- for each page the length of the run that starts there, or 0
abbrev pub State : Type 0
State = List ℕ

abbrev pub empty : State
empty = replicate game_pages 0

-- the run of p pages from page q on; the run that starts at q given back
abbrev pub place : ℕ → ℕ → State → State
place p q s = set s q p

abbrev pub release : ℕ → State → State
release q s = set s q 0

abbrev pub length_at : State → ℕ → ℕ
length_at s q = get_or s q 0

-- live pages, of the runs that start below a page; of all
unfoldable pub live_below : State → ℕ → ℕ
live_below s q = total (length_at s) (below q)

abbrev pub live : State → ℕ
live s = live_below s game_pages

-- some number below m passes a test; each does
abbrev pub some_below : (ℕ → Bool) → ℕ → Bool
some_below f m = any f (below m)

abbrev pub every_below : (ℕ → Bool) → ℕ → Bool
every_below f m = every f (below m)

-- is page x in no run: no run that starts at or before it reaches it
abbrev pub reaches : State → ℕ → ℕ → Bool
reaches s x r = ltb x (r + length_at s r)

unfoldable pub is_free : State → ℕ → Bool
is_free s x = not (some_below (reaches s x) (suc x))

-- may p pages stand from page q on
unfoldable pub may_stand : ℕ → State → ℕ → ℕ → Bool
may_stand n s p q = leb (q + p) n && every_below (λ i. is_free s (q + i)) p

-- "The asker's turn looks at each placing": p pages from q on cannot stand, or the asker wins from there; w says of a state whether the
-- asker wins from it
abbrev pub placing : ℕ → ℕ → (State → Bool) → State → ℕ → Bool
placing n p w s q = not (may_stand n s p q) || w (place p q s)

unfoldable pub every_placing : ℕ → ℕ → (State → Bool) → State → Bool
every_placing n p w s = every_below (placing n p w s) n

-- "asks for a run of one page or more that keeps the live pages within L"
abbrev pub asking : ℕ → (State → Bool) → State → ℕ → Bool
asking n w s more = every_placing n (suc more) w s

unfoldable pub some_ask : ℕ → ℕ → (State → Bool) → State → Bool
some_ask n limit w s = some_below (asking n w s) (limit - live s)

-- "or releases one run"
abbrev pub releasing : (State → Bool) → State → ℕ → Bool
releasing w s q = not (eqb (length_at s q) 0) && w (release q s)

unfoldable pub some_release : ℕ → (State → Bool) → State → Bool
some_release n w s = some_below (releasing w s) n

-- does the asker win within so many moves
unfoldable pub wins : ℕ → ℕ → ℕ → State → Bool
wins n limit zero s = false
wins n limit (suc k) s = some_ask n limit (wins n limit k) s || some_release n (wins n limit k) s

-- "21 when n, L or k is outside these": n of 1 to 6, L of 1 to n, k of 0 to 8
abbrev pub bad_game : ℕ → ℕ → ℕ → Bool
bad_game n limit k = eqb n 0 || (ltb game_pages n || (eqb limit 0 || (ltb n limit || ltb game_moves k)))

-- ---- a call
pub record Played : Type 0 where
  pub code : ℕ
  pub won : Bool

abbrev pub played : ℕ → Bool → Played
played k w = record { code = k; won = w }

unfoldable pub asker_wins : ℕ → ℕ → ℕ → Played
asker_wins n limit k = cond (bad_game n limit k) (played 21 false) (played 0 (wins n limit k empty))

-- 1 for yes, 0 for no; a refused call leaves the out-parameter
abbrev pub wins_out : Played → ℕ → ℕ
wins_out o old = cond (eqb o.code 0) (digit o.won) old

-- w is the out-parameter before the call, w' after it
pub record GameEnds (o : Played) (r w w' : ℕ) : Type 0 where
  pub code : r ≡ o.code
  pub wins : w' ≡ wins_out o w
