-- That the code answered as a take does.
--     Takes, TakesInto    it is done; through out-parameters
--     Plans               what it will do is planned, and nothing is written
--     Readies             its source is at hand: the fill is left
--     within, take_list    it is refused where its blocks have no room
use Rattle.std.specs.Prelude.{ℕ, min, Bool, true, false, cond, ◌&&◌, List, ◌≡◌, eqb, ltb, length, Option, None, Some, Result, Ok, Err}
use Rattle.std.proofs.Math.Option.{some}
use Rattle.words.specs.Host.{host_max, digit}
use Rattle.words.specs.declared.refusal.Refusal.{Refusal}
use Rattle.words.specs.Refusal.{number_of}
use Rattle.classes.specs.declared.Shape.{Shape}
use Rattle.take.specs.declared.call.Taken.{Taken}
use Rattle.arena.specs.Calls.{commit_for}
use Rattle.runs.specs.way.Found.{has_run}
use Rattle.calls.specs.Take.{Took, took_none, filled, on_run, take_new, take_blocks, take_call}
use Rattle.take.specs.Answer as Answer
use Rattle.take.specs.Answer.{Take, answer_of}
use Rattle.take.specs.way.TakePlan.{TakePre, walks_from, fills, readied, FirstPre, TakeNewPre}

-- it answered r, and left the book b and the list l
pub record Takes (r : Take) (b l : List ℕ) (t : Took) : Type 0 where
  pub answer : r ≡ answer_of t.code t.count t.virgin
  pub book : b ≡ t.book
  pub list : l ≡ t.list

-- the same through out-parameters: m and v are what they hold before the call, m' and v' after it
pub record TakesInto (r : ℕ) (b l : List ℕ) (m m' v v' : ℕ) (t : Took) : Type 0 where
  pub code : r ≡ t.code
  pub book : b ≡ t.book
  pub list : l ≡ t.list
  pub count : m' ≡ cond (eqb t.code 0) t.count m
  pub virgin : v' ≡ cond (eqb t.code 0) (digit t.virgin) v

-- the take t is a fill from the partial list of b, of which k is foretold
pub record Serves (k : Taken) (b : List ℕ) (c : ℕ) (sh : Shape) (t : List ℕ → Took) : Type 0 where
  pub pages : ℕ
  pub pre : TakePre pages b c sh
  pub walks : walks_from pages b c sh ≡ true
  pub count : k.count ≡ length (fills b c sh).blocks
  pub virgin : k.virgin ≡ (fills b c sh).virgin
  pub is : (l : List ℕ) → t l ≡ filled b c sh l

-- what a source has: blocks, or none; or the call is refused
abbrev pub Source : Type 0
Source = Result (Option Taken) Refusal

-- the source answered r and left the book b: whatever list is lent, a refusal and no page are all of the take t, and else the fill is what is left
unfoldable pub Readies : Source → List ℕ → ℕ → Shape → (List ℕ → Took) → Type 0
Readies (Err e) b c sh t = (l : List ℕ) → Takes (Answer.Refused (number_of e)) b l (t l)
Readies (Ok None) b c sh t = (l : List ℕ) → Takes (Answer.Took 0 false) b l (t l)
Readies (Ok (Some k)) b c sh t = Serves k b c sh t

-- what a take on the book b will do, whatever the host answers and whatever list is lent
unfoldable pub Plans : Source → ℕ → List ℕ → ℕ → Shape → Type 0
Plans (Err e) n b c sh = (number_of e ≡ 13) × ((h : ℕ) (l : List ℕ) → take_blocks n b c sh h l ≡ took_none b l 13)
Plans (Ok None) n b c sh = TakeNewPre n b c sh × ((h : ℕ) (l : List ℕ) → take_blocks n b c sh h l ≡ take_new n b c sh h l)
Plans (Ok (Some k)) n b c sh = FirstPre b c × ((h : ℕ) → Serves k (readied b c) c sh (take_blocks n b c sh h))

-- the take t on the book b, refused where its blocks are more than k
unfoldable pub within : ℕ → List ℕ → (List ℕ → Took) → List ℕ → Took
within k b t l = cond (ltb k (t l).count) (took_none b l 5) (t l)

-- a class's take from number 5 on: of a list that need not be whole, room for the blocks is asked
abbrev pub take_list : Bool → ℕ → List ℕ → ℕ → Shape → ℕ → List ℕ → Took
take_list w n b c sh h l = cond w (take_call n b c sh h l) (within (length l) b (take_blocks n b c sh h) l)

-- all being granted a new run is answered, whoever asks, and its blocks are more than k
abbrev pub Exceeds : Bool → ℕ → ℕ → List ℕ → Shape → Type 0
Exceeds r k n b sh = (w : ℕ) → r ≡ (ltb k (min sh.batch sh.capacity) && has_run (commit_for n b host_max sh.pages w))

abbrev pub on_run_at : List ℕ → ℕ → Shape → ℕ → List ℕ → Took
on_run_at b c sh q l = on_run b c sh l (some q)
