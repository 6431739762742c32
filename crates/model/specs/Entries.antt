-- Entries not yet released, and pages held by the direct calls, told from the calls and answers of a history alone
-- (document 01, "The histories of demand 3").
use Rattle.std.specs.Prelude.{ℕ, suc, ◌+◌, ◌-◌, ◌*◌, ◌≤◌, ◌<◌, List, [], ◌∷◌, Bool, true, false, cond, not, ◌&&◌, ◌≡◌, ◌⊎◌, eqb}
use Rattle.std.proofs.Math.Option.{Option, none, some}
use Rattle.facts.specs.Lists.{every, elem, distinct}
use Rattle.model.specs.Cover.{covers, covers_run}
use Rattle.words.specs.Word.{granule_of}
use Rattle.classes.specs.Sizes.{granule_bytes}
use Rattle.classes.specs.Shape.{shape_of}
use Rattle.model.specs.Calls as Calls
use Rattle.model.specs.Calls.{Call, Answer, Named, names, blocks_of, released_by, is_refused}
use Rattle.model.specs.History.{Event}

-- "An entry is a place below the count in the list that one take answers."
pub record Entry : Type 0 where
  pub call : ℕ  -- the take's number in the history, from 0
  pub place : ℕ  -- from 0
  pub class : ℕ
  pub word : ℕ

-- the entries of call k, of class c, from place i on
abbrev pub entries_from : ℕ → ℕ → ℕ → List ℕ → List Entry
entries_from k c i [] = []
entries_from k c i (w ∷ ws) = record { call = k; place = i; class = c; word = w } ∷ entries_from k c (suc i) ws

abbrev pub entries_of : ℕ → Option Named → Answer → List Entry
entries_of k none x = []
entries_of k (some d) x = entries_from k d.class 0 (blocks_of x)

-- "It is released by the first later unrefused release of its class, by list or by groups, that has its word."
abbrev pub has_word : ℕ → List ℕ → Entry → Bool
has_word c ws e = eqb e.class c && elem e.word ws

abbrev pub releases : Option Named → Answer → Entry → Bool
releases none x e = false
releases (some d) x e = has_word d.class (released_by d.request x) e

abbrev pub In : Entry → List Entry → Type 0
In e [] = ⊥
In e (x ∷ xs) = (e ≡ x) ⊎ In e xs

-- an entry of these events, the first of which is call k, not yet released: one of them answered it, and none after that releases it
abbrev pub Live : ℕ → List Event → Entry → Type 0
Live k [] e = ⊥
Live k (v ∷ vs) e =
    (In e (entries_of k (names v.call) v.answer) × (every (λ u. not (releases (names u.call) u.answer e)) vs ≡ true))
    ⊎ Live (suc k) vs e

-- a block is out in a class, as the history tells it: an entry of the class not yet released has its word
pub record OutIn (vs : List Event) (c w : ℕ) : Type 0 where
  pub entry : Entry
  pub live : Live 0 vs entry
  pub class : entry.class ≡ c
  pub word : entry.word ≡ w

-- what number 10 asks of a list: each of its blocks is out in this class, and none stands twice
pub record AllOut (vs : List Event) (c : ℕ) (ws : List ℕ) : Type 0 where
  pub out : (w : ℕ) → elem w ws ≡ true → OutIn vs c w
  pub once : distinct ws ≡ true

-- "Its bytes are as many as its class's block size, from its word's granule × 16 on."
abbrev pub first_byte : Entry → ℕ
first_byte e = granule_of e.word * granule_bytes

abbrev pub block_bytes : Entry → ℕ
block_bytes e = (shape_of e.class).block * granule_bytes

pub record HasByte (e : Entry) (b : ℕ) : Type 0 where
  pub from : first_byte e ≤ b
  pub to : b < first_byte e + block_bytes e

-- "A page is held by hand from the direct commit that answered it, or the growth that added it and answered yes, until an unrefused
-- `release` of a run with it."
abbrev pub run_of : Answer → Option ℕ
run_of (Calls.refused n) = none
run_of (Calls.taken n l v) = none
run_of (Calls.fate n) = none
run_of (Calls.fates l) = none
run_of (Calls.run q f) = some q
run_of Calls.no_run = none
run_of Calls.released = none
run_of (Calls.grown b) = none
run_of (Calls.contained b) = none
run_of (Calls.reported f) = none

abbrev pub is_grown : Answer → Bool
is_grown (Calls.refused n) = false
is_grown (Calls.taken n l v) = false
is_grown (Calls.fate n) = false
is_grown (Calls.fates l) = false
is_grown (Calls.run q f) = false
is_grown Calls.no_run = false
is_grown Calls.released = false
is_grown (Calls.grown b) = b
is_grown (Calls.contained b) = false
is_grown (Calls.reported f) = false

-- how often a call adds page x to those held, and takes it away
abbrev pub adds : Call → Answer → ℕ → ℕ
adds (Calls.take_blocks c h l) a x = 0
adds (Calls.medium_take_blocks c h l) a x = 0
adds (Calls.release_blocks c h ws) a x = 0
adds (Calls.medium_release_blocks c h ws) a x = 0
adds (Calls.pooled_take c h l) a x = 0
adds (Calls.pooled_release c h ws) a x = 0
adds (Calls.release_bin_chunks c h ws gs fs) a x = 0
adds (Calls.commit h n) a x = covers_run n (run_of a) x
adds (Calls.grow_frontier h q old new) a x = cond (is_grown a) (covers (new - old) (q + old) x) 0
adds (Calls.release h q n) a x = 0
adds (Calls.contains o b) a x = 0
adds Calls.report a x = 0

abbrev pub drops : Call → Answer → ℕ → ℕ
drops (Calls.take_blocks c h l) a x = 0
drops (Calls.medium_take_blocks c h l) a x = 0
drops (Calls.release_blocks c h ws) a x = 0
drops (Calls.medium_release_blocks c h ws) a x = 0
drops (Calls.pooled_take c h l) a x = 0
drops (Calls.pooled_release c h ws) a x = 0
drops (Calls.release_bin_chunks c h ws gs fs) a x = 0
drops (Calls.commit h n) a x = 0
drops (Calls.grow_frontier h q old new) a x = 0
drops (Calls.release h q n) a x = cond (is_refused a) 0 (covers n q x)
drops (Calls.contains o b) a x = 0
drops Calls.report a x = 0

abbrev pub direct_next : Call → Answer → (ℕ → Bool) → ℕ → Bool
direct_next c a f x = cond (eqb (drops c a x) 0) (cond (eqb (adds c a x) 0) (f x) true) false

abbrev pub direct_from : (ℕ → Bool) → List Event → ℕ → Bool
direct_from f [] = f
direct_from f (v ∷ vs) = direct_from (direct_next v.call v.answer f) vs

-- is page x held by the direct calls after these events
abbrev pub direct_after : List Event → ℕ → Bool
direct_after vs = direct_from (λ x. false) vs
