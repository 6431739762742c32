-- What the code of one word ensures: the lent slices and the tally stand for a `Going`, and it goes on as `does` says or stops as `stops` says.
use Rattle.std.specs.Prelude.{ℕ, ◌≤◌, true, false, List, ◌≡◌, length, drop, Option, Some, None}
use Rattle.std.proofs.Math.ListN as ListN
use Rattle.trace.specs.declared.tally.Tally.{Tally}
use Rattle.trace.specs.declared.say.Say as Code
use Rattle.trace.specs.declared.say.Say.TheVariants.{Take, Back, Report}
use Rattle.trace.specs.Trace as Trace
use Rattle.trace.specs.Trace.{Say, report}
use Rattle.trace.specs.Words.{Going, room_of, does, stops_as}
use Rattle.trace.specs.way.Pre.{BookPre}

-- what the code's own value says
abbrev pub said : Option Code.Say → Say
said (Some (Take c)) = Trace.take c
said (Some (Back p)) = Trace.back p
said (Some Report) = report
said None = Trace.wrong

-- the book and both lists as they are at a moment
pub record Lent : Type 0 where
  pub book : List ℕ
  pub blocks : List ℕ
  pub figures : List ℕ

abbrev pub lent : List ℕ → List ℕ → List ℕ → Lent
lent b bl fl = record { book = b; blocks = bl; figures = fl }

abbrev pub going_of : Lent → Tally → Going
going_of x t = record { book = x.book; listed = ListN.take t.at x.blocks; figures = ListN.take t.written x.figures; out = t.out; bytes = t.bytes; highest = t.highest }

-- what a word on the blocks asks: what is handed out stands in the list, and no more blocks are out than that
pub record BlocksPre (n : ℕ) (b bl : List ℕ) (t : Tally) : Type 0 where
  pub book : BookPre n b
  pub blocks : t.at ≤ length bl
  pub out : t.out ≤ t.at

pub record TallyPre (n : ℕ) (x : Lent) (t : Tally) : Type 0 where
  pub there : BlocksPre n x.book x.blocks t
  pub figures : t.written ≤ length x.figures

pub record Stopped (n : ℕ) (s : Say) (x : Lent) (t : Tally) (y : Lent) : Type 0 where
  pub reason : stops_as n (room_of x.blocks x.figures) (going_of x t) s ≡ true
  pub same : y ≡ x

pub record Went (n : ℕ) (s : Say) (x : Lent) (t : Tally) (y : Lent) (t' : Tally) : Type 0 where
  pub free : stops_as n (room_of x.blocks x.figures) (going_of x t) s ≡ false
  pub goes : going_of y t' ≡ does n (going_of x t) s
  -- past what it wrote the lists keep their content
  pub blocks : drop t'.at y.blocks ≡ drop t'.at x.blocks
  pub figures : drop t'.written y.figures ≡ drop t'.written x.figures
  -- and the tally goes on within them
  pub further : (t.at ≤ t'.at) × (t.written ≤ t'.written)
  pub handed : t.at ≤ length x.blocks → t'.at ≤ length y.blocks
  pub fewer : t.out ≤ t.at → t'.out ≤ t'.at
  pub written : t.written ≤ length x.figures → t'.written ≤ length y.figures

-- the tally afterwards, or none where the word stops the trace
abbrev pub Carried : Option Tally → ℕ → Say → Lent → Tally → Lent → Type 0
Carried None n s x t y = Stopped n s x t y
Carried (Some t') n s x t y = Went n s x t y t'

-- a take or a release leaves the figures, whatever they are
abbrev pub CarriedBlocks : Option Tally → ℕ → Say → List ℕ → List ℕ → Tally → List ℕ → List ℕ → Type 0
CarriedBlocks r n s b bl t b' bl' = (fl : List ℕ) → Carried r n s (lent b bl fl) t (lent b' bl' fl)

-- a report leaves the book and the blocks
abbrev pub CarriedReport : Option Tally → ℕ → List ℕ → List ℕ → Tally → List ℕ → Type 0
CarriedReport r n b fl t fl' = (bl : List ℕ) → Carried r n report (lent b bl fl) t (lent b bl fl')
