-- Document 02, A.12, of the exported function (specs/Game).
use Rattle.facts.proofs.Prelude.{ℕ, arith, Bool, true, false, cond, ◌↔◌, ◌≡◌, refl, sym, ap, ◌∙◌, eq-eqb}
use Rattle.words.specs.Host.{digit}
use Rattle.game.specs.Game.{empty, wins, bad_game, played, asker_wins, wins_out, GameEnds}
use Rattle.game.specs.Forces.{Forces}
use Rattle.game.proofs.Theorems as Theorems
use Rattle.pages.proofs.Descending.{digit-le}
use Rattle.words.proofs.Answers.{eqb-digit}
use Rattle.demands.specs.Game.{AskerWins, Game}

-- what a call that was not refused wrote
wrote : (s t : Bool) (w : ℕ) → (cond s (played 21 false) (played 0 t)).code ≡ 0 → wins_out (cond s (played 21 false) (played 0 t)) w ≡ digit t
wrote true t w e = absurd (omega (arith, e))
wrote false t w e = refl

module _ (n limit k r w w' : ℕ) (e : GameEnds (asker_wins n limit k) r w w') (z : r ≡ 0) where
  written : w' ≡ digit (wins n limit k empty)
  unfolding asker_wins
  written = e.wins ∙ wrote (bad_game n limit k) (wins n limit k empty) w (sym e.code ∙ z)

  answer-is : AskerWins n limit k w'
  answer-is =
      let same : (wins n limit k empty ≡ true) ↔ Forces n limit k empty = Theorems.game-is n limit k in
      record {
        plain = rw written (digit-le (wins n limit k empty));
        game-is = (λ y. same.0 (sym (eqb-digit (wins n limit k empty)) ∙ eq-eqb _ 1 (sym written ∙ y)), λ f. written ∙ ap digit (same.1 f));
      }

no-moves : (n limit : ℕ) → wins n limit 0 empty ≡ false
unfolding wins
no-moves n limit = refl

pub game : Game
unfolding asker_wins
game = record {
  answers = answer-is;
  three-yes = λ r w w' e. (e.code, e.wins ∙ ap digit Theorems.three-yes);
  none-no = λ n limit r w w' e z. written n limit 0 r w w' e z ∙ ap digit (no-moves n limit);
}
