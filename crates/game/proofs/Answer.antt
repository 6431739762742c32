-- What the game answers, by its test.
use Rattle.facts.proofs.Prelude.{ℕ, arith, Bool, true, false, ◌≡◌, refl, ne_eqb}
use mir.Val.{bool_byte}
use Rattle.words.specs.Refusal.{number_of}
use Rattle.words.specs.declared.refusal.Refusal.{Refusal}
use Rattle.words.proofs.Refusals.{positive}
use Rattle.game.specs.Game.{empty, wins, bad_game, Played, played, asker_wins, GameEnds}

module _ (n limit k : ℕ) where
  pub refused : bad_game n limit k ≡ true → played 21 false ≡ asker_wins n limit k
  unfolding asker_wins
  refused e = rw e refl

  pub answered : bad_game n limit k ≡ false → (won : Bool) → won ≡ wins n limit k empty → played 0 won ≡ asker_wins n limit k
  unfolding asker_wins
  answered e won f = rw (e, f) refl

-- what the exported call returns and writes, of what the game answered
module _ (o : Played) (old : ℕ) where
  pub ends_won : (won : Bool) (w : ℕ) → w ≡ bool_byte won → played 0 won ≡ o → GameEnds o 0 old w
  ends_won true w is e = rw (← e, is) (record { code = refl; wins = refl })
  ends_won false w is e = rw (← e, is) (record { code = refl; wins = refl })

  pub ends_refused : (e : Refusal) → played (number_of e) false ≡ o → GameEnds o (number_of e) old old
  ends_refused e h =
      let one : number_of e ≡ 0 → ⊥ = λ z. let p = positive e in omega (arith, z, p) in
      rw (← h) (record { code = refl; wins = rw (ne_eqb (number_of e) 0 one) refl })
