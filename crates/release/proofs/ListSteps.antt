-- The listed blocks' out bits cleared, the list's last first: the loop of `take_list`.
use Rattle.facts.proofs.Prelude.{ℕ, arith, true, List, [], ◌∷◌, ◌++◌, append_assoc, append-nil, map, ◌≡◌, refl, sym, ap, ◌∙◌, Bool, ltb, length, ltb-true, every, and_left, and_right}
use Rattle.classes.specs.declared.Shape.{Shape}
use Rattle.fields.specs.Field.{out, put, Has}
use Rattle.fields.proofs.Laws.{length-put}
use Rattle.pages.specs.Stack.{set_outs, index_of, is_block}
use Rattle.pages.specs.way.Pre.{IndexPre}
use Rattle.release.specs.way.Pre.{TakePre}

every_within : (t : ℕ → Bool) (vs : List ℕ) (w : ℕ) (ds : List ℕ) → every t (vs ++ w ∷ ds) ≡ true → t w ≡ true
every_within t [] w ds e = and_left (t w) _ e
every_within t (v ∷ vs) w ds e = every_within t vs w ds (and_right (t v) _ e)

module _ (b₀ : List ℕ) (sh : Shape) (q : ℕ) (ws : List ℕ) where
  -- those behind the words that are left are out no longer
  pub record Taking (b left : List ℕ) : Type 0 where
    pub behind : List ℕ
    pub parts : left ++ behind ≡ ws
    pub long : length b ≡ length b₀
    pub done : b ≡ set_outs b₀ q 0 (map (index_of sh q) behind)

  pub taking-none : (left : List ℕ) → left ≡ ws → Taking b₀ left
  taking-none left e = record { behind = []; parts = append-nil left ∙ e; long = refl; done = refl }

  module _ (b left vs : List ℕ) (w : ℕ) (h : left ≡ vs ++ w ∷ []) (v : Taking b left) where
    here : vs ++ w ∷ v.behind ≡ ws
    here = sym (append_assoc vs (w ∷ []) v.behind) ∙ ap (λ x. x ++ v.behind) (sym h) ∙ v.parts

    pub taking-pre : TakePre b₀ sh q ws → IndexPre sh q w
    taking-pre a = record { sound = a.run.sound; below = a.run.below; bit = every_within (λ w. ltb (index_of sh q w) 4096) vs w v.behind (rw here a.bits) }

    pub taking-block : TakePre b₀ sh q ws → is_block sh q w ≡ true
    taking-block a = every_within (is_block sh q) vs w v.behind (rw here a.blocks)

    pub taking-bit : (k : ℕ) → TakePre b₀ sh q ws → k ≡ index_of sh q w → Has b (out q k)
    taking-bit k a e = omega (arith, v.long, a.run.there, ltb-true (index_of sh q w) 4096 (taking-pre a).bit)

    pub taking-more : (b' : List ℕ) (k : ℕ) → k ≡ index_of sh q w → b' ≡ put b (out q k) 0 → Taking b' vs
    taking-more b' k e l = record {
      behind = w ∷ v.behind;
      parts = here;
      long = ap length l ∙ length-put b (out q k) 0 ∙ v.long;
      done = l ∙ ap (λ z. put z (out q k) 0) v.done ∙ ap (λ z. put (set_outs b₀ q 0 (map (index_of sh q) v.behind)) (out q z) 0) e;
    }

  pub taking-done : (b left : List ℕ) → length left ≡ 0 → Taking b left → b ≡ set_outs b₀ q 0 (map (index_of sh q) ws)
  taking-done b [] h v = v.done ∙ ap (λ z. set_outs b₀ q 0 (map (index_of sh q) z)) v.parts
  taking-done b (w ∷ left) h v = absurd (omega arith)
