-- Any call of a class keeps to the class's words, and to the arena's where it reaches it; so two calls on different classes, one of which stays at
-- home, leave the same book in either order. n is at most the longest arena.
--     reply-local     a class's call on two books put together, from one state of the class
--     books           the two orders
use Rattle.facts.proofs.Prelude.{ℕ, suc, ◌≤◌, ◌<◌, arith, Bool, true, false, List, [], ◌⊎◌, inl, inr, ◌≡◌, refl, sym, ◌∙◌, subst, eqb, ltb, length, eqb-false, by_cases}
use Rattle.words.specs.Limits.{class_rows}
use Rattle.classes.specs.Shape.{shape_of}
use Rattle.classes.proofs.Shapes.{shape-sound}
use Rattle.fields.specs.Ranges.{max_pages}
use Rattle.model.specs.Calls.{Request, take, give_back, give_chunks}
use Rattle.model.specs.Page.{Page}
use Rattle.model.specs.Class.{Ask, lists, take_from}
use Rattle.model.specs.Release.{release_list}
use Rattle.model.specs.Chunks as Chunks
use Rattle.model.specs.Chunks.{answer}
use Rattle.model.specs.Heap.{Heap, nobody, offer, finish, interact, class_call}
use Rattle.model.specs.Demands.{StaysHome, stays}
use Rattle.model.specs.Yields.{Listed}
use Rattle.model.proofs.Update.{other_way, update_other}
use Rattle.arena.specs.Owners.{owner_code}
use Rattle.pages.specs.Runs.{whole}
use Rattle.calls.specs.Take.{take_new}
use Rattle.refinement.specs.way.Represents.{StateRep, Represents}
use Rattle.refinement.specs.Run.{class_reply}
use Rattle.refinement.proofs.ArenaReached.{Reached}
use Rattle.refinement.proofs.ArenaValid.{loads-frontier, head-passes}
use Rattle.refinement.proofs.Book.{setting_of, state_as}
use Rattle.pages.proofs.Runs.{whole-owner, whole_below}
use Rattle.refinement.proofs.ArenaHolders.{small-class}
use Rattle.refinement.proofs.Override.{override, override-same, PageIn, swapped}
use Rattle.refinement.proofs.LocalFill.{Home}
use Rattle.refinement.proofs.LocalTake.{take_local}
use Rattle.refinement.proofs.LocalNew.{new_local}
use Rattle.refinement.proofs.LocalGives.{Roams}
use Rattle.refinement.proofs.LocalList.{list_local}
use Rattle.refinement.proofs.LocalChunks.{group_local}
use Rattle.refinement.proofs.Lengths.{Ours, reply-long}
use Rattle.refinement.specs.way.Footprint.{footprint, off}
use Rattle.refinement.proofs.Footprint.{footprint-home, off-home, off-arena, off-page}

pub ours-row : (c : ℕ) (x : Request) → Ours c x → ltb c class_rows ≡ true
ours-row c (take h l) e = e
ours-row c (give_back h ws) e = e
ours-row c (give_chunks h ws gs fs) e = small-class c e

-- a call that may reach the arena
pub record Abroad (S : ℕ → Bool) (H H' : Heap) (c : ℕ) : Type 0 where
  pub roams : Roams S H c
  pub idle : (x : ℕ) → (x < H.arena.frontier → H.holder x ≡ nobody) → PageIn S x
  pub arena : H'.arena ≡ H.arena

module _ {S : ℕ → Bool} (n : ℕ) (hn : n ≤ max_pages) (b : List ℕ) (H : Heap) (R : Represents n b H) (ok : Reached n H) (d : List ℕ) (H' : Heap) (R' : Represents n (override S b d) H') (ok' : Reached n H')
    (c : ℕ) (listed : Listed (shape_of c) (H.classes c)) (et : H'.classes c ≡ H.classes c) (hm : Home S n b c (shape_of c)) where
  pub reply_local : (x : Request) → Ours c x → StaysHome (answer (shape_of c) (H.rules c) (H.classes c) x) ⊎ Abroad S H H' c
      → (class_reply n (override S b d) c x).book ≡ override S (class_reply n b c x).book d
  unfolding answer
  reply_local (take h l) hc a =
      take_local d (setting_of n b H R c hc) (setting_of n (override S b d) H' R' c hc) hm (head-passes n b H R.arena ok) (head-passes n (override S b d) H' R'.arena ok') h l (H.classes c)
      (λ u. go u a) listed.partial (R.classes c hc) (state_as R' hc et)
    where
      go : ltb (length l) (shape_of c).batch ≡ false → StaysHome (answer (shape_of c) (H.rules c) (H.classes c) (take h l)) ⊎ Abroad S H H' c
          → StaysHome (take_from (shape_of c) l (H.classes c).partial (H.classes c).empty (H.classes c).cold (H.classes c).full)
          ⊎ ((fs : List Page) → StateRep n b c (shape_of c) (lists [] [] [] fs) → (take_new n (override S b d) c (shape_of c) h l).book ≡ override S (take_new n b c (shape_of c) h l).book d)
      go u (inl z) = inl (rw u at z)
      go u (inr z) = inr (λ fs r. new_local n b H R ok c hc hm d z.roams.arena z.idle h l fs r H' R' ok' z.arena)
  reply_local (give_back h ws) hc a = list_local n hn b H R ok c hc hm d H' R' ok' et h ws (go a)
    where
      go : StaysHome (answer (shape_of c) (H.rules c) (H.classes c) (give_back h ws)) ⊎ Abroad S H H' c → StaysHome (release_list (shape_of c) (H.rules c) h (H.classes c) ws) ⊎ Roams S H c
      go (inl z) = inl z
      go (inr z) = inr z.roams
  reply_local (give_chunks h ws gs fs) hs a = group_local n hn b H R ok c hs hm d H' R' ok' et h ws gs fs (go a)
    where
      go : StaysHome (answer (shape_of c) (H.rules c) (H.classes c) (give_chunks h ws gs fs)) ⊎ Abroad S H H' c → StaysHome (Chunks.release_chunks (shape_of c) (H.rules c) h (H.classes c) ws gs fs) ⊎ Roams S H c
      go (inl z) = inl z
      go (inr z) = inr z.roams

-- ---- the model: another class's call leaves the class, and a call that stays at home leaves the arena
pub other-class : (n : ℕ) (H : Heap) (c d : ℕ) (y : Request) → eqb c d ≡ false → (class_call n H d y).heap.classes c ≡ H.classes c
unfolding class_call interact finish
other-class n H c d y e = update_other H.classes d c _ (other_way c d e)

pub home-arena : (n : ℕ) (H : Heap) (c h : ℕ) {q : Ask} → StaysHome q → (interact n H c h q).heap.arena ≡ H.arena
unfolding interact offer finish
home-arena n H c h (stays s a) = refl

-- ---- two calls, the first of which stays at home; Hx and Hy are the heaps after each alone
module _ (n : ℕ) (hn : n ≤ max_pages) (b : List ℕ) (H : Heap) (R : Represents n b H) (ok : Reached n H) (c d : ℕ) (x y : Request) (ox : Ours c x) (oy : Ours d y) (ne : eqb c d ≡ false)
    (lc : Listed (shape_of c) (H.classes c)) (ld : Listed (shape_of d) (H.classes d)) (home : StaysHome (answer (shape_of c) (H.rules c) (H.classes c) x))
    (Hx Hy : Heap) (Rx : Represents n (class_reply n b c x).book Hx) (okx : Reached n Hx) (Ry : Represents n (class_reply n b d y).book Hy) (oky : Reached n Hy)
    (arena : Hx.arena ≡ H.arena) (sameD : Hx.classes d ≡ H.classes d) (sameC : Hy.classes c ≡ H.classes c) where
  row : ltb c class_rows ≡ true
  row = ours-row c x ox

  apart : d ≡ c → ⊥
  apart e = eqb-false c d ne (sym e)

  away : {H' : Heap} → H'.arena ≡ H.arena → Abroad (off n b (shape_of c) c) H H' d
  away e = record {
    roams = record {
      arena = off-arena n b (shape_of c) c row;
      kin = λ z o. off-page n b (shape_of c) c row z (by_cases (whole n b (shape_of c) c z) (λ w. absurd (apart (twice z w o))) (λ w. w));
    };
    idle = λ z f. off-page n b (shape_of c) c row z (by_cases (whole n b (shape_of c) c z) (λ w. absurd (never z w (f (low z w)))) (λ w. w));
    arena = e;
  }
    where
      low : (z : ℕ) → whole n b (shape_of c) c z ≡ true → z < H.arena.frontier
      low z w = omega (arith, whole_below n b (shape-sound c) c z w, loads-frontier b H.arena R.arena.loads)

      code : (z : ℕ) → whole n b (shape_of c) c z ≡ true → owner_code (H.holder z) ≡ suc c
      code z w = sym (R.arena.owners z (low z w)) ∙ whole-owner n b (shape-sound c) c z w

      twice : (z : ℕ) → whole n b (shape_of c) c z ≡ true → owner_code (H.holder z) ≡ suc d → d ≡ c
      twice z w o = omega (arith, code z w)

      never : (z : ℕ) → whole n b (shape_of c) c z ≡ true → H.holder z ≡ nobody → ⊥
      never z w o = let e : 0 ≡ suc c = rw o at (code z w) in omega arith

  pub books : (class_reply n (class_reply n b d y).book c x).book ≡ (class_reply n (class_reply n b c x).book d y).book
  unfolding off
  books =
      let S = footprint n b (shape_of c) c in
      let T = off n b (shape_of c) c in
      let hS = footprint-home n b (shape_of c) c row in
      let hT = off-home n b (shape_of c) c row (shape-sound c) d (ours-row d y oy) apart (shape-sound d) in
      swapped (footprint n b (shape_of c) c) (λ m. (class_reply n m c x).book) (λ m. (class_reply n m d y).book) b (reply-long n hn b H R ok c lc x ox) (reply-long n hn b H R ok d ld y oy)
      (reply_local n hn b H R ok b H (subst (λ (m : List ℕ). Represents n m H) (sym (override-same S b)) R) ok c lc refl hS x ox (inl home))
      (λ e. reply_local n hn b H R ok (class_reply n b d y).book Hy (subst (λ (m : List ℕ). Represents n m Hy) e Ry) oky c lc sameC hS x ox (inl home))
      (reply_local n hn b H R ok b H (subst (λ (m : List ℕ). Represents n m H) (sym (override-same T b)) R) ok d ld refl hT y oy (inr (away refl)))
      (λ e. reply_local n hn b H R ok (class_reply n b c x).book Hx (subst (λ (m : List ℕ). Represents n m Hx) e Rx) okx d ld sameD hT y oy (inr (away arena)))
