-- A group release on two books that stand for one state of its class: refused on both, or settled alike.
--     chunks-in      the chunks in order
--     group-local    the release keeps to the class's words, and the arena's where it gives
use Rattle.facts.proofs.Prelude.{ℕ, ◌+◌, ◌≤◌, ◌<◌, arith, Bool, true, false, List, [], ◌∷◌, ◌++◌, map, ◌⊎◌, ◌≡◌, refl}
use Rattle.facts.proofs.Prelude.{subst, ltb, leb, leb-true, ltb-true, All, every, distinct, and_left, and_right, lt-ltb}
use Rattle.words.specs.Word.{page_of}
use Rattle.classes.specs.declared.Shape.{Shape}
use Rattle.classes.specs.Shape.{small_shape, shape_of, class_count}
use Rattle.rules.specs.declared.Limits.{Limits}
use Rattle.fields.specs.Field.{first}
use Rattle.fields.specs.Ranges.{max_pages}
use Rattle.fields.proofs.Changes.{changes-none}
use Rattle.model.specs.Page.{Page, is_medium}
use Rattle.model.specs.Class.{Class}
use Rattle.model.specs.Release.{Settled}
use Rattle.model.specs.Chunks as Model
use Rattle.model.specs.Heap.{Heap}
use Rattle.model.specs.Demands.{StaysHome}
use Rattle.pages.specs.Runs.{whole}
use Rattle.pages.specs.Stack.{index_of, page_at}
use Rattle.calls.specs.Out.{start_of, in_run_of, out_at}
use Rattle.calls.specs.Release.{Released}
use Rattle.calls.specs.Chunks as Words
use Rattle.calls.specs.Chunks.{blocks_on, chunk_back_at, gives_of, settle_chunks, release_chunks}
use Rattle.refinement.specs.way.Represents.{RuleRep, Represents}
use Rattle.refinement.proofs.Basics.{Setting, setting_kept}
use Rattle.refinement.proofs.Frames.{of_class, Only, only_trans}
use Rattle.refinement.proofs.ArenaReached.{Reached}
use Rattle.refinement.proofs.Book.{Stands, stands, setting}
use Rattle.refinement.proofs.Found.{Away, found_at}
use Rattle.refinement.proofs.Release.{SettledRep, stays, goes}
use Rattle.refinement.proofs.Chunks.{every-blocks, once-blocks, Waits, back_at, First, first_of_lem}
use Rattle.refinement.proofs.ChunkWhole.{small-shape, all_wait, chunks-acts, chunks-tests}
use Rattle.refinement.proofs.ArenaHolders.{small-class}
use Rattle.refinement.proofs.Override.{override, PageIn, get-page}
use Rattle.refinement.proofs.LocalFill.{Home, home-only}
use Rattle.refinement.proofs.LocalBack.{chunk_local}
use Rattle.refinement.proofs.LocalGives.{Roams, runs_local}

abbrev pub override_settled : (ℕ → Bool) → List ℕ → Words.Settled → Words.Settled
override_settled S d w = record { book = override S w.book d; fates = w.fates; gives = w.gives }

-- a chunk's blocks go by words of S
pub blocks_in : (S : ℕ → Bool) (b d : List ℕ) (q : ℕ) (ws : List ℕ) → All (λ w. PageIn S (page_at w)) ws → blocks_on (override S b d) ws q ≡ blocks_on b ws q
unfolding blocks_on start_of
blocks_in S b d q [] a = refl
blocks_in S b d q (w ∷ ws) a = rw (get-page a.0 b d first, blocks_in S b d q ws a.1)

-- what settling one page leaves for the next
then_next : {P : Type 0} {n : ℕ} {b : List ℕ} {c : ℕ} {sh : Shape} {zs : List Page} {k q : ℕ} {v : Released} {y : Settled} → SettledRep n b c sh zs k q v y
    → ((zs' : List Page) → Only c b v.book → Away n v.book c sh y.class zs' → P) → P
then_next {zs = zs} (stays ne r o) f = f zs o r
then_next {zs = zs} (goes p e r o) f = f (p ∷ zs) o r

module _ (S : ℕ → Bool) {n c : ℕ} {sh : Shape} (hn : n ≤ max_pages) (lim : Limits) (small : is_medium sh ≡ false) (h : ℕ) (ws : List ℕ) (once : distinct ws ≡ true)
    (b₀ : List ℕ) (s₀ : Setting n b₀ c sh) (rl₀ : RuleRep b₀ c lim) (d : List ℕ) (homes : All (λ w. PageIn S (page_at w)) ws) where
  step : {b : List ℕ} {t : Class} {zs : List Page} {g : ℕ} {gs : List ℕ} (f : First hn lim small h ws once b₀ s₀ rl₀ b t zs g gs) → Only c b₀ b → Home S n b c sh → Away n b c sh t zs
      → (let m = (back_at b c sh h ws f.site).book in settle_chunks (override S m d) c sh h ws gs ≡ override_settled S d (settle_chunks m c sh h ws gs))
      → (let v = chunk_back_at b c sh h (page_of g) (map (index_of sh (page_of g)) (blocks_on b ws (page_of g))) in
      let w = settle_chunks v.book c sh h ws gs in
      settle_chunks (override S b d) c sh h ws (g ∷ gs) ≡ override_settled S d (record { book = w.book; fates = v.fate ∷ w.fates; gives = gives_of (page_of g) v.fate ++ w.gives }))
  unfolding settle_chunks
  step {b} {zs = zs} {g} f o hm r rest =
      let p = f.site.page in
      rw (
        blocks_in S b d (page_of g) ws homes,
        f.blocks,
        f.here,
        chunk_local (setting_kept b o.long s₀) hn hm h d f.site (found_at {zs = zs} r f.found).placed (Model.blocks_on sh ws p) (every-blocks sh ws p) (once-blocks sh ws once p),
        rest,
      )

  pub chunks_in : (gs : List ℕ) → distinct (map page_of gs) ≡ true → (b : List ℕ) (t : Class) (zs : List Page) → Only c b₀ b → Home S n b c sh → Away n b c sh t zs → All (Waits sh ws b₀ t) gs
      → settle_chunks (override S b d) c sh h ws gs ≡ override_settled S d (settle_chunks b c sh h ws gs)
  unfolding settle_chunks
  chunks_in [] e b t zs o hm r a = refl
  chunks_in (g ∷ gs) e b t zs o hm r a =
      let f = first_of_lem hn lim small h ws once b₀ s₀ rl₀ g gs e b t zs o r a in
      step f o hm r (then_next f.settled (λ zs' o' r'. chunks_in gs f.others _ _ zs' (only_trans c o o') (home-only o' hm) r' f.waits))

-- ---- the whole call, of a small class: its runs have one page
one-page : (c : ℕ) → ltb c 64 ≡ true → (x y : ℕ) → x ≤ y → y < x + (shape_of c).pages → x ≡ y
unfolding shape_of small_shape
one-page c e x y l u = let z : y < x + 1 = rw (lt-ltb c class_count (omega (arith, ltb-true c 64 e)), e) at u in omega arith

module _ {S : ℕ → Bool} (n : ℕ) (hn : n ≤ max_pages) (b : List ℕ) (H : Heap) (R : Represents n b H) (ok : Reached n H) (c : ℕ) (hs : ltb c 64 ≡ true) (hm : Home S n b c (shape_of c)) (d : List ℕ)
    (H' : Heap) (R' : Represents n (override S b d) H') (ok' : Reached n H') (et : H'.classes c ≡ H.classes c) (h : ℕ) where
  -- the pages of blocks that are out
  home_of : (w : ℕ) → out_at n b c (shape_of c) w ≡ true → PageIn S (page_at w)
  unfolding out_at in_run_of
  home_of w o =
      let q = start_of b w in
      let run : whole n b (shape_of c) c (start_of b w) ≡ true = search (and_left, and_right) in
      let low : leb (start_of b w) (page_at w) ≡ true = search (and_left, and_right) in
      let high : ltb (page_at w) (start_of b w + (shape_of c).pages) ≡ true = search (and_left, and_right) in
      let here : start_of b w ≡ page_at w = one-page c hs (start_of b w) (page_at w) (leb-true _ _ low) (ltb-true _ _ high) in
      subst (λ (x : ℕ). PageIn S x) here (hm.pages q run)

  homes_of : (ws : List ℕ) → every (out_at n b c (shape_of c)) ws ≡ true → All (λ w. PageIn S (page_at w)) ws
  homes_of [] o = tt
  homes_of (w ∷ ws) o =
      let t = out_at n b c (shape_of c) in
      (home_of w (and_left (t w) (every t ws) o), homes_of ws (and_right (t w) (every t ws) o))

  pub group_local : (ws gs fs : List ℕ) → StaysHome (Model.release_chunks (shape_of c) (H.rules c) h (H.classes c) ws gs fs) ⊎ Roams S H c
      → (release_chunks n (override S b d) c (shape_of c) h ws gs fs).book ≡ override S (release_chunks n b c (shape_of c) h ws gs fs).book d
  group_local ws gs fs =
      let hc = small-class c hs in
      let B : Stands n b c (H.classes c) = stands R ok (small-class c hs) refl in
      chunks-tests hn h B (stands R' ok' hc et) hs (H.rules c) ws gs fs
      (λ w w' q. StaysHome q ⊎ Roams S H c → w'.book ≡ override S w.book d) (λ k u a. refl)
      (λ k o once fits apart a.
      rw (chunks_in S hn (H.rules c) (small-shape c hs) h ws once b (setting B) (R.rules c hc) d (homes_of ws o) gs apart b (H.classes c) [] (changes-none (of_class b c) b) hm (R.classes c hc)
      (all_wait hn B hs ws k o once gs fits))
      (runs_local B d (chunks-acts hn B hs ws k o once h gs fits apart fs) a))
