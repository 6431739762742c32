-- The chunks of a group release, one after the other: fates, runs for the arena and book are the model's.
--     settle-skips     settling one page leaves every other page where the model finds it
--     settle-adds      what it adds to the stores and to the runs for the arena
--     Waits            a chunk whose page has its blocks out, whatever the chunks before it did
--     First            what comes of the first chunk
--     chunks-rep       all chunks
use Rattle.facts.proofs.Prelude.{ℕ, ◌+◌, ◌≤◌, arith, Bool, true, false, cond, not, true≢false, List, [], ◌∷◌, ◌++◌, map, append_assoc}
use Rattle.facts.proofs.Prelude.{append-nil, Option, none, some, Option·none-ne-some, Option·some-injective, ◌≡◌, refl, sym, ap, ◌∙◌, eqb}
use Rattle.facts.proofs.Prelude.{length, eqb-true, ne_eqb, not-true, filter, every, All, elem, distinct, count, by_cases, and_left, and_right}
use Rattle.words.specs.Word.{page_of}
use Rattle.classes.specs.declared.Shape.{Shape}
use Rattle.rules.specs.declared.Limits.{Limits}
use Rattle.fields.specs.Ranges.{max_pages}
use Rattle.model.specs.Page.{Page, is_medium, is_out, none_out, returned, retire}
use Rattle.model.specs.Class.{Class}
use Rattle.model.specs.Release as Release
use Rattle.model.specs.Release.{Site, Settled, in_partial, in_full, locate, destination_in, park_in, park, settle}
use Rattle.model.specs.Chunks as Model
use Rattle.model.specs.Chunks.{starts_at, settle_chunk, AllSettled}
use Rattle.model.proofs.Counts.{filter-le, distinct-count}
use Rattle.model.proofs.Find.{first_of, page_in, located-first, Skips, partial-skips, full-skips}
use Rattle.words.specs.Host.{digit}
use Rattle.pages.specs.Stack.{index_of}
use Rattle.model.specs.declared.Destination.{Destination}
use Rattle.model.specs.declared.Destination.TheVariants.{ToEmpty, ToCold, ToArena}
use Rattle.model.specs.Destination.{is_empty, is_cold, is_arena}
use Rattle.calls.specs.Out.{start_of}
use Rattle.calls.specs.Release.{Released}
use Rattle.calls.specs.Chunks as Words
use Rattle.calls.specs.Chunks.{blocks_on, returns_all, runs_given, chunk_back_at, gives_of, settle_chunks}
use Rattle.refinement.specs.way.Represents.{firsts, RuleRep}
use Rattle.refinement.proofs.Basics.{Setting, setting_kept}
use Rattle.refinement.proofs.Frames.{Only, only-owns, only_trans, only_rule}
use Rattle.refinement.proofs.Moves.{full_in}
use Rattle.refinement.proofs.Found.{Located, in_list, in_none, located, located-passes, Away, found_at}
use Rattle.refinement.proofs.Release.{SettledRep, stays, goes, settle-chunk}

-- what settling a page adds, where e empty and k cold pages were: a page to the store that the destination names, or a run for the arena
pub record Adds (e k : ℕ) (destination : Destination) (gone : Bool) (y : Settled) : Type 0 where
  pub empty : length y.class.empty ≡ cond gone (e + digit (is_empty destination)) e
  pub cold : length y.class.cold ≡ cond gone (k + digit (is_cold destination)) k
  pub gives : length y.gives ≡ cond gone (digit (is_arena destination)) 0

-- ---- the model's settling of one page
module _ (sh : Shape) (lim : Limits) (h : ℕ) where
  in_skips : (s : Class) (p : Page) (u : Page → Bool) (t : Destination) → first_of u (park_in sh h s p t).class ≡ first_of u s
  in_skips s p u ToEmpty = refl
  in_skips s p u ToCold = refl
  in_skips s p u ToArena = refl

  park-skips : (s : Class) (p : Page) (u : Page → Bool) → first_of u (park sh lim h s p).class ≡ first_of u s
  unfolding park
  park-skips s p u = in_skips s p u (destination_in sh lim s)

  skips : {t : Page → Bool} {s : Class} {x : Site} → Located t s (some x) → Skips s x
  skips {t} {s} (in_list f k) = partial-skips t s f k
  skips {t} {s} (in_none f k) = full-skips t s f k

  pub settle-skips : {t : Page → Bool} {s : Class} {x : Site} → Located t s (some x) → (ws : List ℕ) (r : ℕ) → eqb x.page.first r ≡ false
      → first_of (starts_at r) (settle sh lim h true ws x).class ≡ first_of (starts_at r) s
  unfolding settle returned
  settle-skips {s = s} {x = x} y ws r ne =
      let k = skips y in
      by_cases (none_out sh (returned ws x.page))
      (λ e. rw e (park-skips x.without (retire x.page) (starts_at r) ∙ k.without (starts_at r) ne))
      (λ e. rw e (k.with (starts_at r) (returned ws x.page) ne ne))

  in_adds : (s : Class) (p : Page) (t : Destination) → Adds (length s.empty) (length s.cold) t true (Release.set_retired (park_in sh h s p t))
  in_adds s p ToEmpty = record { empty = omega arith; cold = omega arith; gives = refl }
  in_adds s p ToCold = record { empty = omega arith; cold = omega arith; gives = refl }
  in_adds s p ToArena = record { empty = omega arith; cold = omega arith; gives = refl }

  park-adds : (s : Class) (p : Page) → Adds (length s.empty) (length s.cold) (destination_in sh lim s) true (Release.set_retired (park sh lim h s p))
  unfolding park
  park-adds s p = in_adds s p (destination_in sh lim s)

  pub settle-adds : {t : Page → Bool} {s : Class} {x : Site} → Located t s (some x) → (ws : List ℕ)
      → Adds (length s.empty) (length s.cold) (destination_in sh lim s) (none_out sh (returned ws x.page)) (settle sh lim h true ws x)
  unfolding settle in_partial in_full
  settle-adds {s = s} (in_list f k) ws =
      by_cases (none_out sh (returned ws f.page)) (λ e. rw e (park-adds (in_partial s f).without (retire f.page)))
      (λ e. rw e (record { empty = refl; cold = refl; gives = refl }))
  settle-adds {s = s} (in_none f k) ws =
      by_cases (none_out sh (returned ws f.page)) (λ e. rw e (park-adds (in_full s f).without (retire f.page)))
      (λ e. rw e (record { empty = refl; cold = refl; gives = refl }))

-- ---- lists of blocks
every-filter : (t : ℕ → Bool) (l : List ℕ) → every t (filter t l) ≡ true
every-filter t [] = refl
every-filter t (x ∷ l) = let ih = every-filter t l in by_cases (t x) (λ e. rw (e, e) ih) (λ e. rw e ih)

-- a chunk's blocks are out on its page, each once
pub every-blocks : (sh : Shape) (ws : List ℕ) (p : Page) → every (λ w. is_out sh w p) (Model.blocks_on sh ws p) ≡ true
unfolding Model.blocks_on
every-blocks sh ws p = every-filter (λ w. is_out sh w p) ws

pub once-blocks : (sh : Shape) (ws : List ℕ) → distinct ws ≡ true → (p : Page) (w : ℕ) → count w (Model.blocks_on sh ws p) ≤ 1
unfolding Model.blocks_on
once-blocks sh ws once p w = omega (arith, filter-le (λ w. is_out sh w p) w ws, distinct-count w ws once)

-- a chunk's blocks go by where the runs begin
blocks-kept : (b b' : List ℕ) → ((w : ℕ) → start_of b' w ≡ start_of b w) → (ws : List ℕ) (q : ℕ) → blocks_on b' ws q ≡ blocks_on b ws q
unfolding blocks_on
blocks-kept b b' k [] q = refl
blocks-kept b b' k (w ∷ ws) q = rw (k w, blocks-kept b b' k ws q)

start-kept : (c : ℕ) {b b' : List ℕ} → Only c b b' → (w : ℕ) → start_of b' w ≡ start_of b w
unfolding start_of
start-kept c h w = (only-owns c h).starts _

-- ---- all chunks; b₀ is the book before the first
pub record Waits (sh : Shape) (ws b₀ : List ℕ) (t : Class) (g : ℕ) : Type 0 where
  pub page : Page
  pub found : first_of (starts_at (page_of g)) t ≡ some page
  pub blocks : Model.blocks_on sh ws page ≡ blocks_on b₀ ws (page_of g)
  pub all : returns_all b₀ g ≡ none_out sh (returned (Model.blocks_on sh ws page) page)

waits-next : (sh : Shape) (ws b₀ : List ℕ) (t t' : Class) (q : ℕ) → ((r : ℕ) → eqb q r ≡ false → first_of (starts_at r) t' ≡ first_of (starts_at r) t)
    → (gs : List ℕ) → elem q (map page_of gs) ≡ false → All (Waits sh ws b₀ t) gs → All (Waits sh ws b₀ t') gs
waits-next sh ws b₀ t t' q k [] e a = tt
waits-next sh ws b₀ t t' q k (g ∷ gs) e a =
    by_cases (eqb q (page_of g))
    (λ u. absurd (true≢false (rw u at e)))
    (λ u. let r = a.0 in
    (record { page = r.page; found = k (page_of g) u ∙ r.found; blocks = r.blocks; all = r.all }, waits-next sh ws b₀ t t' q k gs (rw u at e) a.1))

-- what comes of chunks, where pages zs waited for the arena before; `runs` of them go there
pub record ChunksRep (n c : ℕ) (sh : Shape) (b₀ : List ℕ) (zs : List Page) (w : Words.Settled) (x : AllSettled) (runs : ℕ) : Type 0 where
  pub pages : List Page
  pub rep : Away n w.book c sh x.class (zs ++ pages)
  pub only : Only c b₀ w.book
  pub fates : w.fates ≡ x.fates
  pub gives : w.gives ≡ x.gives
  pub named : firsts pages ≡ x.gives
  pub number : runs ≡ length pages

-- one chunk's outcome before that of the others
abbrev then_words : ℕ → ℕ → Words.Settled → Words.Settled
then_words q f w = record { book = w.book; fates = f ∷ w.fates; gives = gives_of q f ++ w.gives }

abbrev then_model : ℕ → List ℕ → AllSettled → AllSettled
then_model f gs x = record { class = x.class; fates = f ∷ x.fates; gives = gs ++ x.gives }

-- the page of the first chunk goes to the arena before those of the others
goes_then : {n c : ℕ} {sh : Shape} {b₀ : List ℕ} (zs : List Page) (q : ℕ) (p : Page) {w : Words.Settled} {x : AllSettled} (k : ℕ) → p.first ≡ q
    → ChunksRep n c sh b₀ (zs ++ (p ∷ [])) w x k
    → ChunksRep n c sh b₀ zs (then_words q 6 w) (then_model 6 (q ∷ []) x) (1 + k)
goes_then zs q p k e ih = record {
  pages = p ∷ ih.pages;
  rep = rw (append_assoc zs (p ∷ []) ih.pages) at ih.rep;
  only = ih.only;
  fates = ap (λ l. 6 ∷ l) ih.fates;
  gives = ap (λ l. q ∷ l) ih.gives;
  named = ap (λ z. z ∷ firsts ih.pages) e ∙ ap (λ l. q ∷ l) ih.named;
  number = omega (arith, ih.number);
}

stays_then : {n c : ℕ} {sh : Shape} {b₀ : List ℕ} (zs : List Page) (q f : ℕ) {w : Words.Settled} {x : AllSettled} (k : ℕ) → (f ≡ 6 → ⊥)
    → ChunksRep n c sh b₀ zs w x k
    → ChunksRep n c sh b₀ zs (then_words q f w) (then_model f [] x) (0 + k)
stays_then zs q f k ne ih = record {
  pages = ih.pages;
  rep = ih.rep;
  only = ih.only;
  fates = ap (λ l. f ∷ l) ih.fates;
  gives = rw (ne_eqb f 6 ne) ih.gives;
  named = ih.named;
  number = omega (arith, ih.number);
}

first_then : {n c : ℕ} {sh : Shape} {b₀ b : List ℕ} (zs : List Page) (q : ℕ) {v : Released} {y : Settled} {w : Words.Settled} {x : AllSettled} (k : ℕ)
    → Only c b₀ b → SettledRep n b c sh zs 6 q v y
    → ((zs' : List Page) → Only c b₀ v.book → Away n v.book c sh y.class zs' → ChunksRep n c sh b₀ zs' w x k)
    → ChunksRep n c sh b₀ zs (then_words q v.fate w) (then_model y.fate y.gives x) (length y.gives + k)
first_then {c = c} zs q k o₀ (stays {f = f} ne r o) rest = stays_then zs q f k ne (rest zs (only_trans c o₀ o) r)
first_then {n} {c} {sh} zs q k o₀ (goes {b' = b'} {s = s} p e r o) rest =
    let r₁ : Away n b' c sh s (zs ++ (p ∷ [])) = rw (append_assoc zs (p ∷ []) s.full) (full_in zs p s.full r) in
    goes_then zs q p k e (rest (zs ++ (p ∷ [])) (only_trans c o₀ o) r₁)

-- the chunk whose page is at site x, on the words and in the model
abbrev pub back_at : List ℕ → ℕ → Shape → ℕ → List ℕ → Site → Released
back_at b c sh h ws x = chunk_back_at b c sh h x.page.first (map (index_of sh x.page.first) (Model.blocks_on sh ws x.page))

abbrev settle_at : Shape → Limits → ℕ → List ℕ → Site → Settled
settle_at sh lim h ws x = settle sh lim h true (Model.blocks_on sh ws x.page) x

module _ {n c : ℕ} {sh : Shape} (hn : n ≤ max_pages) (lim : Limits) (small : is_medium sh ≡ false) (h : ℕ) (ws : List ℕ) (once : distinct ws ≡ true)
    (b₀ : List ℕ) (s₀ : Setting n b₀ c sh) (rl₀ : RuleRep b₀ c lim) where
  -- the first of the chunks, on any book after those before: its page, and what comes of it; the others wait on
  pub record First (b : List ℕ) (t : Class) (zs : List Page) (g : ℕ) (gs : List ℕ) : Type 0 where
    pub site : Site
    pub is : locate (starts_at (page_of g)) t ≡ some site
    pub found : Located (starts_at (page_of g)) t (some site)
    pub here : page_of g ≡ site.page.first
    pub blocks : blocks_on b ws (page_of g) ≡ Model.blocks_on sh ws site.page
    pub all : returns_all b₀ g ≡ none_out sh (returned (Model.blocks_on sh ws site.page) site.page)
    pub settled : SettledRep n b c sh zs 6 site.page.first (back_at b c sh h ws site) (settle_at sh lim h ws site)
    pub waits : All (Waits sh ws b₀ (settle_at sh lim h ws site).class) gs
    pub others : distinct (map page_of gs) ≡ true

  pub first_of_lem : (g : ℕ) (gs : List ℕ) → distinct (map page_of (g ∷ gs)) ≡ true → (b : List ℕ) (t : Class) (zs : List Page) → Only c b₀ b → Away n b c sh t zs → All (Waits sh ws b₀ t) (g ∷ gs)
      → First b t zs g gs
  first_of_lem g gs d b t zs o r a = go (locate (starts_at (page_of g)) t) refl (located (starts_at (page_of g)) t) (located-first (starts_at (page_of g)) t ∙ a.0.found)
    where
      go : (x : Option Site) → locate (starts_at (page_of g)) t ≡ x → Located (starts_at (page_of g)) t x → page_in x ≡ some a.0.page → First b t zs g gs
      go none i y e = absurd (Option·none-ne-some a.0.page e)
      go (some x) i y e =
          let bs = Model.blocks_on sh ws x.page in
          let new = elem (page_of g) (map page_of gs) in
          let ep : x.page ≡ a.0.page = Option·some-injective x.page a.0.page e in
          let eq : x.page.first ≡ page_of g = eqb-true x.page.first (page_of g) (located-passes y) in
          record {
            site = x;
            is = i;
            found = y;
            here = sym eq;
            blocks = blocks-kept b₀ b (start-kept c o) ws (page_of g) ∙ sym (ap (Model.blocks_on sh ws) ep ∙ a.0.blocks);
            all = rw ep a.0.all;
            settled = settle-chunk (setting_kept b o.long s₀) hn (only_rule c o c s₀.row rl₀) h x (found_at {zs = zs} r y).placed bs (every-blocks sh ws x.page) (once-blocks sh ws once x.page) small;
            waits = waits-next sh ws b₀ t _ (page_of g) (λ z ne. settle-skips sh lim h y bs z (ap (λ v. eqb v z) eq ∙ ne)) gs (not-true new (and_left (not new) (distinct (map page_of gs)) d)) a.1;
            others = and_right (not new) (distinct (map page_of gs)) d;
          }

  -- the chunks gs, of any book after the first ones
  Rest : List ℕ → Type 0
  Rest gs =
      (b : List ℕ) (t : Class) (zs : List Page) → Only c b₀ b → Away n b c sh t zs → All (Waits sh ws b₀ t) gs
      → ChunksRep n c sh b₀ zs (settle_chunks b c sh h ws gs) (Model.settle_chunks sh lim h ws t gs) (runs_given b₀ sh lim gs (length t.empty) (length t.cold))

  module _ {b : List ℕ} {t : Class} {zs : List Page} {g : ℕ} {gs : List ℕ} (f : First b t zs g gs) where
    runs-are : (let y = settle_at sh lim h ws f.site in
        runs_given b₀ sh lim (g ∷ gs) (length t.empty) (length t.cold) ≡ length y.gives + runs_given b₀ sh lim gs (length y.class.empty) (length y.class.cold))
    unfolding runs_given
    runs-are =
        let p = f.site.page in
        let a = settle-adds sh lim h f.found (Model.blocks_on sh ws p) in
        by_cases (none_out sh (returned (Model.blocks_on sh ws p) p)) (λ u. rw (f.all, u, a.empty, a.cold, a.gives, u)) (λ u. rw (f.all, u, a.empty, a.cold, a.gives, u) (omega arith))

    step : Only c b₀ b → Rest gs
        → ChunksRep n c sh b₀ zs (settle_chunks b c sh h ws (g ∷ gs)) (Model.settle_chunks sh lim h ws t (g ∷ gs)) (runs_given b₀ sh lim (g ∷ gs) (length t.empty) (length t.cold))
    unfolding settle_chunks Model.settle_chunks settle_chunk Rest
    step o rest = rw (runs-are, f.is, f.blocks, f.here) (first_then zs _ _ o f.settled (λ zs' o' r'. rest _ _ zs' o' r' f.waits))

  pub chunks-rep : (gs : List ℕ) → distinct (map page_of gs) ≡ true → (b : List ℕ) (t : Class) (zs : List Page) → Only c b₀ b → Away n b c sh t zs → All (Waits sh ws b₀ t) gs
      → ChunksRep n c sh b₀ zs (settle_chunks b c sh h ws gs) (Model.settle_chunks sh lim h ws t gs) (runs_given b₀ sh lim gs (length t.empty) (length t.cold))
  unfolding settle_chunks Model.settle_chunks runs_given Rest
  chunks-rep [] d b t zs o r a = record { pages = []; rep = rw (append-nil zs) r; only = o; fates = refl; gives = refl; named = refl; number = refl }
  chunks-rep (g ∷ gs) d b t zs o r a = let f = first_of_lem g gs d b t zs o r a in step f o (λ b t zs o r a. chunks-rep gs f.others b t zs o r a)
