-- The runs that a group release gives are those of the groups whose fate says so, in the groups' order.
use Rattle.facts.proofs.Prelude.{ℕ, Bool, true, false, cond, List, [], ◌∷◌, ◌++◌, Option, none, some, ◌≡◌}
use Rattle.facts.proofs.Prelude.{refl, sym, ap, ◌∙◌, length, take, drop, take-append_seam, eqb-true, by_cases}
use Rattle.words.specs.Word.{page_of}
use Rattle.classes.specs.declared.Shape.{Shape}
use Rattle.rules.specs.declared.Limits.{Limits}
use Rattle.model.specs.declared.Destination.{Destination}
use Rattle.model.specs.declared.Destination.TheVariants.{ToEmpty, ToCold, ToArena}
use Rattle.model.specs.Calls as Calls
use Rattle.model.specs.Page.{Page, is_medium, none_out, returned, retire}
use Rattle.model.specs.Class.{Class, Result, Ask, done, serve, refuse}
use Rattle.model.specs.Release.{Site, Found, Settled, find, in_partial, in_full, or_else, map_found, locate, park_in, destination_in, park, set_retired, settle}
use Rattle.model.specs.Chunks.{starts_at, blocks_on, settle_chunk, settle_chunks, release_chunks, answer}
use Rattle.model.specs.Held.{fates_in}
use Rattle.model.specs.Groups.{is_back, groups_back, GroupsGive}
use Rattle.model.proofs.Find.{FoundLaws, found-law}
use Rattle.model.proofs.Fates.{chunks-fated}

-- a page that a test locates passes it
abbrev Passing : (Page → Bool) → Option Site → Type 0
Passing t none = Unit {0}
Passing t (some x) = t x.page ≡ true

passes : (t : Page → Bool) (s : Class) → Passing t (locate t s)
unfolding locate in_partial in_full
passes t s = by-lists (find t s.partial) (find t s.full) (found-law t s.partial) (found-law t s.full)
  where
    by-lists : (o p : Option Found) → FoundLaws t s.partial o → FoundLaws t s.full p → Passing t (or_else (map_found (in_partial s) o) (map_found (in_full s) p))
    by-lists none none h k = tt
    by-lists none (some f) h k = k.passes
    by-lists (some f) p h k = h.passes

-- ---- one group's page, whose run begins at q
record Given (q : ℕ) (b : Settled) : Type 0 where
  given : b.gives ≡ cond (is_back b.fate) (q ∷ []) []

given-cond : (q : ℕ) (t : Bool) (x y : Settled) → Given q x → Given q y → Given q (cond t x y)
given-cond q true x y f g = f
given-cond q false x y f g = g

module _ (sh : Shape) (lim : Limits) (h : ℕ) where
  retired-given : (s : Class) (p : Page) (t : Destination) → Given p.first (set_retired (park_in sh h s p t))
  retired-given s p ToEmpty = record { given = refl }
  retired-given s p ToCold = record { given = by_cases (is_medium sh) (λ e. rw e refl) (λ e. rw e refl) }
  retired-given s p ToArena = record { given = refl }

  stay-given : (q : ℕ) (s : Class) → Given q (record { class = s; fate = 0; gives = [] })
  stay-given q s = record { given = refl }

  settle-given : (ws : List ℕ) (x : Site) → Given x.page.first (settle sh lim h true ws x)
  unfolding settle park retire
  settle-given ws x =
      given-cond x.page.first (none_out sh (returned ws x.page)) _ _
      (retired-given x.without (retire x.page) (destination_in sh lim x.without))
      (stay-given x.page.first (x.with (returned ws x.page)))

  chunk-given : (s : Class) (ws : List ℕ) (q : ℕ) (o : Option Site) → Passing (starts_at q) o → Given q (settle_chunk sh lim h s ws o)
  unfolding settle_chunk
  chunk-given s ws q none k = stay-given q s
  chunk-given s ws q (some x) k = record { given = (settle-given (blocks_on sh ws x.page) x).given ∙ ap (λ p. cond (is_back (settle sh lim h true (blocks_on sh ws x.page) x).fate) (p ∷ []) []) (eqb-true x.page.first q k) }

  -- ---- all of them
  chunks-given : (ws : List ℕ) (s : Class) (gs : List ℕ) → (settle_chunks sh lim h ws s gs).gives ≡ groups_back gs (settle_chunks sh lim h ws s gs).fates
  unfolding settle_chunks
  chunks-given ws s [] = refl
  chunks-given ws s (g ∷ gs) =
      let o = locate (starts_at (page_of g)) s in
      let b = settle_chunk sh lim h s ws o in
      let k = (chunk-given s ws (page_of g) o (passes (starts_at (page_of g)) s)).given in
      let r = chunks-given ws b.class gs in
      rw (k, r) (joined (is_back b.fate) (groups_back gs (settle_chunks sh lim h ws b.class gs).fates))
    where
      joined : (t : Bool) (qs : List ℕ) → cond t (page_of g ∷ []) [] ++ qs ≡ cond t (page_of g ∷ qs) qs
      joined true qs = refl
      joined false qs = refl

-- ---- the answer
data Gives (gs : List ℕ) : Ask → Type 0 where
  gives-done : {r : Result} → r.gives ≡ groups_back gs (fates_in (length gs) r.answer) → Gives gs (done r)

gives-cond : (gs : List ℕ) (t : Bool) (p q : Ask) → Gives gs p → Gives gs q → Gives gs (cond t p q)
gives-cond gs true p q f g = f
gives-cond gs false p q f g = g

gives-refuse : (gs : List ℕ) (s : Class) (n : ℕ) → Gives gs (refuse s n)
gives-refuse [] s n = gives-done refl
gives-refuse (g ∷ gs) s n = gives-done refl

module _ (sh : Shape) (lim : Limits) (s : Class) (h : ℕ) (ws gs fs : List ℕ) where
  all-given : Gives gs (let b = settle_chunks sh lim h ws s gs in done (record { class = b.class; answer = Calls.fates (b.fates ++ drop (length gs) fs); gives = b.gives }))
  all-given =
      let b = settle_chunks sh lim h ws s gs in
      let t : take (length gs) (b.fates ++ drop (length gs) fs) ≡ b.fates = rw (sym (chunks-fated sh lim h ws gs s).many) (take-append_seam b.fates _) in
      gives-done (chunks-given sh lim h ws s gs ∙ ap (groups_back gs) (sym t))

  answer-gives : Gives gs (answer sh lim s (Calls.give_chunks h ws gs fs))
  unfolding answer release_chunks
  answer-gives = search (gives-cond, gives-refuse, all-given) depth 9

pub groups-give : (sh : Shape) (lim : Limits) (s : Class) → GroupsGive sh lim s
groups-give sh lim s = record { gives = λ h ws gs fs g. observed gs g (answer-gives sh lim s h ws gs fs) }
  where
    observed : (gs : List ℕ) (g : Option ℕ) {q : Ask} → Gives gs q → (serve q g).gives ≡ groups_back gs (fates_in (length gs) (serve q g).answer)
    observed gs g (gives-done k) = k
