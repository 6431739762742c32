-- A class's runs, and which of them are clean, are what the history tells: one request, then every history.
use Rattle.facts.proofs.Prelude.{ℕ, ◌+◌, ◌-◌, ◌≤◌, arith, Bool, true, false, cond, not, ◌&&◌, ◌||◌, false≢true, List, [], ◌∷◌, ◌≡◌, refl}
use Rattle.facts.proofs.Prelude.{sym, ap, ◌∙◌, eqb, eqb-true, eqb-false, eq-eqb, ne_eqb, total, any, elem, count, by_cases, and_left, and_no}
use Rattle.words.specs.Host.{discard_zeroed}
use Rattle.classes.specs.declared.Shape.{Shape}
use Rattle.classes.specs.way.Sound.{Sound}
use Rattle.model.specs.Cover.{covers}
use Rattle.model.specs.Page.{Page, is_medium, is_out, carved_words, words_from, reused}
use Rattle.model.specs.Class.{Class, Cold, thawed}
use Rattle.model.specs.Release.{Site}
use Rattle.model.specs.Chunks.{starts_at}
use Rattle.model.specs.Ledger.{runs_with}
use Rattle.model.specs.Offered.{blocks_at, has_block, went_cold, went_back}
use Rattle.model.proofs.Counts.{elem-count, count_in_lem}
use Rattle.model.proofs.Runs.{covers_in, covers-le}
use Rattle.model.proofs.Pages.{on, begins_on, out-on, is-out, GoodPage, words-join, words-on}
use Rattle.model.proofs.Sites.{Once, SiteLaw}
use Rattle.model.proofs.Weights.{weigh, SiteWeight, cleaned, left_over}

-- the weights: every run, the clean ones, the others
abbrev pub each : Bool → ℕ
each v = 1

abbrev pub clean : Bool → ℕ
clean v = cond v 1 0

abbrev pub dirty : Bool → ℕ
dirty v = cond v 0 1

pub total-le : {A : Type 0} (f g : A → ℕ) (l : List A) → ((x : A) → f x ≤ g x) → total f l ≤ total g l
total-le f g [] h = omega arith
total-le f g (x ∷ l) h = omega (arith, h x, total-le f g l h)

totals_le : {A : Type 0} (f g h : A → ℕ) (l : List A) → ((x : A) → f x + g x ≤ h x) → total f l + total g l ≤ total h l
totals_le f g h [] k = omega arith
totals_le f g h (x ∷ l) k = omega (arith, k x, totals_le f g h l k)

pub and_yes : (b : Bool) → (b && true) ≡ b
and_yes true = refl
and_yes false = refl

-- one of a list that passes a test
pub record Passing (t : ℕ → Bool) (ws : List ℕ) : Type 0 where
  pub word : ℕ
  pub member : elem word ws ≡ true
  pub passes : t word ≡ true

pub any_passing : (t : ℕ → Bool) (ws : List ℕ) → any t ws ≡ true → Passing t ws
any_passing t [] e = absurd (false≢true e)
any_passing t (w ∷ ws) e =
    by_cases (t w)
    (λ a. record { word = w; member = rw (eq-eqb w w refl); passes = a })
    (λ a. let r = any_passing t ws (rw a at e) in record { word = r.word; member = by_cases (eqb r.word w) (λ b. rw b) (λ b. rw b r.member); passes = r.passes })

pub passing_any : (t : ℕ → Bool) (ws : List ℕ) (w : ℕ) → elem w ws ≡ true → t w ≡ true → any t ws ≡ true
passing_any t [] w m e = absurd (false≢true m)
passing_any t (x ∷ ws) w m e =
    by_cases (eqb w x)
    (λ b. rw (← eqb-true w x b, e))
    (λ b. by_cases (t x) (λ a. rw a) (λ a. rw a (passing_any t ws w (rw b at m) e)))

module _ (sh : Shape) (ok : Sound sh) where
  -- a block that is out on a page is one of its run's
  pub block_of : (w : ℕ) (p : Page) → GoodPage sh p → is_out sh w p ≡ true → elem w (blocks_at sh p.first) ≡ true
  unfolding is_out carved_words
  block_of w p good e =
      let a = elem-count w (words_from sh p.first 0 p.carved) (and_left _ _ e) in
      let j = words-join sh ok p.first p.carved (sh.capacity - p.carved) w in
      let c : p.carved + (sh.capacity - p.carved) ≡ sh.capacity = omega (arith, good.within) in
      let j' : count w (blocks_at sh p.first) ≡ _ = rw c at j in
      count_in_lem w (blocks_at sh p.first) (omega arith)

  pub block_on : (w q : ℕ) → elem w (blocks_at sh q) ≡ true → covers sh.pages q (begins_on sh ok w) ≡ 1
  block_on w q e = omega (arith, covers-le sh.pages q (begins_on sh ok w), words-on sh ok q sh.capacity w (omega arith), elem-count w (blocks_at sh q) e)

  module _ (q : ℕ) where
    -- the runs that begin at q have the pages of the run there
    pub at-le : (z f : ℕ) → covers sh.pages q z ≡ 1 → cond (eqb f q) 1 0 ≤ covers sh.pages f z
    at-le z f c = by_cases (eqb f q) (λ e. rw e (omega (arith, ap (λ n. covers sh.pages n z) (eqb-true f q e)))) (λ e. rw e (omega arith))

    pub weigh-on : (s : Class) (z : ℕ) → covers sh.pages q z ≡ 1 → weigh sh q each s ≤ runs_with sh z s
    weigh-on s z c =
        omega (
          arith,
          total-le _ (on sh z) s.partial (λ (p : Page). at-le z p.first c),
          total-le _ (on sh z) s.full (λ (p : Page). at-le z p.first c),
          total-le _ (on sh z) s.empty (λ (p : Page). at-le z p.first c),
          total-le _ (λ (p : Cold). covers sh.pages p.first z) s.cold (λ (p : Cold). at-le z p.first c),
        )

    -- two runs that have a page in common are one
    two-le : (q' z f : ℕ) → eqb q q' ≡ false → covers sh.pages q z ≡ 1 → covers sh.pages q' z ≡ 1 → cond (eqb f q) 1 0 + cond (eqb f q') 1 0 ≤ covers sh.pages f z
    two-le q' z f n c c' =
        by_cases (eqb f q)
        (λ e. rw (e, ne_eqb f q' (λ p. eqb-false q q' n (sym (eqb-true f q e) ∙ p))) (omega (arith, ap (λ m. covers sh.pages m z) (eqb-true f q e))))
        (λ e. by_cases (eqb f q') (λ d. rw (e, d) (omega (arith, ap (λ m. covers sh.pages m z) (eqb-true f q' d)))) (λ d. rw (e, d) (omega arith)))

    pub two_runs : (s : Class) → Once sh s → (q' z : ℕ) → covers sh.pages q z ≡ 1 → covers sh.pages q' z ≡ 1 → 1 ≤ weigh sh q each s → 1 ≤ weigh sh q' each s → q ≡ q'
    two_runs s one q' z c c' n n' =
        by_cases (eqb q q') (eqb-true q q')
        (λ e. absurd (omega (
          arith,
          one z,
          totals_le _ _ (on sh z) s.partial (λ (p : Page). two-le q' z p.first e c c'),
          totals_le _ _ (on sh z) s.full (λ (p : Page). two-le q' z p.first e c c'),
          totals_le _ _ (on sh z) s.empty (λ (p : Page). two-le q' z p.first e c c'),
          totals_le _ _ (λ (p : Cold). covers sh.pages p.first z) s.cold (λ (p : Cold). two-le q' z p.first e c c'),
        )))

    pub weigh-once : (s : Class) → Once sh s → weigh sh q each s ≤ 1
    weigh-once s one = omega (arith, weigh-on s q (covers_in sh.pages q q (omega arith) (omega (arith, ok.paged))), one q)

    -- a word of the run at q is out on no page but that run's
    pub one-run : (s : Class) (x : Site) → SiteLaw sh s x → SiteWeight sh q each s x → Once sh s
        → (w : ℕ) → is_out sh w x.page ≡ true → elem w (blocks_at sh q) ≡ true → 1 ≤ weigh sh q each s → starts_at q x.page ≡ true
    one-run s x law weight one w out b n =
        by_cases (starts_at q x.page) (λ e. e)
        (λ e. let y : weigh sh q each x.without + 0 ≡ weigh sh q each s = rw e at weight.rest in
        let z = begins_on sh ok w in
        absurd (omega (arith, weigh-on x.without z (block_on w q b), is-out sh ok w x.page out, out-on sh ok w x.page law.page, law.pages-rest z, one z)))

    -- what the history tells of the run at q: whether the class has it, and whether it is clean
    pub record Counted (s : Class) (h b : Bool) : Type 0 where
      pub runs : weigh sh q each s ≡ cond h 1 0
      pub cleans : weigh sh q clean s ≡ cond (h && b) 1 0

    two : (l : List Page) (f : Page → Bool) → total (λ p. cond (starts_at q p) (clean (f p)) 0) l + total (λ p. cond (starts_at q p) (dirty (f p)) 0) l ≡ total (λ p. cond (starts_at q p) 1 0) l
    two [] f = refl
    two (p ∷ l) f =
        let ih = two l f in
        by_cases (starts_at q p) (λ e. by_cases (f p) (λ a. rw (e, a) (omega arith)) (λ a. rw (e, a) (omega arith))) (λ e. rw e (omega arith))

    two-cold : (l : List Cold) (f : Cold → Bool) → total (λ (p : Cold). cond (eqb p.first q) (clean (f p)) 0) l + total (λ (p : Cold). cond (eqb p.first q) (dirty (f p)) 0) l ≡ total (λ (p : Cold). cond (eqb p.first q) 1 0) l
    two-cold [] f = refl
    two-cold (p ∷ l) f =
        let ih = two-cold l f in
        by_cases (eqb p.first q) (λ e. by_cases (f p) (λ a. rw (e, a) (omega arith)) (λ a. rw (e, a) (omega arith))) (λ e. rw e (omega arith))

    pub weigh-parts : (s : Class) → weigh sh q clean s + weigh sh q dirty s ≡ weigh sh q each s
    weigh-parts s =
        omega (
          arith,
          two s.partial (λ p. p.virgin),
          two s.full (λ p. p.virgin),
          two s.empty (λ p. (reused sh p).virgin),
          two-cold s.cold (λ c. (thawed sh c).virgin),
        )

    -- a release: it leaves the run at q alone, or it has blocks of it and answers a fate for it; u tells the fate
    pub data Back (h : ℕ) (s : Class) (ws : List ℕ) (u : (ℕ → Bool) → Bool) (s' : Class) : Type 0 where
      apart : (1 ≤ weigh sh q each s → (has_block sh q ws ≡ false) × ((t : ℕ → Bool) → u t ≡ false)) → ((k : Bool → ℕ) → weigh sh q k s' ≡ weigh sh q k s) → Back h s ws u s'
      met : has_block sh q ws ≡ true → (v : ℕ) (b : Bool) → ((t : ℕ → Bool) → u t ≡ t v) → ((k : Bool → ℕ) → weigh sh q k s' + k b ≡ weigh sh q k s + left_over sh h k v) → ((k : Bool → ℕ) → k b ≤ weigh sh q k s) → Back h s ws u s'

    module _ (h : ℕ) (s : Class) (ws : List ℕ) (u : (ℕ → Bool) → Bool) (s' : Class) where
      abbrev zeroed : Bool
      zeroed = discard_zeroed h && not (is_medium sh)

      abbrev Next : Bool → Bool → Type 0
      Next a b = Counted s' (a && not (u went_back)) ((u went_cold && zeroed) || (b && not (has_block sh q ws)))

      pub counted_back : (a b : Bool) → Counted s a b → Back h s ws u s' → Next a b
      counted_back false b c (apart e w) = record { runs = w each ∙ c.runs; cleans = w clean ∙ c.cleans }
      counted_back true b c (apart e w) =
          let z = e (omega (arith, c.runs)) in
          record { runs = rw (z.1 went_back) (w each ∙ c.runs); cleans = rw (z.1 went_back, z.1 went_cold, z.0) (rw (and_yes b) (w clean ∙ c.cleans)) }
      counted_back false b c (met m v d t w l) = absurd (omega (arith, l each, c.runs))
      counted_back true b c (met m v d t w l) =
          by_cases (went_back v)
          (λ e. let r : weigh sh q each s' + 1 ≡ weigh sh q each s + 0 = rw e at (w each) in
          record { runs = rw (t went_back, e) (omega (arith, c.runs)); cleans = rw (t went_back, e) (omega (arith, c.runs, weigh-parts s')) })
          (λ e. let r : weigh sh q each s' + 1 ≡ weigh sh q each s + 1 = rw e at (w each) in
          let f : weigh sh q clean s' + clean d ≡ weigh sh q clean s + clean (cleaned sh h v) = rw e at (w clean) in
          record {
            runs = rw (t went_back, e) (omega (arith, c.runs));
            cleans = rw (t went_back, t went_cold, m, e, and_no b) (or_no (cleaned sh h v) (was d f (l clean) (l dirty)));
          })
        where
          or_no : (x : Bool) → weigh sh q clean s' ≡ clean x → weigh sh q clean s' ≡ cond (x || false) 1 0
          or_no true e = e
          or_no false e = e

          was : (d : Bool) {x : ℕ} → weigh sh q clean s' + clean d ≡ weigh sh q clean s + x → clean d ≤ weigh sh q clean s → dirty d ≤ weigh sh q dirty s → weigh sh q clean s' ≡ x
          was true f p n = omega (arith, c.runs, weigh-parts s)
          was false f p n = omega (arith, c.runs, weigh-parts s)
