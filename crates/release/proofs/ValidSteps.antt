-- The ways out of number 13's tests.
use Rattle.facts.proofs.Prelude.{ℕ, ◌+◌, ◌-◌, ◌*◌, ◌≤◌, ◌<◌, arith, mul-le-mul, add-one, Bool, true, false, ◌&&◌, and-false, List, not, not-true, not-false}
use Rattle.facts.proofs.Prelude.{◌≡◌, sym, ◌∙◌, leb, le-leb, lt-leb, lt-ltb, le-ltb, eq-eqb, ne_eqb, leb-true, and_left, and_right}
use Rattle.std.proofs.Common.{w32, Fits}
use Rattle.classes.specs.declared.Shape.{Shape}
use Rattle.rules.specs.declared.Limits.{Limits}
use Rattle.rules.specs.Rules.{limits, Fit}
use Rattle.fields.specs.Field.{arena, class, page, frontier, partial, empty_limit, cold_limit, free, carved, listed, get}
use Rattle.fields.specs.Ranges.{max_parked, head_valid}
use Rattle.model.specs.declared.Destination.{Destination}
use Rattle.model.specs.declared.Destination.TheVariants.{ToEmpty, ToCold, ToArena}
use Rattle.model.specs.Destination.{keeps_empty, destination_of}
use Rattle.arena.specs.Valid.{give_valid}
use Rattle.pages.specs.declared.Park.{Park}
use Rattle.pages.specs.declared.Park.TheVariants.{Empty, Cold}
use Rattle.pages.specs.Links.{top, stored}
use Rattle.pages.specs.Valid.{header_valid, links_valid, store_valid, limits_at, limits_valid}
use Rattle.pages.proofs.ValidLaws.{carved-low, room-left}
use Rattle.calls.specs.Release.{page_valid, row_valid, destination_at, destination_valid, release_valid}
use Rattle.release.specs.way.Valid.{ValidPre, DestinationValidPre}

-- ---- a page
module _ (b : List ℕ) (sh : Shape) (m q : ℕ) where
  module _ (e : page_valid b sh m q ≡ true) where
    header_valid_lem : header_valid b sh m q ≡ true
    unfolding page_valid
    header_valid_lem = and_left (header_valid b sh m q) _ e

    pub links-valid : links_valid b q ≡ true
    unfolding page_valid
    links-valid = and_right (leb (get b (page listed q)) 1) _ (and_right (header_valid b sh m q) _ e)

    pub page-room : get b (page free q) + m ≤ get b (page carved q)
    page-room = room-left b sh m q header_valid_lem

    pub page-carved : get b (page carved q) ≤ sh.capacity
    page-carved = carved-low b sh m q header_valid_lem

  module _ (r : Bool) (e : r ≡ header_valid b sh m q) where
    pub no_header : r ≡ false → false ≡ page_valid b sh m q
    unfolding page_valid
    no_header h = rw (← e, h)

    module _ (x : ℕ) (h : r ≡ true) (k : x ≡ get b (page listed q)) where
      pub no_flag : 1 < x → false ≡ page_valid b sh m q
      unfolding page_valid
      no_flag l = rw (← e, h, ← k, lt-leb x 1 l)

      pub links-last : (t : Bool) → x ≤ 1 → t ≡ links_valid b q → t ≡ page_valid b sh m q
      unfolding page_valid
      links-last t l j = rw (← e, h, le-leb (get b (page listed q)) 1 (omega (arith, k))) j

-- ---- a row
module _ (b : List ℕ) (c : ℕ) where
  stores_valid : row_valid b c ≡ true → (store_valid b c Empty && (store_valid b c Cold && limits_valid b c)) ≡ true
  unfolding row_valid
  stores_valid e = and_right (leb (get b (class partial c)) (get b (arena frontier))) _ e

  count_of : (p : Park) → store_valid b c p ≡ true → get b (class (stored p) c) ≤ max_parked
  count_of p e = leb-true (get b (class (stored p) c)) max_parked (and_right (leb (get b (class (top p) c)) (get b (arena frontier))) _ e)

  pub count_low : (p : Park) → row_valid b c ≡ true → get b (class (stored p) c) ≤ max_parked
  count_low Empty e = count_of Empty (and_left (store_valid b c Empty) _ (stores_valid e))
  count_low Cold e = count_of Cold (and_left (store_valid b c Cold) _ (and_right (store_valid b c Empty) _ (stores_valid e)))

  pub limits-low : row_valid b c ≡ true → Fit (limits_at b c)
  limits-low e =
      let l = and_right (store_valid b c Cold) _ (and_right (store_valid b c Empty) _ (stores_valid e)) in
      record {
        empty = leb-true (get b (class empty_limit c)) max_parked (and_left (leb (get b (class empty_limit c)) max_parked) _ l);
        cold = leb-true (get b (class cold_limit c)) max_parked (and_right (leb (get b (class empty_limit c)) max_parked) _ l);
      }

  pub head-low : row_valid b c ≡ true → get b (class partial c) ≤ get b (arena frontier)
  unfolding row_valid
  head-low e = leb-true (get b (class partial c)) (get b (arena frontier)) (and_left _ _ e)

  module _ (x f : ℕ) (e : x ≡ get b (class partial c)) (u : f ≡ get b (arena frontier)) where
    pub far-partial : f < x → false ≡ row_valid b c
    unfolding row_valid
    far-partial h = rw (← e, ← u, lt-leb x f h)

    pub no-empty : (r : Bool) → r ≡ store_valid b c Empty → r ≡ false → false ≡ row_valid b c
    unfolding row_valid
    no-empty r k h = rw (← k, h) (simp and-false)

    pub no-cold : (r s : Bool) → r ≡ store_valid b c Empty → r ≡ true → s ≡ store_valid b c Cold → s ≡ false → false ≡ row_valid b c
    unfolding row_valid
    no-cold r s k h j i = rw (← k, h, ← j, i) (simp and-false)

    pub limits-last : (r s t : Bool) → x ≤ f → r ≡ store_valid b c Empty → r ≡ true → s ≡ store_valid b c Cold → s ≡ true → t ≡ limits_valid b c → t ≡ row_valid b c
    unfolding row_valid
    limits-last r s t l k h j i m = rw (← k, h, ← j, i, ← m, ← e, ← u, le-leb x f l)

  module _ (x : ℕ) (e : x ≡ get b (class empty_limit c)) where
    pub high-empty : max_parked < x → false ≡ limits_valid b c
    high-empty h = rw (← e, lt-leb x max_parked h)

    pub limits-there : (y : ℕ) → y ≡ get b (class cold_limit c) → limits x y ≡ limits_at b c
    limits-there y k = rw (e, k)

    pub limits-told : (y : ℕ) → x ≤ max_parked → y ≡ get b (class cold_limit c) → leb y max_parked ≡ limits_valid b c
    limits-told y h k = rw (← e, ← k, le-leb x max_parked h)

-- ---- where a page with none out goes
pub destination-fits : (e p : ℕ) → e ≤ max_parked → p ≤ 8 → Fits w32 ((e + 1) * p)
destination-fits e p h l =
    let m : (e + 1) * p ≤ 257 * 8 = mul-le-mul {n₁ = e + 1} {n₂ = 257} (omega arith) l in
    record { fits = omega arith }

module _ (sh : Shape) (lim : Limits) (e : ℕ) where
  pub many-empty : lim.empty ≤ e → false ≡ keeps_empty sh lim e
  many-empty h = rw (le-ltb e lim.empty h)

  pub pages-left : e < lim.empty → leb ((e + 1) * sh.pages) sh.emptypages ≡ keeps_empty sh lim e
  pages-left h = rw (lt-ltb e lim.empty h, add-one e)

  module _ (r : Bool) (x : r ≡ keeps_empty sh lim e) (k : ℕ) where
    pub destination-empty : r ≡ true → ToEmpty ≡ destination_of sh lim e k
    unfolding destination_of
    destination-empty h = rw (← x, h)

    pub destination-cold : r ≡ false → k < lim.cold → ToCold ≡ destination_of sh lim e k
    unfolding destination_of
    destination-cold h l = rw (← x, h, lt-ltb k lim.cold l)

    pub destination-arena : r ≡ false → lim.cold ≤ k → ToArena ≡ destination_of sh lim e k
    unfolding destination_of
    destination-arena h l = rw (← x, h, le-ltb k lim.cold l)

pub destination-there : (b : List ℕ) (c : ℕ) (sh : Shape) (lim : Limits) (x y : ℕ) → lim ≡ limits_at b c → x ≡ get b (class (stored Empty) c) → y ≡ get b (class (stored Cold) c) → (r : Destination) → r ≡ destination_of sh lim x y → r ≡ destination_at b c sh
destination-there b c sh lim x y l e k r h = h ∙ rw (l, e, k)

pub empties-low : (b : List ℕ) (c x : ℕ) → x ≡ get b (class (stored Empty) c) → row_valid b c ≡ true → x ≤ max_parked
empties-low b c x e h = rw e (count_low b c Empty h)

-- ---- the give, and all tests
module _ (n : ℕ) (b : List ℕ) (c : ℕ) (sh : Shape) (m q : ℕ) where
  module _ (a : DestinationValidPre b c sh m q) (x y : ℕ) (j : x ≡ get b (page carved q)) (k : y ≡ get b (page free q)) where
    room : y + m ≤ x
    room = rw (j, k) (page-room b sh m q a.page)

    pub out-fits : y ≤ x
    out-fits = omega (arith, room)

    pub not_last : (x - y ≡ m → ⊥) → true ≡ destination_valid n b c sh m q
    unfolding destination_valid
    not_last d = rw (← j, ← k, ne_eqb (y + m) x (λ z. d (omega arith)))

    pub give-last : (r : Destination) (t : Bool) → x - y ≡ m → r ≡ destination_at b c sh → r ≡ ToArena → t ≡ give_valid n b sh.pages → t ≡ destination_valid n b c sh m q
    unfolding destination_valid
    give-last r t d e h g = rw (← j, ← k, eq-eqb (y + m) x (omega (arith, room)), ← e, h) g

  pub kept-empty : (r : Destination) → r ≡ destination_at b c sh → r ≡ ToEmpty → true ≡ destination_valid n b c sh m q
  unfolding destination_valid
  kept-empty r e h = rw (← e, h) (simp and-false)

  pub kept-cold : (r : Destination) → r ≡ destination_at b c sh → r ≡ ToCold → true ≡ destination_valid n b c sh m q
  unfolding destination_valid
  kept-cold r e h = rw (← e, h) (simp and-false)

  module _ (f : Bool) (e : f ≡ head_valid n b) where
    pub wrong-head : not f ≡ true → false ≡ release_valid n b c sh m q
    unfolding release_valid
    wrong-head h = rw (← e, not-true f h)

    module _ (p : Bool) (j : p ≡ page_valid b sh m q) where
      pub no-page : p ≡ false → false ≡ release_valid n b c sh m q
      unfolding release_valid
      no-page h = rw (← j, h) (simp and-false)

      module _ (r : Bool) (h : p ≡ true) (k : r ≡ row_valid b c) where
        pub no_row : r ≡ false → false ≡ release_valid n b c sh m q
        unfolding release_valid
        no_row l = rw (← k, l) (simp and-false)

        pub destination-last : (t : Bool) → not f ≡ false → r ≡ true → t ≡ destination_valid n b c sh m q → t ≡ release_valid n b c sh m q
        unfolding release_valid
        destination-last t i l g = rw (← e, not-false f i, ← j, h, ← k, l) g

pub destination-pre : (b : List ℕ) (c : ℕ) (sh : Shape) (m q : ℕ) → ValidPre b c sh q → (p r : Bool) → p ≡ page_valid b sh m q → p ≡ true → r ≡ row_valid b c → r ≡ true → DestinationValidPre b c sh m q
destination-pre b c sh m q a p r j h k l = record { run = a; page = sym j ∙ h; row = sym k ∙ l }
