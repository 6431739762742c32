-- Releases by list, and what becomes of a page (document 01, "Blocks out and back").
use Rattle.std.specs.Prelude.{ℕ, List, [], ◌∷◌, ◌++◌, Bool, false, cond, not, eqb, length}
use Rattle.std.proofs.Math.Option.{Option, none, some}
use Rattle.facts.specs.Lists.{is_nil, filter, every, is_some, distinct}
use Rattle.words.specs.Word.{kind_of}
use Rattle.words.specs.Host.{discard_zeroed}
use Rattle.classes.specs.declared.Shape.{Shape}
use Rattle.rules.specs.declared.Limits.{Limits}
use Rattle.model.specs.declared.Destination.{Destination}
use Rattle.model.specs.declared.Destination.TheVariants.{ToEmpty, ToCold, ToArena}
use Rattle.model.specs.Calls.{fate}
use Rattle.model.specs.Page.{Page, is_out, none_out, returned, retire}
use Rattle.model.specs.Class.{Class, lists, Ask, done, refuse}
use Rattle.model.specs.Destination.{destination_of, fate_of, kept_fate, retired}

-- the first page of a list that passes a test, with what stands before and behind it
pub record Found : Type 0 where
  pub before : List Page
  pub page : Page
  pub behind : List Page

abbrev pub prepend : Page → Option Found → Option Found
prepend p none = none
prepend p (some f) = some (record { before = p ∷ f.before; page = f.page; behind = f.behind })

unfoldable pub find : (Page → Bool) → List Page → Option Found
find t [] = none
find t (p ∷ ps) = cond (t p) (some (record { before = []; page = p; behind = ps })) (prepend p (find t ps))

-- a page with blocks out: the class without it, and with another in its stead; a partial page keeps its place in the list, a full
-- one "heads the partial list"
pub record Site : Type 0 where
  pub page : Page
  pub without : Class
  pub with : Page → Class

unfoldable pub in_partial : Class → Found → Site
in_partial s f = record {
  page = f.page;
  without = lists (f.before ++ f.behind) s.empty s.cold s.full;
  with = λ p. lists (f.before ++ p ∷ f.behind) s.empty s.cold s.full;
}

unfoldable pub in_full : Class → Found → Site
in_full s f = record {
  page = f.page;
  without = lists s.partial s.empty s.cold (f.before ++ f.behind);
  with = λ p. lists (p ∷ s.partial) s.empty s.cold (f.before ++ f.behind);
}

abbrev pub or_else : Option Site → Option Site → Option Site
or_else none y = y
or_else (some x) y = some x

abbrev pub map_found : (Found → Site) → Option Found → Option Site
map_found g none = none
map_found g (some f) = some (g f)

unfoldable pub locate : (Page → Bool) → Class → Option Site
locate t s = or_else (map_found (in_partial s) (find t s.partial)) (map_found (in_full s) (find t s.full))

-- what comes of one page's release: the class, the page's fate, and the run if it goes to the arena
pub record Settled : Type 0 where
  pub class : Class
  pub fate : ℕ
  pub gives : List ℕ

abbrev pub park_empty : Shape → Class → Page → Settled
park_empty sh s p = record { class = lists s.partial (p ∷ s.empty) s.cold s.full; fate = fate_of sh ToEmpty; gives = [] }

abbrev pub park_cold : Shape → ℕ → Class → Page → Settled
park_cold sh h s p = record { class = lists s.partial s.empty (record { first = p.first; zeroed = discard_zeroed h } ∷ s.cold) s.full; fate = fate_of sh ToCold; gives = [] }

abbrev pub let_go : Shape → Class → Page → Settled
let_go sh s p = record { class = s; fate = fate_of sh ToArena; gives = p.first ∷ [] }

abbrev pub park_in : Shape → ℕ → Class → Page → Destination → Settled
park_in sh h s p ToEmpty = park_empty sh s p
park_in sh h s p ToCold = park_cold sh h s p
park_in sh h s p ToArena = let_go sh s p

abbrev pub destination_in : Shape → Limits → Class → Destination
destination_in sh lim s = destination_of sh lim (length s.empty) (length s.cold)

unfoldable pub park : Shape → Limits → ℕ → Class → Page → Settled
park sh lim h s p = park_in sh h s p (destination_in sh lim s)

abbrev pub set_retired : Settled → Settled
set_retired b = record { class = b.class; fate = retired b.fate; gives = b.gives }

-- blocks come back to a page: one with none out is parked, retired first if a chunk returned them all
unfoldable pub settle : Shape → Limits → ℕ → Bool → List ℕ → Site → Settled
settle sh lim h retires ws x =
    cond (none_out sh (returned ws x.page))
    (cond retires (set_retired (park sh lim h x.without (retire x.page))) (park sh lim h x.without (returned ws x.page)))
    (record { class = x.with (returned ws x.page); fate = kept_fate; gives = [] })

-- the tests of numbers 9, 15 and 10
unfoldable pub of_kind : ℕ → ℕ → Bool
of_kind k w = eqb (kind_of w) k

unfoldable pub out_here : Shape → Class → ℕ → Bool
out_here sh s w = is_some (locate (is_out sh w) s)

-- "a block out in this class stands twice in one list" (document 02, A.2)
unfoldable pub repeats : Shape → Class → List ℕ → Bool
repeats sh s ws = not (distinct (filter (out_here sh s) ws))

-- `release_blocks_with_tail`: numbers 7, 9, 15, 10, 11, each over the whole list
unfoldable pub on_page : Shape → Limits → ℕ → Class → List ℕ → Option Site → Ask
on_page sh lim h s ws none = refuse s 10
on_page sh lim h s ws (some x) =
    cond (every (λ w. is_out sh w x.page) ws)
    (let b = settle sh lim h false ws x in done (record { class = b.class; answer = fate b.fate; gives = b.gives }))
    (refuse s 11)

abbrev pub site_of_first : Shape → Class → List ℕ → Option Site
site_of_first sh s [] = none
site_of_first sh s (w ∷ ws) = locate (is_out sh w) s

unfoldable pub release_list : Shape → Limits → ℕ → Class → List ℕ → Ask
release_list sh lim h s ws =
    cond (is_nil ws) (refuse s 7)
    (cond (not (every (of_kind sh.kind) ws)) (refuse s 9)
    (cond (repeats sh s ws) (refuse s 15)
    (cond (not (every (out_here sh s) ws)) (refuse s 10)
    (on_page sh lim h s ws (site_of_first sh s ws)))))
