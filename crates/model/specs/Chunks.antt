-- Group releases (`release_bin_chunks`; a group is a chunk here), and one request of a class.
use Rattle.std.specs.Prelude.{ℕ, List, [], ◌∷◌, ◌++◌, map, Bool, true, false, cond, not, ◌&&◌, ◌||◌, eqb, ltb, length, drop}
use Rattle.std.proofs.Math.Option.{Option, none, some}
use Rattle.facts.specs.Lists.{is_nil, filter, every, elem, distinct}
use Rattle.words.specs.Word.{chunk_kind, count_of, page_of}
use Rattle.classes.specs.declared.Shape.{Shape}
use Rattle.rules.specs.declared.Limits.{Limits}
use Rattle.model.specs.Calls.{Request, take, give_back, give_chunks, fates}
use Rattle.model.specs.Page.{Page, is_out}
use Rattle.model.specs.Class.{Class, Ask, done, refuse, take_from}
use Rattle.model.specs.Release.{Site, Settled, locate, settle, of_kind, out_here, repeats, release_list}

-- "Groups exceed 2,056"
abbrev pub chunks_max : ℕ
chunks_max = 2056

abbrev pub starts_at : ℕ → Page → Bool
starts_at q p = eqb p.first q

-- a chunk's blocks: those of the list that are out on its page, in the list's order
unfoldable pub blocks_on : Shape → List ℕ → Page → List ℕ
blocks_on sh ws p = filter (λ w. is_out sh w p) ws

-- number 11, chunk by chunk: "a count 0 or not the list's"
abbrev pub fits_on : Shape → List ℕ → ℕ → Option Site → Bool
fits_on sh ws g none = false
fits_on sh ws g (some x) = not (eqb (count_of g) 0) && eqb (count_of g) (length (blocks_on sh ws x.page))

unfoldable pub chunk_fits : Shape → Class → List ℕ → ℕ → Bool
chunk_fits sh s ws g = fits_on sh ws g (locate (starts_at (page_of g)) s)

-- number 11, block by block: "a page missing"
abbrev pub chunked_on : List ℕ → Option Site → Bool
chunked_on gs none = false
chunked_on gs (some x) = elem x.page.first (map page_of gs)

unfoldable pub chunked : Shape → Class → List ℕ → ℕ → Bool
chunked sh s gs w = chunked_on gs (locate (is_out sh w) s)

-- "a group that returns all blocks its page has out retires it, so it is carved anew when used again; others keep the chain's order"
unfoldable pub settle_chunk : Shape → Limits → ℕ → Class → List ℕ → Option Site → Settled
settle_chunk sh lim h s ws none = record { class = s; fate = 0; gives = [] }
settle_chunk sh lim h s ws (some x) = settle sh lim h true (blocks_on sh ws x.page) x

pub record AllSettled : Type 0 where
  pub class : Class
  pub fates : List ℕ
  pub gives : List ℕ

-- "treats groups in order"
unfoldable pub settle_chunks : Shape → Limits → ℕ → List ℕ → Class → List ℕ → AllSettled
settle_chunks sh lim h ws s [] = record { class = s; fates = []; gives = [] }
settle_chunks sh lim h ws s (g ∷ gs) =
    let b = settle_chunk sh lim h s ws (locate (starts_at (page_of g)) s) in
    let r = settle_chunks sh lim h ws b.class gs in
    record { class = r.class; fates = b.fate ∷ r.fates; gives = b.gives ++ r.gives }

-- numbers 7 to 9, 15, 10, 11, each over both lists; "the fates stand in the groups' order and entries past them keep their content"
unfoldable pub release_chunks : Shape → Limits → ℕ → Class → List ℕ → List ℕ → List ℕ → Ask
release_chunks sh lim h s ws gs fs =
    cond (is_nil ws || is_nil gs) (refuse s 7)
    (cond (ltb chunks_max (length gs) || ltb (length fs) (length gs)) (refuse s 8)
    (cond (not (every (of_kind sh.kind) ws && every (of_kind chunk_kind) gs)) (refuse s 9)
    (cond (repeats sh s ws) (refuse s 15)
    (cond (not (every (out_here sh s) ws)) (refuse s 10)
    (cond (not (distinct (map page_of gs) && (every (chunk_fits sh s ws) gs && every (chunked sh s gs) ws))) (refuse s 11)
    (let b = settle_chunks sh lim h ws s gs in done (record { class = b.class; answer = fates (b.fates ++ drop (length gs) fs); gives = b.gives })))))))

-- one request of a class with these limits, from number 5 on
unfoldable pub answer : Shape → Limits → Class → Request → Ask
answer sh lim s (take h l) = cond (ltb (length l) sh.batch) (refuse s 5) (take_from sh l s.partial s.empty s.cold s.full)
answer sh lim s (give_back h ws) = release_list sh lim h s ws
answer sh lim s (give_chunks h ws gs fs) = release_chunks sh lim h s ws gs fs
