-- The act of a group release in passes over the list and the chunks.
-- It ends as `settle_chunks` (calls, specs/Chunks) says, which goes chunk by chunk. A small class's run is one page, so that a block's
-- page is the one that has its granule.
--     cleared      the listed blocks are out no longer
--     push_all      the listed blocks back on their pages' stacks, the list's last first
--     place_at      where a chunk's page goes, once its blocks are back
--     place_all     the chunks in order
--     gives_in      the pages whose fate is the arena, retired, in the chunks' order
use Rattle.std.specs.Prelude.{ℕ, ◌+◌, true, List, [], ◌∷◌, ◌++◌}
use Rattle.words.specs.Word.{page_of}
use Rattle.classes.specs.declared.Shape.{Shape}
use Rattle.fields.specs.Field.{page, slot, out, free, virgin, get, put}
use Rattle.pages.specs.Stack.{index_of, page_at}
use Rattle.calls.specs.Release.{Released, placed}
use Rattle.calls.specs.Chunks.{gives_of, Settled}

unfoldable pub cleared : List ℕ → Shape → List ℕ → List ℕ
cleared b sh [] = b
cleared b sh (w ∷ ws) = cleared (put b (out (page_at w) (index_of sh (page_at w) w)) 0) sh ws

-- block i on the stack of page q
unfoldable pub push_one : List ℕ → ℕ → ℕ → List ℕ
push_one b q i = put (put b (slot q (get b (page free q))) i) (page free q) (get b (page free q) + 1)

unfoldable pub push_all : List ℕ → Shape → List ℕ → List ℕ
push_all b sh [] = b
push_all b sh (w ∷ ws) = push_one (push_all b sh ws) (page_at w) (index_of sh (page_at w) w)

unfoldable pub place_at : List ℕ → ℕ → Shape → ℕ → ℕ → Released
place_at b c sh h q = placed true (put b (page virgin q) 0) c sh h q

unfoldable pub place_all : List ℕ → ℕ → Shape → ℕ → List ℕ → Settled
place_all b c sh h [] = record { book = b; fates = []; gives = [] }
place_all b c sh h (g ∷ gs) =
    let r = place_at b c sh h (page_of g) in
    let s = place_all r.book c sh h gs in
    record { book = s.book; fates = r.fate ∷ s.fates; gives = gives_of (page_of g) r.fate ++ s.gives }

unfoldable pub gives_in : List ℕ → List ℕ → List ℕ
gives_in [] fs = []
gives_in (g ∷ gs) [] = []
gives_in (g ∷ gs) (f ∷ fs) = gives_of (page_of g) f ++ gives_in gs fs
