-- A block is out in a class exactly if it is an entry of the class not yet released, and a release that is not refused has no other
-- word.
use Rattle.facts.proofs.Prelude.{ℕ, arith, Bool, true, false, cond, not, ◌&&◌, ◌||◌, true≢false, List, [], Option}
use Rattle.facts.proofs.Prelude.{some, ◌≡◌, refl, ltb, length, not-false, is_nil, every, distinct, by_cases}
use Rattle.words.specs.Host.{bad_host}
use Rattle.words.specs.Word.{chunk_kind}
use Rattle.classes.specs.declared.Shape.{Shape}
use Rattle.classes.specs.Shape.{shape_of}
use Rattle.classes.proofs.Shapes.{shape-sound}
use Rattle.rules.specs.declared.Limits.{Limits}
use Rattle.rules.specs.Rules.{Rules}
use Rattle.model.specs.Calls.{Call, Named, names, host_in, way_of, Request, take, give_back, give_chunks, list_of, host_of, is_refused}
use Rattle.model.specs.Class.{Class, Ask, serve, refuse}
use Rattle.model.specs.Release.{of_kind, out_here, repeats, release_list}
use Rattle.model.specs.Chunks.{chunks_max, answer, release_chunks}
use Rattle.model.specs.Heap.{offer, finish, interact, class_call, step}
use Rattle.model.specs.History.{events, heap_after}
use Rattle.model.specs.Entries.{OutIn, AllOut}
use Rattle.model.specs.Demands.{Outs}
use Rattle.model.proofs.Counts.{elem-count, every-count, each-once}
use Rattle.model.proofs.Fold.{live_from, live_in, in_live}
use Rattle.model.proofs.EntryCounts.{is, is_self, in_total, counted}
use Rattle.model.proofs.Sites.{here_out, out-here}
use Rattle.model.proofs.HeapLaws.{kept}

-- a request that is not refused passed its tests, those of numbers 15 and 10 too
record Passed (b : Bool) (q : Ask) (g : Option ℕ) : Type 0 where
  not_so : b ≡ false
  on : is_refused (serve q g).answer ≡ false

passed : (s : Class) (n : ℕ) (b : Bool) (q : Ask) (g : Option ℕ) → is_refused (serve (cond b (refuse s n) q) g).answer ≡ false → Passed b q g
passed s n true q g u = absurd (true≢false u)
passed s n false q g u = record { not_so = refl; on = u }

record Tested (sh : Shape) (s : Class) (ws : List ℕ) : Type 0 where
  out : every (out_here sh s) ws ≡ true
  once : distinct ws ≡ true

module _ (sh : Shape) (lim : Limits) (s : Class) (g : Option ℕ) where
  out-tested : (ws : List ℕ) (q : Ask) → is_refused (serve (cond (repeats sh s ws) (refuse s 15) (cond (not (every (out_here sh s) ws)) (refuse s 10) q)) g).answer ≡ false → Tested sh s ws
  unfolding repeats
  out-tested ws q u =
      let p15 = passed s 15 (repeats sh s ws) _ g u in
      let o = not-false (every (out_here sh s) ws) (passed s 10 (not (every (out_here sh s) ws)) q g p15.on).not_so in
      record { out = o; once = each-once (out_here sh s) ws p15.not_so o }

  list-tested : (h : ℕ) (ws : List ℕ) → is_refused (serve (answer sh lim s (give_back h ws)) g).answer ≡ false → Tested sh s ws
  unfolding answer release_list
  list-tested h ws u =
      let p7 = passed s 7 (is_nil ws) _ g u in
      let p9 = passed s 9 (not (every (of_kind sh.kind) ws)) _ g p7.on in
      out-tested ws _ p9.on

  chunks-tested : (h : ℕ) (ws gs fs : List ℕ) → is_refused (serve (answer sh lim s (give_chunks h ws gs fs)) g).answer ≡ false → Tested sh s ws
  unfolding answer release_chunks
  chunks-tested h ws gs fs u =
      let p7 = passed s 7 (is_nil ws || is_nil gs) _ g u in
      let p8 = passed s 8 (ltb chunks_max (length gs) || ltb (length fs) (length gs)) _ g p7.on in
      let p9 = passed s 9 (not (every (of_kind sh.kind) ws && every (of_kind chunk_kind) gs)) _ g p8.on in
      out-tested ws _ p9.on

  tested : (a : Request) → is_refused (serve (answer sh lim s a) g).answer ≡ false → Tested sh s (list_of a)
  tested (take h l) u = record { out = refl; once = refl }
  tested (give_back h ws) u = list-tested h ws u
  tested (give_chunks h ws gs fs) u = chunks-tested h ws gs fs u

module _ (size : ℕ) (rules : Rules) (xs : List Call) where
  abbrev class : ℕ → Class
  class c = (heap_after size rules xs).classes c

  out-observed : (c w : ℕ) → out_here (shape_of c) (class c) w ≡ true → OutIn (events size rules xs) c w
  out-observed c w e =
      let k = kept size rules xs in
      let o = here_out (shape_of c) (shape-sound c) (class c) (k.inv.good c) w e in
      let r = counted c w (live_from 0 [] (events size rules xs)) (omega (arith, k.inv.outs c w)) in
      record { entry = r.entry; live = in_live r.entry (events size rules xs) r.member; class = r.of_class_lem; word = r.of_word }

  observed-out : (c w : ℕ) → OutIn (events size rules xs) c w → out_here (shape_of c) (class c) w ≡ true
  observed-out c w o =
      let k = kept size rules xs in
      let e = o.entry in
      let m = in_total (is c w) e (live_from 0 [] (events size rules xs)) (live_in 0 e [] (events size rules xs) o.live) in
      let one : is c w e ≡ 1 = rw (← o.class, ← o.word) (is_self e) in
      out-here (shape_of c) (shape-sound c) (class c) (k.inv.good c) w (omega (arith, k.inv.outs c w))

  release-observed : (x : Call) (d : Named) → names x ≡ some d → is_refused (step size (heap_after size rules xs) x).answer ≡ false → AllOut (events size rules xs) d.class (list_of d.request)
  unfolding step way_of class_call interact finish
  release-observed x d e u =
      by_cases (bad_host (host_in x)) (λ h. absurd (true≢false (rw h at u))) λ h.
      let c = d.class in
      let ws = list_of d.request in
      let q = answer (shape_of c) ((heap_after size rules xs).rules c) (class c) d.request in
      let t = tested (shape_of c) ((heap_after size rules xs).rules c) (class c) (offer size (host_of d.request) (heap_after size rules xs).arena q).run d.request (rw (h, e) at u) in
      record {
        out = λ w m. out-observed c w (every-count (out_here (shape_of c) (class c)) w ws t.out (elem-count w ws m));
        once = t.once;
      }

  pub outs : Outs size rules xs
  outs = record { out = λ c w. (out-observed c w, observed-out c w); released = release-observed }
