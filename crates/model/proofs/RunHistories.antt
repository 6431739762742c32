-- After every history, the runs of a class and the clean ones among them are those that the history tells.
use Rattle.facts.proofs.Prelude.{ℕ, suc, arith, Bool, false, List, [], ◌∷◌, Option, none, some, ◌≡◌, refl, sym, subst, eqb, eqb-false, eq-eqb, ne_eqb, and_no}
use Rattle.classes.specs.Shape.{shape_of}
use Rattle.classes.proofs.Shapes.{shape-sound}
use Rattle.rules.specs.Rules.{Rules}
use Rattle.model.specs.Calls as Calls
use Rattle.model.specs.Calls.{Call, Answer, Named, names, Request, Way, way_of, host_of}
use Rattle.model.specs.Class.{Class, Ask, serve}
use Rattle.model.specs.Chunks.{answer}
use Rattle.model.specs.Heap.{Heap, new_heap, run_with, asked, offer, finish, interact, class_call, direct_call, route, step}
use Rattle.model.specs.History.{Event, event_of, events_from, events, heap_from, heap_after, is_of}
use Rattle.model.specs.Entries.{Entry}
use Rattle.model.specs.Offered.{went_back, went_cold, fated, zeroes, has_block, has_request, starts_run, gets, releases_to, yields_up, renews}
use Rattle.model.proofs.Ways.{Goes, is_turned, is-straight, is-class, goes}
use Rattle.model.proofs.Update.{update_same}
use Rattle.model.proofs.Alone.{direct-keeps}
use Rattle.model.proofs.Accounts.{held-le}
use Rattle.model.proofs.Sites.{Once, GoodClass}
use Rattle.model.proofs.HeapLaws.{Inv, at-class, step-inv, start}
use Rattle.model.proofs.Yields.{AllListed, route-listed}
use Rattle.model.proofs.Since.{since_next, since_from}
use Rattle.model.proofs.RunsObserved.{Counted, and_yes}
use Rattle.model.proofs.RunRequests.{got_at, Follow, Follows, follows-done, follows-asks, answer-follows, unfated}

-- every class, every page: does the class have a run there, is it clean
abbrev pub Tellings : Type 0
Tellings = ℕ → ℕ → Bool

pub record RunsAre (H : Heap) (hs bs : Tellings) : Type 0 where
  pub counted : (c q : ℕ) → Counted (shape_of c) (shape-sound c) q (H.classes c) (hs c q) (bs c q)

abbrev has_after : Event → Tellings → Tellings
has_after v hs = λ c q. since_next (gets c q) (yields_up c q) (hs c q) v

abbrev clean_after : Event → Tellings → Tellings
clean_after v bs = λ c q. since_next (renews c q) (releases_to c q) (bs c q) v

-- an event tells nothing of the run at q if none of the tests passes
silent : (c q : ℕ) (C : Class) (h b : Bool) (v : Event) → gets c q v ≡ false → yields_up c q v ≡ false → has_request c (zeroes (shape_of c) q) (names v.call) v.answer ≡ false → releases_to c q v ≡ false
    → Counted (shape_of c) (shape-sound c) q C h b → Counted (shape_of c) (shape-sound c) q C (since_next (gets c q) (yields_up c q) h v) (since_next (renews c q) (releases_to c q) b v)
silent c q C h b v g u z t k = rw (g, u, z, t, and_yes h, and_yes b) k

pub refused-request : (c : ℕ) (t : Request → Answer → Bool) (nm : Option Named) (n : ℕ) → ((r : Request) → t r (Calls.refused n) ≡ false) → has_request c t nm (Calls.refused n) ≡ false
refused-request c t none n h = refl
refused-request c t (some d) n h = rw (h d.request) (and_no (eqb d.class c))

untouched : (c q n : ℕ) (r : Request) → has_block (shape_of c) q (Calls.released_by r (Calls.refused n)) ≡ false
unfolding has_block
untouched c q n r = refl

starts_got : (q n : ℕ) (g : Option ℕ) → starts_run q (run_with n g) ≡ got_at q g
starts_got q n none = refl
starts_got q n (some r) = refl

-- a request, offered what the arena gives
offered : (c q : ℕ) (H : Heap) (size h : ℕ) (a : Request) (x : Ask) → Follows (shape_of c) (shape-sound c) (H.rules c) q (H.classes c) a x
    → Follow (shape_of c) (shape-sound c) (H.rules c) q (H.classes c) a (offer size h H.arena x).run (serve x (offer size h H.arena x).run)
unfolding offer
offered c q H size h a x (follows-done f) = f
offered c q H size h a x (follows-asks f) = f _

abbrev pub AllOnce : Heap → Type 0
AllOnce H = (c : ℕ) → Once (shape_of c) (H.classes c)

pub inv-once : (size n : ℕ) (H : Heap) (es : List Entry) (f : ℕ → Bool) (l : ℕ → ℕ) → Inv size n H es f l → AllOnce H
inv-once size n H es f l inv c y = omega (arith, inv.mine c y, held-le c (H.holder y), inv.one y)

module _ (size : ℕ) (H : Heap) (good : (c : ℕ) → GoodClass (shape_of c) (H.classes c)) (one : AllOnce H) (listed : AllListed H) (hs bs : Tellings) (k : RunsAre H hs bs) where
  -- a class's call
  module _ (x : Call) (d : Named) (e : names x ≡ some d) (once : AllOnce (class_call size H d.class d.request).heap) where
    abbrev now : Event
    now = event_of x (class_call size H d.class d.request)

    abbrev ask : Ask
    ask = answer (shape_of d.class) (H.rules d.class) (H.classes d.class) d.request

    abbrev given : Option ℕ
    given = (offer size (host_of d.request) H.arena ask).run

    own : (q : ℕ) → Counted (shape_of d.class) (shape-sound d.class) q (serve ask given).class (has_after now hs d.class q) (clean_after now bs d.class q)
    unfolding class_call interact finish
    own q =
        let c = d.class in
        let r = d.request in
        let o : Once (shape_of c) (serve ask given).class = subst (Once (shape_of c)) (update_same H.classes c (serve ask given).class) (once c) in
        rw (e, eq-eqb c c refl, starts_got q (asked ask) given)
        ((offered c q H size (host_of r) r ask (answer-follows (shape_of c) (shape-sound c) (H.rules c) q (H.classes c) (good c) (one c) (listed c) r)).follow o (hs c q) (bs c q) (k.counted c q))

    others : (c q : ℕ) → eqb c d.class ≡ false → Counted (shape_of c) (shape-sound c) q (H.classes c) (has_after now hs c q) (clean_after now bs c q)
    others c q n =
        let m = ne_eqb d.class c (λ p. eqb-false c d.class n (sym p)) in
        silent c q (H.classes c) (hs c q) (bs c q) now (rw (e, m)) (rw (e, m)) (rw (e, m)) (rw (e, m)) (k.counted c q)

  route-observed : (x : Call) {w : Way} → Goes x w → AllOnce (route size H x w).heap → RunsAre (route size H x w).heap (has_after (event_of x (route size H x w)) hs) (clean_after (event_of x (route size H x w)) bs)
  unfolding class_call interact finish
  route-observed x (is_turned t) once = record {
    counted = λ c q.
        silent c q (H.classes c) (hs c q) (bs c q) (event_of x (route size H x Calls.turned)) (and_no (is_of c (names x)))
        (refused-request c (fated went_back (shape_of c) q) (names x) 3 (λ r. unfated (shape_of c) q went_back r 3))
        (refused-request c (zeroes (shape_of c) q) (names x) 3 (λ r. rw (unfated (shape_of c) q went_cold r 3)))
        (refused-request c (λ r z. has_block (shape_of c) q (Calls.released_by r z)) (names x) 3 (untouched c q 3))
        (k.counted c q);
  }
  route-observed x (is-straight t e) once = record {
    counted = λ c q.
        rw (direct-keeps size H x).kept
        (silent c q (H.classes c) (hs c q) (bs c q) (event_of x (direct_call size H x)) (rw e) (rw e) (rw e) (rw e) (k.counted c q));
  }
  route-observed x (is-class d t e) once = record {
    counted = λ c q. at-class (λ j s. Counted (shape_of j) (shape-sound j) q s (has_after (now x d e once) hs j q) (clean_after (now x d e once) bs j q)) H.classes d.class _ (own x d e once q) (λ j n. others x d e once j q n) c;
  }

observed-from : (size n : ℕ) (H : Heap) (es : List Entry) (f : ℕ → Bool) (l : ℕ → ℕ) → Inv size n H es f l → AllListed H → (hs bs : Tellings) → RunsAre H hs bs → (xs : List Call)
    → RunsAre (heap_from size H xs) (λ c q. since_from (gets c q) (yields_up c q) (hs c q) (events_from size H xs)) (λ c q. since_from (renews c q) (releases_to c q) (bs c q) (events_from size H xs))
unfolding step
observed-from size n H es f l inv y hs bs k [] = k
observed-from size n H es f l inv y hs bs k (x ∷ xs) =
    let i = step-inv size n H es f l inv x in
    observed-from size (suc n) (step size H x).heap _ _ _ i (route-listed size H y x (way_of x)) _ _
    (route-observed size H inv.good (inv-once size n H es f l inv) y hs bs k x (goes x) (inv-once size (suc n) (step size H x).heap _ _ _ i)) xs

pub runs-observed : (size : ℕ) (rules : Rules) (xs : List Call) (c q : ℕ)
    → Counted (shape_of c) (shape-sound c) q ((heap_after size rules xs).classes c) (since_from (gets c q) (yields_up c q) false (events size rules xs)) (since_from (renews c q) (releases_to c q) false (events size rules xs))
unfolding new_heap
runs-observed size rules xs c q =
    (observed-from size 0 (new_heap rules) [] (λ x. false) (λ x. 0) (start size rules) (λ c. record { partial = tt; empty = tt; full = tt })
    (λ c q. false) (λ c q. false) (record { counted = λ c q. record { runs = refl; cleans = refl } }) xs).counted c q
