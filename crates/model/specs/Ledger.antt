-- Where each page is: held by a class or the direct calls, in a hole, at or above the frontier, or abandoned.
use Rattle.std.specs.Prelude.{ℕ, ◌+◌, ◌-◌, List, [], ◌∷◌, cond, eqb, leb}
use Rattle.std.proofs.Math.Option.{Option, none, some}
use Rattle.facts.specs.Lists.{total}
use Rattle.model.specs.Cover.{covers}
use Rattle.words.specs.Host.{reservation_granted, commit_granted}
use Rattle.classes.specs.declared.Shape.{Shape}
use Rattle.classes.specs.Shape.{shape_of}
use Rattle.model.specs.Calls as Calls
use Rattle.model.specs.Calls.{Call, Way, turned, straight, to_class, way_of, host_of, is_refused}
use Rattle.model.specs.HoleStore.{accepts}
use Rattle.model.specs.Arena.{Arena, Status, unasked, ready, disabled, with_status, with_frontier, give, draw, can_grow}
use Rattle.model.specs.Page.{Page}
use Rattle.model.specs.Class.{Class, Cold, Ask, done, asks, serve}
use Rattle.model.specs.Chunks.{answer}
use Rattle.model.specs.Heap.{Heap, Holder, nobody, direct, class, offer, direct_call, step}

-- how many holes have page x; is it at or above the frontier
abbrev pub in_holes : ℕ → Arena → ℕ
in_holes x a = total (λ h. covers h.pages h.first x) a.store.holes

abbrev pub above : ℕ → ℕ → ℕ
above f x = cond (leb f x) 1 0

-- how many of a class's runs have page x; is it the class's
abbrev pub runs_with : Shape → ℕ → Class → ℕ
runs_with sh x s =
    total (λ (p : Page). covers sh.pages p.first x) s.partial
    + total (λ (p : Page). covers sh.pages p.first x) s.empty
    + total (λ (p : Cold). covers sh.pages p.first x) s.cold
    + total (λ (p : Page). covers sh.pages p.first x) s.full

abbrev pub held_by : ℕ → Holder → ℕ
held_by c nobody = 0
held_by c direct = 0
held_by c (class d) = cond (eqb d c) 1 0

-- how often a give of n pages from q on abandons page x; gives in turn; a commit; a growth
abbrev pub abandons : ℕ → ℕ → Arena → ℕ → ℕ
abandons n q a x = cond (accepts n q a.store) 0 (covers n q x)

abbrev pub all_abandon : ℕ → List ℕ → Arena → ℕ → ℕ
all_abandon n [] a x = 0
all_abandon n (q ∷ qs) a x = abandons n q a x + all_abandon n qs (give n q a) x

abbrev pub grant_abandons : ℕ → ℕ → Arena → Option ℕ → ℕ → ℕ
grant_abandons h n a none x = 0
grant_abandons h n a (some q) x = cond (commit_granted h) 0 (abandons n q a x)

unfoldable pub ready_abandons : ℕ → ℕ → ℕ → Arena → ℕ → ℕ
ready_abandons size h n a x = let d = draw size n a in grant_abandons h n d.arena d.run x

abbrev pub commit_abandons : ℕ → ℕ → ℕ → Arena → Status → ℕ → ℕ
commit_abandons size h n a unasked x = cond (reservation_granted h) (ready_abandons size h n (with_status ready a) x) 0
commit_abandons size h n a ready x = ready_abandons size h n a x
commit_abandons size h n a disabled x = 0

abbrev pub grow_abandons : ℕ → ℕ → ℕ → ℕ → Arena → ℕ → ℕ
grow_abandons size h e n a x = cond (can_grow size e n a) (cond (commit_granted h) 0 (abandons n e (with_frontier (e + n) a) x)) 0

-- a class's call: the commit that it asks for, then the runs that it gives
abbrev pub offer_abandons : ℕ → ℕ → Arena → Ask → ℕ → ℕ
offer_abandons size h a (done r) x = 0
offer_abandons size h a (asks n k) x = commit_abandons size h n a a.status x

unfoldable pub class_abandons : ℕ → Heap → ℕ → ℕ → Ask → ℕ → ℕ
class_abandons size H c h q x =
    let g = offer size h H.arena q in
    offer_abandons size h H.arena q x + all_abandon (shape_of c).pages (serve q g.run).gives g.arena x

-- a direct call that is not refused
abbrev pub direct_abandons : ℕ → Heap → Call → ℕ → ℕ
direct_abandons size H (Calls.take_blocks c h l) x = 0
direct_abandons size H (Calls.medium_take_blocks c h l) x = 0
direct_abandons size H (Calls.release_blocks c h ws) x = 0
direct_abandons size H (Calls.medium_release_blocks c h ws) x = 0
direct_abandons size H (Calls.pooled_take c h l) x = 0
direct_abandons size H (Calls.pooled_release c h ws) x = 0
direct_abandons size H (Calls.release_bin_chunks c h ws gs fs) x = 0
direct_abandons size H (Calls.commit h n) x = commit_abandons size h n H.arena H.arena.status x
direct_abandons size H (Calls.grow_frontier h q old new) x = grow_abandons size h (q + old) (new - old) H.arena x
direct_abandons size H (Calls.release h q n) x = abandons n q H.arena x
direct_abandons size H (Calls.contains o b) x = 0
direct_abandons size H Calls.report x = 0

abbrev pub call_abandons : ℕ → Heap → Call → Way → ℕ → ℕ
call_abandons size H y turned x = 0
call_abandons size H y straight x = cond (is_refused (direct_call size H y).answer) 0 (direct_abandons size H y x)
call_abandons size H y (to_class d) x = class_abandons size H d.class (host_of d.request) (answer (shape_of d.class) (H.rules d.class) (H.classes d.class) d.request) x

-- over a history: how often page x was abandoned
abbrev pub abandoned_from : ℕ → Heap → List Call → ℕ → ℕ
abandoned_from size H [] x = 0
abandoned_from size H (y ∷ ys) x = call_abandons size H y (way_of y) x + abandoned_from size (step size H y).heap ys x
