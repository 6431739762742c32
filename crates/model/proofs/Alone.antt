-- Demand 3, first half: a class's answers and the runs that it was given determine each other.
-- A class by itself is its calls and what it is given (`replay`); a history shows each class nothing else.
use Rattle.facts.proofs.Prelude.{ℕ, Bool, true, false, cond, false≢true, List, [], ◌∷◌, map, head-eq_of_cons-eq, tail-eq_of_cons-eq}
use Rattle.facts.proofs.Prelude.{◌↔◌, Option, none, some, ◌≡◌, refl, sym, ap, ◌∙◌, subst, ap₂, eqb-true, by_cases}
use Rattle.classes.specs.declared.Shape.{Shape}
use Rattle.classes.specs.Shape.{shape_of}
use Rattle.classes.specs.way.Sound.{Sound}
use Rattle.classes.proofs.Shapes.{shape-sound}
use Rattle.rules.specs.declared.Limits.{Limits}
use Rattle.rules.specs.Rules.{Rules}
use Rattle.model.specs.Calls as Calls
use Rattle.model.specs.Calls.{Call, Answer, Request, names, Way, turned, straight, to_class, way_of, host_of}
use Rattle.model.specs.Page.{Page}
use Rattle.model.specs.Class.{Class, new_class, Cold, Result, Ask, done, asks, serve, refuse, take_from}
use Rattle.model.specs.Release.{Site, on_page, release_list}
use Rattle.model.specs.Chunks.{release_chunks, answer}
use Rattle.model.specs.Heap.{Heap, Outcome, step, route, class_call, interact, direct_call, finish, offer, new_heap, run_with, asked, commit_call, grow_call, release_call}
use Rattle.model.specs.History.{Event, event_of, events_from, events, calls_of, answers_of, runs_of, is_of}
use Rattle.model.proofs.Ways.{Goes, is_turned, is-straight, is-class, goes}
use Rattle.model.proofs.Update.{update_same, update_other}
use Rattle.model.proofs.NewRun.{Tells, run-tells}

-- a request of a class is done, or asks for one of its runs and tells in its answer which it was given
pub data TellsRun (sh : Shape) : Ask → Type 0 where
  is-done : {r : Result} → TellsRun sh (done r)
  is-asked : {k : Option ℕ → Result} → Tells k → TellsRun sh (asks sh.pages k)

tells_run_cond : (sh : Shape) (b : Bool) (x y : Ask) → TellsRun sh x → TellsRun sh y → TellsRun sh (cond b x y)
tells_run_cond sh true x y p q = p
tells_run_cond sh false x y p q = q

module _ (sh : Shape) (ok : Sound sh) (lim : Limits) where
  take_tells_run : (l : List ℕ) (ps es : List Page) (cs : List Cold) (fs : List Page) → TellsRun sh (take_from sh l ps es cs fs)
  unfolding take_from
  take_tells_run l (p ∷ ps) es cs fs = is-done
  take_tells_run l [] (e ∷ es) cs fs = is-done
  take_tells_run l [] [] (c ∷ cs) fs = is-done
  take_tells_run l [] [] [] fs = is-asked (run-tells sh ok l fs)

  page_tells_run : (h : ℕ) (s : Class) (ws : List ℕ) (x : Option Site) → TellsRun sh (on_page sh lim h s ws x)
  unfolding on_page
  page_tells_run h s ws none = is-done
  page_tells_run h s ws (some x) = search (tells_run_cond, is-done)

  pub answer_tells_run : (s : Class) (r : Request) → TellsRun sh (answer sh lim s r)
  unfolding answer release_list release_chunks
  answer_tells_run s (Calls.take h l) = search (tells_run_cond, is-done, take_tells_run)
  answer_tells_run s (Calls.give_back h ws) = search (tells_run_cond, is-done, page_tells_run)
  answer_tells_run s (Calls.give_chunks h ws gs fs) = search (tells_run_cond, is-done) depth 9

-- a call that does not ask is given none
abbrev pub Fits : Ask → Option ℕ → Type 0
Fits (done r) g = g ≡ none
Fits (asks n k) g = Unit {0}

serve-tells : {sh : Shape} {q : Ask} (g g' : Option ℕ) → TellsRun sh q → Fits q g → Fits q g' → (serve q g).answer ≡ (serve q g').answer → g ≡ g'
serve-tells g g' is-done f f' e = f ∙ sym f'
serve-tells g g' (is-asked s) f f' e = s g g' e

-- a class by itself: its calls and what it is given
abbrev pub ask : Limits → ℕ → Class → Way → Ask
ask lim c s turned = refuse s 3
ask lim c s straight = refuse s 4
ask lim c s (to_class d) = answer (shape_of c) lim s d.request

abbrev reply : Limits → ℕ → Class → Call → Option ℕ → Result
reply lim c s x g = serve (ask lim c s (way_of x)) g

abbrev replay : Limits → ℕ → Class → List Call → List (Option ℕ) → List Answer
replay lim c s [] gs = []
replay lim c s (x ∷ xs) [] = []
replay lim c s (x ∷ xs) (g ∷ gs) = (reply lim c s x g).answer ∷ replay lim c (reply lim c s x g).class xs gs

-- one gift for each call, and none to a call that does not ask
abbrev AllFit : Limits → ℕ → Class → List Call → List (Option ℕ) → Type 0
AllFit lim c s [] gs = gs ≡ []
AllFit lim c s (x ∷ xs) [] = ⊥
AllFit lim c s (x ∷ xs) (g ∷ gs) = Fits (ask lim c s (way_of x)) g × AllFit lim c (reply lim c s x g).class xs gs

ask_tells_run : (lim : Limits) (c : ℕ) (s : Class) (w : Way) → TellsRun (shape_of c) (ask lim c s w)
ask_tells_run lim c s turned = is-done
ask_tells_run lim c s straight = is-done
ask_tells_run lim c s (to_class d) = answer_tells_run (shape_of c) (shape-sound c) lim s d.request

-- from answers to gifts
replay-tells : (lim : Limits) (c : ℕ) (s : Class) (xs : List Call) (gs gs' : List (Option ℕ)) → AllFit lim c s xs gs → AllFit lim c s xs gs' → replay lim c s xs gs ≡ replay lim c s xs gs' → gs ≡ gs'
replay-tells lim c s [] gs gs' f f' e = f ∙ sym f'
replay-tells lim c s (x ∷ xs) [] gs' f f' e = absurd f
replay-tells lim c s (x ∷ xs) (g ∷ gs) [] f f' e = absurd f'
replay-tells lim c s (x ∷ xs) (g ∷ gs) (g' ∷ gs') f f' e =
    let same : g ≡ g' = serve-tells g g' (ask_tells_run lim c s (way_of x)) f.0 f'.0 (head-eq_of_cons-eq e) in
    let rest = subst (λ z. AllFit lim c (reply lim c s x z).class xs gs' → replay lim c (reply lim c s x g).class xs gs ≡ replay lim c (reply lim c s x z).class xs gs' → gs ≡ gs')
    same (replay-tells lim c (reply lim c s x g).class xs gs gs' f.1) in
    ap₂ ◌∷◌ same (rest f'.1 (tail-eq_of_cons-eq e))

-- a call that names no class leaves all classes, and no call changes the rules
pub record Keeps (C : ℕ → Class) (R : Rules) (o : Outcome) : Type 0 where
  pub kept : o.heap.classes ≡ C
  pub ruled : o.heap.rules ≡ R

keeps-cond : (C : ℕ → Class) (R : Rules) (b : Bool) (x y : Outcome) → Keeps C R x → Keeps C R y → Keeps C R (cond b x y)
keeps-cond C R true x y p q = p
keeps-cond C R false x y p q = q

pub direct-keeps : (size : ℕ) (H : Heap) (x : Call) → Keeps H.classes H.rules (direct_call size H x)
unfolding direct_call commit_call grow_call release_call
direct-keeps size H (Calls.take_blocks c h l) = search
direct-keeps size H (Calls.medium_take_blocks c h l) = search
direct-keeps size H (Calls.release_blocks c h ws) = search
direct-keeps size H (Calls.medium_release_blocks c h ws) = search
direct-keeps size H (Calls.pooled_take c h l) = search
direct-keeps size H (Calls.pooled_release c h ws) = search
direct-keeps size H (Calls.release_bin_chunks c h ws gs fs) = search
direct-keeps size H (Calls.commit h n) = search keeps-cond
direct-keeps size H (Calls.grow_frontier h q old new) = search keeps-cond
direct-keeps size H (Calls.release h q n) = search keeps-cond
direct-keeps size H (Calls.contains o b) = search
direct-keeps size H Calls.report = search

-- a call of class c: what it was given, and what it made of it
pub record Own (c : ℕ) (o : Outcome) (q : Ask) : Type 0 where
  pub gift : Option ℕ
  pub run : o.run ≡ run_with (shape_of c).pages gift
  pub class : o.heap.classes c ≡ (serve q gift).class
  pub answer : o.answer ≡ (serve q gift).answer
  pub fits : Fits q gift

asked-pages : {sh : Shape} {q : Ask} (g : Option ℕ) → TellsRun sh q → Fits q g → run_with (asked q) g ≡ run_with sh.pages g
asked-pages g is-done f = rw f
asked-pages g (is-asked t) f = refl

offer-fits : (size h : ℕ) (H : Heap) (q : Ask) → Fits q (offer size h H.arena q).run
unfolding offer
offer-fits size h H (done r) = refl
offer-fits size h H (asks n k) = tt

module _ (size : ℕ) (H : Heap) where
  pub other : (c : ℕ) (x : Call) {w : Way} → Goes x w → is_of c (names x) ≡ false → (route size H x w).heap.classes c ≡ H.classes c
  unfolding class_call interact finish
  other c x (is_turned t) e = refl
  other c x (is-straight t n) e = ap (λ f. f c) (direct-keeps size H x).kept
  other c x (is-class d t n) e = update_other H.classes d.class c _ (rw n at e)

  pub own-call : (c : ℕ) (r : Request) → Own c (class_call size H c r) (answer (shape_of c) (H.rules c) (H.classes c) r)
  unfolding class_call interact finish
  own-call c r =
      let q = answer (shape_of c) (H.rules c) (H.classes c) r in
      let f = offer-fits size (host_of r) H q in
      record {
        gift = (offer size (host_of r) H.arena q).run;
        run = asked-pages (offer size (host_of r) H.arena q).run (answer_tells_run (shape_of c) (shape-sound c) (H.rules c) (H.classes c) r) f;
        class = update_same H.classes c _;
        answer = refl;
        fits = f;
      }

  pub own : (c : ℕ) (x : Call) {w : Way} → Goes x w → is_of c (names x) ≡ true → Own c (route size H x w) (ask (H.rules c) c (H.classes c) w)
  own c x (is_turned t) e = record { gift = none; run = refl; class = refl; answer = refl; fits = refl }
  own c x (is-straight t n) e = absurd (false≢true (rw n at e))
  own c x (is-class d t n) e =
      subst (λ k. Own c (class_call size H k d.request) (answer (shape_of c) (H.rules c) (H.classes c) d.request)) (sym (eqb-true d.class c (rw n at e))) (own-call c d.request)

-- a class's answers are a replay of its calls with what it was given
record Replayed (lim : Limits) (c : ℕ) (s : Class) (xs : List Call) (es : List Event) : Type 0 where
  gifts : List (Option ℕ)
  runs : runs_of c es ≡ map (run_with (shape_of c).pages) gifts
  answers : answers_of c es ≡ replay lim c s (calls_of c xs) gifts
  fit : AllFit lim c s (calls_of c xs) gifts

module _ (lim : Limits) (c : ℕ) (s : Class) (x : Call) (xs : List Call) (o : Outcome) (es : List Event) (ih : Replayed lim c (o.heap.classes c) xs es) where
  replayed-own : is_of c (names x) ≡ true → Own c o (ask lim c s (way_of x)) → Replayed lim c s (x ∷ xs) (event_of x o ∷ es)
  replayed-own e own = record {
    gifts = own.gift ∷ ih.gifts;
    runs = rw e (ap₂ ◌∷◌ own.run ih.runs);
    answers = rw e (ap₂ ◌∷◌ own.answer (ih.answers ∙ ap (λ z. replay lim c z (calls_of c xs) ih.gifts) own.class));
    fit = rw e (own.fits, subst (λ z. AllFit lim c z (calls_of c xs) ih.gifts) own.class ih.fit);
  }

  replayed-other : is_of c (names x) ≡ false → o.heap.classes c ≡ s → Replayed lim c s (x ∷ xs) (event_of x o ∷ es)
  replayed-other e kept = record {
    gifts = ih.gifts;
    runs = rw e ih.runs;
    answers = rw e (rw kept at ih.answers);
    fit = rw e (rw kept at ih.fit);
  }

pub step-rules : (size : ℕ) (H : Heap) (x : Call) → (step size H x).heap.rules ≡ H.rules
unfolding step class_call interact finish
step-rules size H x = go (way_of x)
  where
    go : (w : Way) → (route size H x w).heap.rules ≡ H.rules
    go turned = refl
    go straight = (direct-keeps size H x).ruled
    go (to_class d) = refl

replayed : (size c : ℕ) (H : Heap) (xs : List Call) → Replayed (H.rules c) c (H.classes c) xs (events_from size H xs)
unfolding step
replayed size c H [] = record { gifts = []; runs = refl; answers = refl; fit = refl }
replayed size c H (x ∷ xs) =
    let o = step size H x in
    let ih = subst (λ (r : Rules). Replayed (r c) c (o.heap.classes c) xs (events_from size o.heap xs)) (step-rules size H x) (replayed size c o.heap xs) in
    by_cases (is_of c (names x))
    (λ e. replayed-own (H.rules c) c (H.classes c) x xs o _ ih e (own size H c x (goes x) e))
    (λ e. replayed-other (H.rules c) c (H.classes c) x xs o _ ih e (other size H c x (goes x) e))

-- from runs to gifts
run-first : (n : ℕ) (g g' : Option ℕ) → run_with n g ≡ run_with n g' → g ≡ g'
run-first n none none e = refl
run-first n none (some q) e = cc
run-first n (some q) none e = cc
run-first n (some q) (some q') e = ap some (ap (λ o. elim o [ none ↦ q | some h ↦ h.first ]) e)

pub runs-first : (n : ℕ) (gs gs' : List (Option ℕ)) → map (run_with n) gs ≡ map (run_with n) gs' → gs ≡ gs'
runs-first n [] [] e = refl
runs-first n [] (g ∷ gs) e = cc
runs-first n (g ∷ gs) [] e = cc
runs-first n (g ∷ gs) (g' ∷ gs') e = ap₂ ◌∷◌ (run-first n g g' (head-eq_of_cons-eq e)) (runs-first n gs gs' (tail-eq_of_cons-eq e))

-- The two arenas need not have one length, and the other classes may have other limits.
pub alone : (size₁ size₂ : ℕ) (rules₁ rules₂ : Rules) (c : ℕ) (xs ys : List Call) → rules₁ c ≡ rules₂ c → calls_of c xs ≡ calls_of c ys
    → (answers_of c (events size₁ rules₁ xs) ≡ answers_of c (events size₂ rules₂ ys)) ↔ (runs_of c (events size₁ rules₁ xs) ≡ runs_of c (events size₂ rules₂ ys))
unfolding new_heap
alone size₁ size₂ rules₁ rules₂ c xs ys lim same =
    let a = replayed size₁ c (new_heap rules₁) xs in
    let b = subst (λ (l : Limits). Replayed l c new_class ys (events size₂ rules₂ ys)) (sym lim) (replayed size₂ c (new_heap rules₂) ys) in (
      (λ e. a.runs ∙ ap (map (run_with (shape_of c).pages)) (replay-tells (rules₁ c) c new_class (calls_of c xs) a.gifts b.gifts a.fit (rw same b.fit) (sym a.answers ∙ e ∙ rw same b.answers)) ∙ sym b.runs),
      (λ e. a.answers ∙ rw (same, runs-first (shape_of c).pages a.gifts b.gifts (sym a.runs ∙ e ∙ b.runs)) (sym b.answers)),
    )
