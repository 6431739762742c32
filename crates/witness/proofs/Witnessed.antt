-- What the contract of each exported function says of a call is what the demands say of it.
use Prim.Native.Nat.{ℕ}
use mathlib.Core.List.{List}
use mathlib.Core.Path.{◌≡◌, sym, ap, ◌∙◌, subst}
use Rattle.words.specs.Host.{digit}
use Rattle.tables.specs.Table.{class_table, TableEnds}
use Rattle.game.specs.Game.{asker_wins, GameEnds}
use Rattle.fields.specs.Outcome.{Did}
use Rattle.model.specs.Calls as Calls
use Rattle.pool.specs.Pool.{alloc, free, trim}
use Rattle.plan.specs.Code.{PlanEnds}
use Rattle.listing.specs.Listing.{short_histories, ListingEnds}
use Rattle.direct.specs.Answer.{Releases}
use Rattle.trace.specs.Words.{trace_on}
use Rattle.vigbuso.specs.Pool.{pool_on, class_on, granted_on, stocked_on, BlockEnds, FreeEnds}
use Rattle.vigbuso.specs.Trace.{TraceEnds}
use Rattle.vigbuso.specs.Direct as Direct
use Rattle.vigbuso.specs.Direct.{open_on, commit_on, CommitEnds, grow_on, GrowEnds, contains_on, report_on, ReportEnds}
use Rattle.vigbuso.specs.Blocks as Blocks
use Rattle.vigbuso.specs.Blocks.{take_on, TakeEnds, ReleaseEnds, chunks_on, ChunksEnds}
use Rattle.demands.specs.Contracts as Observes
use Rattle.demands.specs.PoolContracts as PoolObserves
use Rattle.demands.proofs.PoolContracts.{pool_observes_call}
use Rattle.demands.proofs.Mixed.{mixed_demand}
use Rattle.demands.proofs.PoolRefusals.{pool_demand_1}
use Rattle.demands.proofs.Contracts.{observes_call}
use Rattle.demands.proofs.Refusals.{digit-one, open_refuses, commit-refuses, grow-refuses, give-refuses, report-refuses, take-refuses, release-refuses, chunks-refuses, contains-answers, table-refuses, game-refuses, plan-refuses, listing-refuses}
use Rattle.demands.specs.ClassTables.{SmallTable}
use Rattle.demands.proofs.ClassTables.{class_tables}
use Rattle.demands.specs.Game.{ThreeYes}
use Rattle.demands.proofs.Game.{game}
use Rattle.demands.specs.Listing.{OnePageTwoCalls}
use Rattle.demands.proofs.Listing.{short-histories}
use Rattle.witness.specs.Observed.{Opened, TakeObserved, ListObserved, ChunksObserved, CommitObserved, GrowObserved, GiveObserved, ContainsObserved, ReportObserved, TableObserved, GameObserved, PlanObserved, ListingObserved, TraceObserved, AllocObserved, FreeObserved, TrimObserved, GrantedObserved, StockedObserved, ClassObserved}
use Rattle.demands.proofs.Plan.{fits}
use Rattle.demands.specs.Start.{opening}
use Rattle.demands.proofs.Idle.{idle}
use Rattle.demands.proofs.Trace.{trace}
use Rattle.demands.proofs.TraceRefusals.{trace-refuses}
use Rattle.demands.proofs.Parking.{parking}

module _ (b : List ℕ) (r : ℕ) (b' : List ℕ) where
  pub open_observed_lem : (n : ℕ) (ws : List ℕ) → Did r b' (open_on b n ws) → Opened n ws r b b'
  open_observed_lem n ws e = record {
    number = open_refuses b n ws r b' e;
    opens = (λ z. sym e.answer ∙ z, λ z. e.answer ∙ z);
    book = e.book;
    parks = λ z. parking (opening n ws b) (sym e.answer ∙ z);
  }

  pub commit-observed : (h m q q' f f' : ℕ) → CommitEnds (commit_on b h m) r b' q q' f f' → CommitObserved (Calls.commit h m) r b b' q q' f f'
  commit-observed h m q q' f f' e = record { number = commit-refuses b h m r b' q q' f f' e; replies = observes_call (Observes.commit h m r q q' f f' b' e) }

  pub grow-observed : (h q old new g g' : ℕ) → GrowEnds (grow_on b h q old new) r b' g g' → GrowObserved (Calls.grow_frontier h q old new) r b b' g g'
  grow-observed h q old new g g' e = record { number = grow-refuses b h q old new r b' g g' e; replies = observes_call (Observes.grow_frontier h q old new r g g' b' e) }

  pub give-observed : (h q m : ℕ) → Releases r b' (Direct.release_on b h q m) → GiveObserved (Calls.release h q m) r b b'
  give-observed h q m e = record { number = give-refuses b h q m r b' e; replies = observes_call (Observes.release h q m r b' e) }

  pub take-observed : (c h : ℕ) (l l' : List ℕ) (k k' v v' : ℕ) → TakeEnds (take_on 0 64 b c h l) r b' l' k k' v v'
      → TakeObserved (Calls.take_blocks c h) r b b' l l' k k' v v'
  take-observed c h l l' k k' v v' e = record { number = take-refuses 0 64 b c h l r b' l' k k' v v' e; replies = observes_call (Observes.take_blocks c h r k k' v v' b' l l' e) }

  pub medium_take_observed : (c h : ℕ) (l l' : List ℕ) (k k' v v' : ℕ) → TakeEnds (take_on 64 12 b c h l) r b' l' k k' v v'
      → TakeObserved (Calls.medium_take_blocks c h) r b b' l l' k k' v v'
  medium_take_observed c h l l' k k' v v' e = record { number = take-refuses 64 12 b c h l r b' l' k k' v v' e; replies = observes_call (Observes.medium_take_blocks c h r k k' v v' b' l l' e) }

  pub release-observed : (c h : ℕ) (ws : List ℕ) (f f' : ℕ) → ReleaseEnds (Blocks.release_on 0 64 b c h ws) r b' f f'
      → ListObserved (Calls.release_blocks c h ws) r b b' f f'
  release-observed c h ws f f' e = record { number = release-refuses 0 64 b c h ws r b' f f' e; replies = observes_call (Observes.release_blocks c h r f f' b' ws e) }

  pub medium_release_observed : (c h : ℕ) (ws : List ℕ) (f f' : ℕ) → ReleaseEnds (Blocks.release_on 64 12 b c h ws) r b' f f'
      → ListObserved (Calls.medium_release_blocks c h ws) r b b' f f'
  medium_release_observed c h ws f f' e = record { number = release-refuses 64 12 b c h ws r b' f f' e; replies = observes_call (Observes.medium_release_blocks c h r f f' b' ws e) }

  pub chunks-observed : (c h : ℕ) (ws gs fs fs' : List ℕ) → ChunksEnds (chunks_on b c h ws gs fs) r b' fs'
      → ChunksObserved (Calls.release_bin_chunks c h ws gs) r b b' fs fs'
  chunks-observed c h ws gs fs fs' e = record { number = chunks-refuses b c h ws gs fs r b' fs' e; replies = observes_call (Observes.release_bin_chunks c h r b' ws gs fs fs' e) }

module _ (b : List ℕ) (r : ℕ) where
  pub contains-observed : (o k : ℕ) → r ≡ digit (contains_on b o k) → ContainsObserved (Calls.contains o k) r b
  contains-observed o k e = record { number = contains-answers b o k r e; replies = observes_call (Observes.contains o k r e) }

  pub report-observed : (fs fs' : List ℕ) → ReportEnds (report_on b) r fs fs' → ReportObserved r b fs fs'
  report-observed fs fs' e = record {
    observed = record { number = report-refuses b r fs fs' e; replies = observes_call (Observes.report r fs fs' e) };
    idle = λ s o xs d. idle s o xs r fs fs' (subst (λ c. ReportEnds (report_on c) r fs fs') d e);
  }

module _ (r : ℕ) (l l' : List ℕ) where
  pub table-observed : (a b top slots : ℕ) → TableEnds (class_table a b top slots l) r l' → TableObserved a b top slots r l l'
  table-observed a b top slots e = record { number = table-refuses a b top slots l r l' e; filled = class_tables.filled a b top slots l r l' e; exactly = class_tables.exactly a b top slots l r l' e }

  pub small_table_observed : TableEnds (class_table 9 8 16384 64 l) r l' → SmallTable r l l'
  small_table_observed e = class_tables.small l r l' e

module _ (r w w' : ℕ) where
  pub game-observed : (n limit k : ℕ) → GameEnds (asker_wins n limit k) r w w' → GameObserved n limit k r w w'
  game-observed n limit k e = record { number = game-refuses n limit k r w w' e; answers = game.answers n limit k r w w' e }

  pub three-observed : GameEnds (asker_wins 3 3 6) r w w' → ThreeYes r w'
  three-observed e = game.three-yes r w w' e

pub plan-observed : (ks ts : List ℕ) (r t t' : ℕ) → PlanEnds ks ts r t t' → PlanObserved ks ts r t t'
plan-observed ks ts r t t' e = record { number = plan-refuses ks ts r t t' e; fits = λ z. fits ks ts t t' (record { code = sym z ∙ e.code; total = e.total }) }

module _ (r : ℕ) (l l' : List ℕ) (w w' : ℕ) where
  pub listing-observed : (n k : ℕ) → ListingEnds (short_histories n k l) r l' w w' → ListingObserved n k r l l' w w'
  listing-observed n k e = record { number = listing-refuses n k l r l' w w' e; lists = short-histories.lists n k l r l' w w' e }

  pub one_page_observed : ListingEnds (short_histories 1 2 l) r l' w w' → OnePageTwoCalls r l l' w'
  one_page_observed e = short-histories.one-page l r l' w w' e

module _ (n : ℕ) (b ws bl fl dn : List ℕ) (r : ℕ) (b' bl' fl' dn' : List ℕ) where
  pub trace-observed : TraceEnds (trace_on b n ws bl fl dn) r b' bl' fl' dn' → TraceObserved n b ws bl fl dn r b' bl' fl' dn'
  trace-observed e = record {
    number = trace-refuses b n ws bl fl dn r b' bl' fl' dn' e;
    starts = trace.starts n b ws bl fl dn r b' bl' fl' dn' e;
    book = e.book;
    did = trace.traces n b ws bl fl dn r b' bl' fl' dn' e;
  }

-- ---- the pool
module _ (b : List ℕ) (r : ℕ) (b' : List ℕ) where
  pub alloc-observed : (c h w w' : ℕ) → BlockEnds (pool_on b c (alloc h)) r b' w w' → AllocObserved c h r b b' w w'
  alloc-observed c h w w' e = record { number = pool_demand_1.alloc b c h r b' w w' e; replies = pool_observes_call (PoolObserves.alloc c h r w w' b' e) }

  pub free-observed : (c h w : ℕ) → FreeEnds (pool_on b c (free h w)) r b' → FreeObserved c h w r b b'
  free-observed c h w e = record { number = pool_demand_1.free b c h w r b' e; replies = pool_observes_call (PoolObserves.free c h w r b' e) }

  pub trim-observed : (c h w w' : ℕ) → BlockEnds (pool_on b c (trim h)) r b' w w' → TrimObserved c h r b b' w w'
  trim-observed c h w w' e = record { number = pool_demand_1.trim b c h r b' w w' e; replies = pool_observes_call (PoolObserves.trim c h r w w' b' e) }

module _ (b : List ℕ) (r : ℕ) where
  pub granted-observed : (c w : ℕ) → r ≡ digit (granted_on b c w) → GrantedObserved b c w r
  granted-observed c w e = record {
    answer = pool_demand_1.granted b c w r e;
    observed = λ s o xs d.
        let t = (mixed_demand.after s o xs).granted c w in
        let f : r ≡ digit (granted_on _ c w) = e ∙ ap (λ m. digit (granted_on m c w)) d in
        (λ z. t.0 (digit-one _ (sym f ∙ z)), λ u. f ∙ ap digit (t.1 u));
  }

  pub stocked-observed : (c : ℕ) → r ≡ stocked_on b c → StockedObserved b c r
  stocked-observed c e = record {
    answer = pool_demand_1.stocked b c r e;
    observed = λ low s o xs d. e ∙ rw d ((mixed_demand.after s o xs).stocked c low);
  }

  pub class-observed : (w : ℕ) → r ≡ class_on b w → ClassObserved b w r
  class-observed w e = record {
    answer = pool_demand_1.class b w r e;
    observed = λ c q s o xs d low run has. e ∙ rw d ((mixed_demand.after s o xs).class c q w low run has);
    none = λ s o xs d ne. e ∙ rw d ((mixed_demand.after s o xs).classless w ne);
  }
