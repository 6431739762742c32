-- What a release asks of its lists hangs on the blocks out in its class alone: two histories with the same blocks out in a class ask the same of its releases.
use Rattle.facts.proofs.Prelude.{ℕ, List, ◌↔◌}
use Rattle.model.specs.History.{Event}
use Rattle.model.specs.Entries.{OutIn, AllOut}
use Rattle.demands.specs.Returns.{ListOut, ChunksOut}

-- ---- from one history to another
module _ {vs us : List Event} {c : ℕ} (f : (w : ℕ) → OutIn vs c w → OutIn us c w) where
  all_move : (ws : List ℕ) → AllOut vs c ws → AllOut us c ws
  all_move ws a = record { out = λ w m. f w (a.out w m); once = a.once }

  list_move : (h : ℕ) (ws : List ℕ) → ListOut vs c h ws → ListOut us c h ws
  list_move h ws a = record { host = a.host; listed = a.listed; kinds = a.kinds; out = all_move ws a.out; together = a.together }

  chunks_move : (h : ℕ) (ws gs fs : List ℕ) → ChunksOut vs c h ws gs fs → ChunksOut us c h ws gs fs
  chunks_move h ws gs fs a = record { plain = a.plain; out = all_move ws a.out; pages = a.pages; counts = a.counts; present = a.present }

-- ---- and back
module _ {vs us : List Event} {c : ℕ} (same : (w : ℕ) → OutIn vs c w ↔ OutIn us c w) where
  pub all-moves : (ws : List ℕ) → AllOut vs c ws ↔ AllOut us c ws
  all-moves ws = (all_move (λ w. (same w).0) ws, all_move (λ w. (same w).1) ws)

  pub list-moves : (h : ℕ) (ws : List ℕ) → ListOut vs c h ws ↔ ListOut us c h ws
  list-moves h ws = (list_move (λ w. (same w).0) h ws, list_move (λ w. (same w).1) h ws)

  pub chunks-moves : (h : ℕ) (ws gs fs : List ℕ) → ChunksOut vs c h ws gs fs ↔ ChunksOut us c h ws gs fs
  chunks-moves h ws gs fs = (chunks_move (λ w. (same w).0) h ws gs fs, chunks_move (λ w. (same w).1) h ws gs fs)
