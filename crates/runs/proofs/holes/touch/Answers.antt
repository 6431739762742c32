use Rattle.facts.proofs.Prelude.{◌+◌, ◌-◌, ap, ◌∙◌, arith, get_or}
use Rattle.model.specs.declared.Hole.{Hole}
use Rattle.runs.specs.way.Scan.{no_hole, neighbours_at}
use Rattle.runs.proofs.Scanning.{fold_holes_from, scan_start, scan_step, scan_end}
use Rattle.runs.proofs.holes.touch.Goals as goal

pub loop-i-init : goal.loop-i-init
loop-i-init c = record {
  up_to = omega arith;
  same = scan_start (neighbours_at c.args.run) c.args.from c.args.count c.args.holes.now c.requires.0 c.args.behind;
}

pub loop-i-preserved : goal.loop-i-preserved
loop-i-preserved c =
    let from = c.args.from + (c.loop-i.i - 1) in
    record {
      up_to = omega arith;
      same = c.neighbours_at-found.ensures ∙ ap (λ (h : Hole). neighbours_at c.args.run from h c.loop-i.found) c.hole_at-h.ensures
          ∙ ap (neighbours_at c.args.run from (get_or c.args.holes.now (c.loop-i.i - 1) no_hole)) c.loop-i.invariant.same
          ∙ scan_step (neighbours_at c.args.run) c.args.from c.args.count c.args.holes.now c.requires.0 c.args.behind c.loop-i.i c.loop-i-test.true c.loop-i.invariant.up_to;
    }

pub returns : goal.returns
returns c =
    c.loop-i.invariant.same ∙ ap (fold_holes_from (neighbours_at c.args.run) c.args.from c.args.count c.args.holes.now c.args.behind) (omega arith)
    ∙ scan_end (neighbours_at c.args.run) c.args.from c.args.count c.args.holes.now c.requires.0 c.args.behind
