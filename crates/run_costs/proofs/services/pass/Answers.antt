use Rattle.std.proofs.Common.{◌+◌, Bool, List, sym, subst}
use Rattle.run_costs.specs.Coming.{HasMarked}
use Rattle.run_costs.proofs.Closing.{newly_marked, still_marked}
use Rattle.run_costs.proofs.services.pass.Goals as goal
use Rattle.run_costs.proofs.services.pass.Goals.{then-mark, else-mark}

pub loop-task-preserved : goal.loop-task-preserved
loop-task-preserved c =
    let config = c.args.walks.now.config in
    let app = c.args.walks.now.app in
    let load = c.args.makers.now.load.now in
    let old : List Bool = c.args.marks.now in
    let mid : List Bool = c.loop-task.marks in
    let new : List Bool = c.mark.new.marks in
    let n = c.loop-task.task in
    elim c.if-mark.branch [
      | then-mark w ↦ record {
        count = c.mark.ensures.count;
        within = c.mark.ensures.within;
        marked = subst (λ (b : Bool). HasMarked config app load old new (n + 1) b) (sym w.grown-is)
            (newly_marked config app load old mid new n c.loop-task.grown c.loop-task.invariant.marked (c.mark.ensures.marked w.if-mark.true));
      }
      | else-mark w ↦ record {
        count = c.mark.ensures.count;
        within = c.mark.ensures.within;
        marked = subst (λ (b : Bool). HasMarked config app load old new (n + 1) b) (sym w.grown-is)
            (still_marked config app load old mid new n c.loop-task.grown c.loop-task.invariant.marked (c.mark.ensures.same w.if-mark.false));
      }
    ]
