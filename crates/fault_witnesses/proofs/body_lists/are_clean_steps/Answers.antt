use Rattle.fault_witnesses.proofs.Clean.{steps_more}
use Rattle.fault_witnesses.proofs.body_lists.are_clean_steps.Goals as goal

pub loop-number-preserved : goal.loop-number-preserved
loop-number-preserved c =
    steps_more c.args.func.now c.args.way.now c.loop-number.number (c.in_ok-is_clean.ensures c.if-not-branch.false) c.loop-number.invariant
