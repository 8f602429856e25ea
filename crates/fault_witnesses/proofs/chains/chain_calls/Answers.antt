use Rattle.fault_witnesses.proofs.Shown.{calls_are}
use Rattle.fault_witnesses.proofs.chains.chain_calls.Goals as goal

pub returns : goal.returns
returns c =
    let ok = c.if-not-reaches_culprit.false in
    calls_are c.args.judged.now.app.now c.args.judged.now.refusal.code c.args.body c.args.item c.in-Some.calls c.args.func c.args.held.now c.requires.held c.requires.is
    (c.reaches_culprit.ensures.chain ok) (c.reaches_culprit.ensures.known ok) (c.reaches_culprit.ensures.inside ok) (c.reaches_culprit.ensures.culprit ok)
