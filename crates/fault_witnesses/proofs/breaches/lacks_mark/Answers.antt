use Rattle.task_verify.proofs.Paths.{Decides-unreached}
use Rattle.fault_witnesses.proofs.breaches.lacks_mark.Goals as goal

pub returns : goal.returns
returns c = λ h.
    (Decides-unreached c.args.func.now c.args.marks.now c.args.item c.requires.inside (c.requires.exact c.args.item)).0 h
