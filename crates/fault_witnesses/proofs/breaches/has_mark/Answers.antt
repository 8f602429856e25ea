use Rattle.task_verify.proofs.Paths.{path_of}
use Rattle.fault_witnesses.proofs.breaches.has_mark.Goals as goal

pub returns : goal.returns
returns c = λ h. path_of ((c.requires.exact c.args.item).0 h)
