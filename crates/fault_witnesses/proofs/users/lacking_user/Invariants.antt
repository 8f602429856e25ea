use Rattle.std.specs.Prelude.{IfSome}
use Rattle.fault_witnesses.specs.Witnesses.{IsUser}
use Rattle.fault_witnesses.proofs.users.lacking_user.Given as goal

abbrev pub invariant-loop-task : goal.invariant-loop-task
invariant-loop-task l = IfSome l.best (IsUser l.judged.config.now l.judged.app.now l.body l.item)
