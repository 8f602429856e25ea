use Rattle.std.proofs.Common.{◌≡◌, drop}
use Rattle.code_rules.specs.Code.{is_in}
use Rattle.osek_scheduler.proofs.ceilings.lists.Given as goal

abbrev pub invariant-loop-other : goal.invariant-loop-other
invariant-loop-other l = is_in l.resource (drop l.other-index l.other-items) ≡ is_in l.resource l.other-items
