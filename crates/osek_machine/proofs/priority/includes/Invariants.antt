use Rattle.std.proofs.Common.{◌≡◌, drop}
use Rattle.code_rules.specs.Code.{is_in}
use Rattle.osek_machine.proofs.priority.includes.Given as goal

abbrev pub invariant-loop-other : goal.invariant-loop-other
invariant-loop-other l = is_in l.number (drop l.other-index l.numbers) ≡ is_in l.number l.numbers
