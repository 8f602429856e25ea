use Rattle.std.proofs.Common.{◌≡◌, ◌++◌, drop}
use Rattle.oil_rules.specs.Configs.{tasks_of}
use Rattle.oil_rules.proofs.resolving.declared_tasks.Given as goal

abbrev pub invariant-loop-object : goal.invariant-loop-object
invariant-loop-object l = l.tasks.items ++ tasks_of l.names l.events (drop l.object-index l.objects) ≡ tasks_of l.names l.events l.objects
