use Rattle.std.proofs.Common.{◌≡◌, take, map}
use Rattle.sloth_base.specs.declared.config.AlarmDecl.{AlarmDecl}
use Rattle.asm_scopes.proofs.tables.alarm_names.Given as goal

abbrev pub invariant-loop-alarm : goal.invariant-loop-alarm
invariant-loop-alarm l = l.names ≡ map (λ (x : AlarmDecl). x.name) (take l.alarm-index l.alarm-items)
