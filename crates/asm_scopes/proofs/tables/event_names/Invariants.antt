use Rattle.std.proofs.Common.{◌≡◌, take, map}
use Rattle.sloth_base.specs.declared.config.EventDecl.{EventDecl}
use Rattle.asm_scopes.proofs.tables.event_names.Given as goal

abbrev pub invariant-loop-event : goal.invariant-loop-event
invariant-loop-event l = l.names ≡ map (λ (x : EventDecl). x.name) (take l.event-index l.event-items)
