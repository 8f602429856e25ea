use Rattle.std.proofs.Common.{◌≡◌, ◌<◌, ◌++◌, drop}
use Rattle.std.specs.Prelude.{All}
use Rattle.sloth_base.specs.declared.config.EventDecl.{EventDecl}
use Rattle.oil_table.specs.Events.{event_decls, events_of}
use Rattle.oil_table.proofs.events.events_of.Given as goal

abbrev pub invariant-loop-object : goal.invariant-loop-object
invariant-loop-object l = record {
  so_far : l.events.items ++ event_decls l.taken (drop l.object-index l.objects) ≡ events_of l.objects;
  fit : All (λ (e : EventDecl). e.mask < 4294967296) l.events.items;
}
