use Rattle.std.proofs.Common.{◌∙◌, ap, sym, List}
use Rattle.std.specs.Prelude.{map}
use Rattle.sloth_base.specs.declared.config.EventDecl.{EventDecl}
use Rattle.oil_table.specs.Events.{number_masks}
use Rattle.oil_rules.proofs.RangeEvents.{event_names}
use Rattle.stage_faults.proofs.oil_objects.notes_with_events.Goals as goal

pub new-events-requires : goal.new-events-requires
new-events-requires c =
    c.requires.event_numbers ∙ sym (event_names (number_masks c.args.tree.now.objects) c.args.tree.now.objects)
    ∙ ap (λ (x : List EventDecl). map (λ (e : EventDecl). e.name) x) (sym c.requires.events)
