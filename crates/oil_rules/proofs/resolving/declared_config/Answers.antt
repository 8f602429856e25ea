use Rattle.std.proofs.Common.{◌∙◌, ap, sym, List}
use Rattle.std.specs.Prelude.{map}
use Rattle.sloth_base.specs.declared.config.EventDecl.{EventDecl}
use Rattle.oil_table.specs.Events.{number_masks}
use Rattle.oil_rules.proofs.RangeEvents.{event_names}
use Rattle.oil_rules.proofs.resolving.declared_config.Goals as goal

pub new-table-requires : goal.new-table-requires
new-table-requires c =
    let names = λ (x : List EventDecl). map (λ (e : EventDecl). e.name) x in
    c.requires.event_numbers ∙ sym (event_names (number_masks c.args.objects.now) c.args.objects.now) ∙ ap names (sym c.requires.events) ∙ ap names (sym c.as_slice.ensures.value)
