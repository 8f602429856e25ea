use Rattle.std.proofs.Common.{◌∙◌, [], sym, ap}
use Rattle.std.specs.Prelude.{string_bytes}
use Rattle.std.proofs.lemmas.List.{get_or-map}
use Rattle.tool_commands.proofs.judging.name.Goals as goal

pub returns : goal.returns
returns c =
    c.as_bytes.ensures.value ∙ c.as_str.ensures.value ∙ ap (λ w. string_bytes w) c.index-names-place.is
    ∙ sym (get_or-map (λ w. string_bytes w) c.args.names.now c.args.place c.index-names-place.result [] c.requires)
