use Rattle.std.proofs.Common.{◌≡◌, ◌∙◌, ap}
use Rattle.oil_rules.specs.Configs.{resource_names}
use Rattle.oil_rules.proofs.resolving.resolve.Goals as goal

pub config_or_refusal-requires-clause-resource_numbers :
    goal.config_or_refusal-requires-clause-resource_numbers
config_or_refusal-requires-clause-resource_numbers c = c.in_ok-resources.ensures ∙ ap resource_names c.items-objects.ensures
