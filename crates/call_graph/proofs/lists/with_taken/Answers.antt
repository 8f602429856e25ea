use Rattle.std.proofs.Common.{ap, ◌∙◌}
use Rattle.call_graph.specs.Rows.{is_taking}
use Rattle.call_graph.proofs.lists.with_taken.Goals as goal

pub with_object-requires : goal.with_object-requires
with_object-requires c = λ r h. c.requires r (ap (is_taking r) c.in-Serve.is ∙ h)
