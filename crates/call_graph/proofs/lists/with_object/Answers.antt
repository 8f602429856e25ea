use Rattle.std.proofs.Common.{ap, ◌∙◌, refl}
use Rattle.std.specs.Prelude.{◌==◌, ◌&&◌}
use Rattle.std.proofs.lemmas.Bool.{eq-eqb}
use Rattle.call_graph.specs.Rows.{is_get}
use Rattle.call_graph.proofs.lists.with_object.Goals as goal

pub with-requires : goal.with-requires
with-requires c =
    let r = c.args.call.object in
    c.requires r (ap (λ s. is_get s && (r == r)) c.in-GetResource.is ∙ eq-eqb r r refl)
