use Rattle.std.proofs.Common.{◌∙◌, ap}
use Rattle.std.proofs.lemmas.Result.{on_ok_weaker}
use Rattle.sloth_base.specs.declared.refusal.Code.TheVariants.{O7}
use Rattle.sloth_base.specs.declared.refusal.Part.TheVariants.{Oil}
use Rattle.oil_table.specs.Table.{place_of, is_nowhere}
use Rattle.stage_faults.proofs.Telling.{case_is}
use Rattle.stage_faults.proofs.oil_objects.add_kind.Goals as goal

pub returns : goal.returns
returns c =
    let o = c.args.object.now in
    let a = c.args.notes.now.items in
    let b = c.add_named.new.notes.items in
    let e = c.is_nowhere-is_strange.ensures ∙ ap is_nowhere (c.place_of.ensures ∙ ap place_of c.bytes-kind.ensures) in
    on_ok_weaker c.add_named.result (λ told. case_is Oil (is_nowhere (place_of o.kind)) c.is_nowhere-is_strange.result o.line O7 a b e (told Oil)) c.add_named.ensures
