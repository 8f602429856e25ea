use Rattle.std.proofs.Common.{◌≡◌, ◌∙◌, ◌++◌, ℕ, List, [], get_or, ap}
use Rattle.std.proofs.lemmas.List.{get_or_default}
use Rattle.orti_text.specs.OrtiTable.{numbered_object}
use Rattle.orti_text.specs.Tables.{object_text}
use Rattle.orti_text.proofs.Steps.{object_more}
use Rattle.orti_text.proofs.tables.push_named.Goals as goal

pub loop-n-preserved : goal.loop-n-preserved
loop-n-preserved c =
    let config = c.args.config.now in
    let m = c.args.plan.now in
    let k = c.args.kind in
    let names = c.args.names.now in
    let n = c.loop-n.n in
    let name : c.bytes.result.now ≡ get_or names n [] =
    c.bytes.ensures ∙ c.index-names-n.is ∙ get_or_default names n c.index-names-n.result [] c.loop-n-test.true in
    object_more config m k names n _ _ _ c.loop-n-test.true
    (c.in_ok-push_object.ensures ∙ ap (λ (x : List ℕ). c.loop-n.text.items ++ object_text (numbered_object config m k n x)) name) c.loop-n.invariant
