use Rattle.std.proofs.Common.{◌∙◌, [], List, ℕ, take, ap, sym}
use Rattle.std.proofs.lemmas.List.Sums.{fold_more}
use Rattle.oil_rules.specs.Configs.{with_resource, listed_resource, resources_of}
use Rattle.oil_rules.proofs.resolving.listed_resources.Goals as goal

pub loop-attr-preserved : goal.loop-attr-preserved
loop-attr-preserved c =
    let names = c.args.names.now in
    let attrs = c.args.attrs.now in
    let i = c.loop-attr.attr-index in
    let x = c.attr-item.result in
    c.in_ok-add_resource.ensures ∙ ap (λ (l : List ℕ). with_resource l c.listed_resource.result) c.loop-attr.invariant
    ∙ ap (with_resource (resources_of names (take i attrs))) (c.listed_resource.ensures ∙ ap (listed_resource names) c.attr-item.is)
    ∙ sym (fold_more (λ listed attr. with_resource listed (listed_resource names attr)) [] attrs i x c.loop-attr-test.true)
