use Rattle.std.proofs.Common.{◌∙◌, ap, sym, arith}
use Rattle.sloth_base.specs.declared.app.Label.{Label}
use Rattle.sloth_base.specs.Named.{label_of}
use Rattle.code_rules.specs.Code.{held_list_fallen_into}
use Rattle.task_verify.specs.Labels.{last_label_below, list_of}
use Rattle.task_verify.proofs.Labelled.{last_inside, entering_is}
use Rattle.task_verify.proofs.Lists.{label_is}
use Rattle.fault_witnesses.proofs.breaches.held_entering.Goals as goal

pub held_at_label-requires : goal.held_at_label-requires
held_at_label-requires c =
    let f = c.args.func.now in
    let k = c.args.label in
    let inside = c.requires.inside in
    λ j e. let below = last_inside f.labels (label_of f k).item k j (sym c.label_before.ensures ∙ e) in omega (arith, inside, below)

pub returns : goal.returns
returns c =
    let f = c.args.func.now in
    let k = c.args.label in
    let same = label_is f c.items.result.now k c.index-items-label.result c.items.ensures c.requires.inside c.index-items-label.is in
    let fallen = c.in_ok-falling.ensures ∙ ap (λ (y : Label). held_list_fallen_into f y.item) (sym c.index-items-label.is ∙ same) in
    c.in_ok-held.ensures ∙ ap (λ o. list_of f.labels o c.in_ok-falling.falling.items) c.label_before.ensures
    ∙ ap (λ h. list_of f.labels (last_label_below f.labels (label_of f k).item k) h) fallen ∙ sym (entering_is f k c.requires.inside)
