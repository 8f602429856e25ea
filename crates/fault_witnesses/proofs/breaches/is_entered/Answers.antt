use Rattle.std.proofs.Common.{◌∙◌, ap, sym}
use Rattle.std.specs.Prelude.{◌||◌, is_some}
use Rattle.sloth_base.specs.Named.{label_of}
use Rattle.code_rules.specs.Code.{is_fallen_into}
use Rattle.task_verify.proofs.Labelled.{entered_is}
use Rattle.fault_witnesses.proofs.breaches.is_entered.Goals as goal

pub returns : goal.returns
returns c =
    let f = c.args.func.now in
    let k = c.args.label in
    c.enters.ensures ∙ ap (λ o. is_some o || is_fallen_into f (label_of f k).item) c.label_before.ensures ∙ sym (entered_is f k c.requires.inside)
