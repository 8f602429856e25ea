use Rattle.std.proofs.Common.{sym, subst}
use Rattle.sloth_base.specs.declared.app.Func.{Func}
use Rattle.code_rules.specs.WellFormed.{HasOtherList}
use Rattle.fault_witnesses.specs.declared.breaches.Place.{Place}
use Rattle.fault_witnesses.specs.Places.{IsBrokenAt}
use Rattle.fault_witnesses.proofs.breaches.is_broken.Goals as goal

pub returns-in_ok-other-in-Label : goal.returns-in_ok-other-in-Label
returns-in_ok-other-in-Label c = λ h.
    subst (λ (p : Place). IsBrokenAt c.args.judged.now.config.now c.args.judged.now.app.now c.args.judged.now.refusal p) (sym c.in-Label.is)
    (c.is_label_code.ensures c.if-not-is_label_code.false, subst (λ (f : Func). HasOtherList f c.in-Label.label) c.function-in-Label.ensures (c.in_ok-other-in-Label.ensures h))
