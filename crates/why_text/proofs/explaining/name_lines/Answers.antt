use Rattle.std.proofs.Common.{Option, subst}
use Rattle.std.specs.Prelude.{IfSome, IfNone}
use Rattle.std.proofs.lemmas.Result.{IfOk-weaker}
use Rattle.sloth_base.specs.declared.config.Config.{Config}
use Rattle.sloth_source.specs.OilText.{OilText}
use Rattle.why_text.specs.WhyLines.{TellsNamesFor, TellsNames}
use Rattle.why_text.proofs.FaultLines.{no_names, names_for_one}
use Rattle.why_text.proofs.explaining.name_lines.Goals as goal

pub returns-in-Some : goal.returns-in-Some
returns-in-Some c =
    let oil = c.args.oil.now in
    let src = c.args.src.now in
    let config = c.in-Some.config in
    let means = subst (λ (o : Option Config). IfSome o (OilText oil)) c.in-Some.is c.in_ok-config.ensures.means in
    IfOk-weaker c.names_text.result (TellsNamesFor config src) (TellsNames oil src) (λ lines t. names_for_one oil src lines config means t) c.names_text.ensures

pub returns-in-None : goal.returns-in-None
returns-in-None c =
    let oil = c.args.oil.now in
    let none = subst (λ (o : Option Config). IfNone o ((config : Config) → OilText oil config → ⊥)) c.in-None.is c.in_ok-config.ensures.none in
    no_names oil c.args.src.now c.no_lines.result none
