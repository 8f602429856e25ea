use Rattle.std.proofs.Common.{◌≡◌, ◌∙◌, true, false, sym, ap, subst}
use Rattle.std.specs.Prelude.{Option, List, IfSome}
use Rattle.sloth_base.specs.declared.app.Func.{Func}
use Rattle.sloth_base.specs.declared.app.Op.{Op}
use Rattle.sloth_base.specs.Named.{item_of, operation}
use Rattle.fault_witnesses.specs.CallChains.{IsChain, chain_end}
use Rattle.fault_witnesses.specs.declared.chains.Link.{Link}
use Rattle.fault_witnesses.specs.Witnesses.{is_lacking, names_task}
use Rattle.fault_witnesses.proofs.Shown.{user_is, named_user_is}
use Rattle.fault_witnesses.proofs.users.one_user.Goals as goal

pub returns-then-names_task : goal.returns-then-names_task
returns-then-names_task c =
    let app = c.args.judged.now.app.now in
    let b = c.args.body in
    let i = c.args.item in
    let same : (item_of c.function-func.result.now i).op ≡ operation app b i = ap (λ (f : Func). (item_of f i).op) c.function-func.ensures in
    named_user_is c.args.judged.now.config.now app b i (record { task = c.args.task; body = b; event = c.event_lacked-event.result; links = c.from_vec-links.result })
    c.requires.task
    (subst (λ (o : Op). is_lacking c.args.judged.now.config.now c.args.task o ≡ true) (c.op.ensures ∙ same) (sym c.is_lacking.ensures ∙ c.if-not-is_lacking.false))
    (subst (λ (o : Op). names_task o ≡ true) (c.op-2.ensures ∙ same) (sym c.names_task.ensures ∙ c.if-names_task.true))
    (c.from_vec-links.ensures ∙ c.new.ensures.items)
    c.event_lacked-event.ensures

pub returns-in-Some-2 : goal.returns-in-Some-2
returns-in-Some-2 c =
    let app = c.args.judged.now.app.now in
    let b = c.args.body in
    let i = c.args.item in
    let same : (item_of c.function-func.result.now i).op ≡ operation app b i = ap (λ (f : Func). (item_of f i).op) c.function-func.ensures in
    let led =
    subst (λ (found : Option (List Link)). IfSome found (λ links. IsChain app c.in-Some.start links × (chain_end c.in-Some.start links ≡ b)))
    c.in-Some-2.is c.in_ok-links.ensures in
    user_is c.args.judged.now.config.now app b i (record { task = c.args.task; body = c.in-Some.start; event = c.event_lacked-event.result; links = c.in-Some-2.links })
    c.requires.task
    (subst (λ (o : Op). is_lacking c.args.judged.now.config.now c.args.task o ≡ true) (c.op.ensures ∙ same) (sym c.is_lacking.ensures ∙ c.if-not-is_lacking.false))
    (subst (λ (o : Op). names_task o ≡ false) (c.op-2.ensures ∙ same) (sym c.names_task.ensures ∙ c.if-names_task.false))
    c.in-Some.ensures led.0 led.1
    c.event_lacked-event.ensures
