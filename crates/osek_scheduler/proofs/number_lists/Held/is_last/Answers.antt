use Rattle.std.proofs.Common.{◌∙◌, sym, ap}
use Rattle.sloth_base.specs.Options.{is_number}
use Rattle.code_rules.specs.Code.{is_last}
use Rattle.osek_scheduler.proofs.Lists.{last-get}
use Rattle.osek_scheduler.proofs.number_lists.Held.is_last.Goals as goal

pub returns-in-Some : goal.returns-in-Some
returns-in-Some c =
    let r = c.args.resource in
    ap (is_number r) c.in-Some.ensures.value ∙ (sym (last-get r c.items.result.now) ∙ ap (is_last r) c.items.ensures)

pub returns-in-None : goal.returns-in-None
returns-in-None c =
    let r = c.args.resource in
    ap (is_number r) c.in-None.ensures.value ∙ (sym (last-get r c.items.result.now) ∙ ap (is_last r) c.items.ensures)
