use Rattle.std.proofs.Common.{◌∙◌, ap}
use Rattle.std.specs.Prelude.{◌&&◌, not, codes}
use Rattle.std.proofs.lemmas.Result.{on_ok_weaker}
use Rattle.sloth_base.specs.declared.refusal.Code.TheVariants.{O13, O15}
use Rattle.sloth_base.specs.declared.refusal.Part.TheVariants.{Oil}
use Rattle.oil_table.specs.Cases.{OilCase}
use Rattle.oil_table.specs.Objects.{is_use, number_of}
use Rattle.oil_rules.specs.TaskFaults.{is_taken, repeats_priority, shares_bit}
use Rattle.stage_faults.proofs.Telling.{case_is, adds_both}
use Rattle.stage_faults.proofs.oil_objects.add_task_faults.Goals as goal

pub returns : goal.returns
returns c =
    let x = c.args.attr.now in
    let front = c.args.front.now in
    let before = c.args.before.now in
    let repeats = repeats_priority front before.attrs x in
    let shares = shares_bit before.events before.attrs x in
    let a = c.args.notes.now.items in
    let b = c.add_bare.new.notes.items in
    let d = c.add_named.new.notes.items in
    let one = case_is Oil repeats c.repeats_priority-repeated.result x.line O13 a b
    (c.repeats_priority-repeated.ensures ∙ ap (λ t. (is_use (codes "PRIORITY") x && not t) && is_taken front (number_of x.value)) c.requires) (c.in_ok-add_bare.ensures Oil) in
    on_ok_weaker c.add_named.result
    (λ told. adds_both Oil (OilCase repeats x.line O13) (OilCase shares x.line O15) a b d one (case_is Oil shares c.shares_bit-shared.result x.line O15 b d c.shares_bit-shared.ensures (told Oil)))
    c.add_named.ensures
