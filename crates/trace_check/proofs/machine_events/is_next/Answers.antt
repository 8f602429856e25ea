use Rattle.std.proofs.Common.{◌∙◌}
use Rattle.osek_machine.proofs.Rooms.{enters, runs, serves, leaves, comes_back}
use Rattle.trace_check.proofs.Items.{there}
use Rattle.trace_check.proofs.machine_events.is_next.Goals as goal

pub returns-in-Enter : goal.returns-in-Enter
returns-in-Enter c =
    c.is_some.ensures ∙ there c.in-Enter.task c.args.store.now c.entry_plan.result _ (enters c.requires.sound c.in-Enter.is c.entry_plan.ensures).leads

pub returns-in-Run : goal.returns-in-Run
returns-in-Run c =
    c.is_some-in-Run.ensures ∙ there c.in-Run.task c.args.store.now c.running_plan.result _ (runs c.requires.sound c.in-Run.is c.running_plan.ensures).leads

pub returns-in-Call : goal.returns-in-Call
returns-in-Call c =
    c.is_some-in-Call.ensures ∙ there c.in-Call.task c.args.store.now c.answer_plan.result _ (serves c.requires.sound c.in-Call.is c.answer_plan.ensures).leads

pub returns-in-Left : goal.returns-in-Left
returns-in-Left c =
    c.is_some-in-Left.ensures ∙ there c.in-Left.task c.args.store.now c.leave_plan.result _ (leaves c.requires.sound c.in-Left.is c.leave_plan.ensures).leads

pub returns-in-Back : goal.returns-in-Back
returns-in-Back c =
    c.is_some-in-Back.ensures ∙ there c.in-Back.task c.args.store.now c.back_plan.result _ (comes_back c.requires.sound c.in-Back.is c.back_plan.ensures).leads
