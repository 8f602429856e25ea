use Rattle.osek_machine.proofs.Rooms.{clocked, reads, admit-room, by_name, enters, runs, serves, leaves, comes_back}
use Rattle.osek_machine.proofs.Sound.{alike}
use Rattle.osek_machine.proofs.osek.step.Goals as goal

pub entry_plan-requires : goal.entry_plan-requires
entry_plan-requires c = reads c.requires

pub act-requires : goal.act-requires
act-requires c = (enters c.requires c.in-Enter.is c.entry_plan.ensures).room

pub returns-in-Enter : goal.returns-in-Enter
returns-in-Enter c = alike c.args.store.now c.act.new.store c.act.result (enters c.requires c.in-Enter.is c.entry_plan.ensures).leads c.act.ensures

pub running_plan-plan-requires : goal.running_plan-plan-requires
running_plan-plan-requires c = reads c.requires

pub act-requires-in-Run : goal.act-requires-in-Run
act-requires-in-Run c = (runs c.requires c.in-Run.is c.running_plan-plan.ensures).room

pub returns-in-Run : goal.returns-in-Run
returns-in-Run c = alike c.args.store.now c.act-in-Run.new.store c.act-in-Run.result (runs c.requires c.in-Run.is c.running_plan-plan.ensures).leads c.act-in-Run.ensures

pub answer_plan-plan-requires : goal.answer_plan-plan-requires
answer_plan-plan-requires c = reads c.requires

pub act-requires-in-Call : goal.act-requires-in-Call
act-requires-in-Call c = (serves c.requires c.in-Call.is c.answer_plan-plan.ensures).room

pub returns-in-Call : goal.returns-in-Call
returns-in-Call c = alike c.args.store.now c.act-in-Call.new.store c.act-in-Call.result (serves c.requires c.in-Call.is c.answer_plan-plan.ensures).leads c.act-in-Call.ensures

pub leave_plan-plan-requires : goal.leave_plan-plan-requires
leave_plan-plan-requires c = reads c.requires

pub act-requires-in-Left : goal.act-requires-in-Left
act-requires-in-Left c = (leaves c.requires c.in-Left.is c.leave_plan-plan.ensures).room

pub returns-in-Left : goal.returns-in-Left
returns-in-Left c = alike c.args.store.now c.act-in-Left.new.store c.act-in-Left.result (leaves c.requires c.in-Left.is c.leave_plan-plan.ensures).leads c.act-in-Left.ensures

pub act-requires-in-Back : goal.act-requires-in-Back
act-requires-in-Back c = (comes_back c.requires c.in-Back.is c.back_plan.ensures).room

pub returns-in-Back : goal.returns-in-Back
returns-in-Back c = alike c.args.store.now c.act-in-Back.new.store c.act-in-Back.result (comes_back c.requires c.in-Back.is c.back_plan.ensures).leads c.act-in-Back.ensures

pub admit-requires-clause-room : goal.admit-requires-clause-room
admit-requires-clause-room c = admit-room c.requires c.in-Admit.task

pub returns-in-Boot : goal.returns-in-Boot
returns-in-Boot c = alike c.args.store.now c.boot.new.store c.boot.result (by_name c.requires c.in-Boot.is) (c.boot.ensures c.args.app.now)

pub returns-in-Admit : goal.returns-in-Admit
returns-in-Admit c = alike c.args.store.now c.admit.new.store c.admit.result (by_name c.requires c.in-Admit.is) (c.admit.ensures c.args.app.now)

pub returns-in-Idle : goal.returns-in-Idle
returns-in-Idle c = alike c.args.store.now c.idle.new.store c.idle.result (by_name c.requires c.in-Idle.is) (c.idle.ensures c.args.app.now)

pub tick-requires-clause-clocked : goal.tick-requires-clause-clocked
tick-requires-clause-clocked c = clocked c.requires

pub returns-in-Due : goal.returns-in-Due
returns-in-Due c = alike c.args.store.now c.make_due.new.store c.make_due.result (by_name c.requires c.in-Due.is) (c.make_due.ensures c.args.app.now)

pub returns-in-Tick : goal.returns-in-Tick
returns-in-Tick c = alike c.args.store.now c.tick.new.store c.tick.result (by_name c.requires c.in-Tick.is) (c.tick.ensures c.args.app.now)
