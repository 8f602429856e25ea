use Rattle.std.proofs.Common.{◌<◌, List, length, sym, subst}
use Rattle.sloth_base.specs.declared.app.Func.{Func}
use Rattle.sloth_base.specs.declared.config.TaskDecl.{TaskDecl}
use Rattle.osek_scheduler.proofs.Facts.{facts}
use Rattle.call_graph.specs.Tables.{HasTaskBody}
use Rattle.call_graph.proofs.Growing.{held_more}
use Rattle.shares_text.specs.declared.contexts.Contexts.{Contexts}
use Rattle.shares_text.specs.Contexts.{AreContexts}
use Rattle.shares_text.specs.Tables.{no_contexts}
use Rattle.shares_text.proofs.Spreading.{contexts_by}
use Rattle.shares_text.proofs.symbol_verdicts.all_ways.Goals as goal

pub body_of-body-requires : goal.body_of-body-requires
body_of-body-requires c =
    let task = c.loop-task.task in
    let inside = subst (λ (x : List TaskDecl). task < length x) c.items-task-end.ensures c.loop-task-test.true in
    let b = (facts c.args.config.now c.args.app.now c.requires.well_formed).in_range.tasks.body task inside in
    subst (λ (fs : List Func). HasTaskBody fs task) (sym c.items-funcs.ensures) (b.0, b.1.0, b.1.1)

pub loop-task-preserved : goal.loop-task-preserved
loop-task-preserved c =
    let config = c.args.config.now in
    let app = c.args.app.now in
    let task = c.loop-task.task in
    let inside = subst (λ (x : List TaskDecl). task < length x) c.items-task-end.ensures c.loop-task-test.true in
    let made =
    contexts_by config app task c.requires.well_formed inside c.args.calls.now c.requires.calls c.base_priority-priority.result
    (c.base_priority-priority.ensures app) c.items-funcs.result.now c.items-funcs.ensures c.body_of-body.result c.body_of-body.ensures.is
    c.in_ok-table.table.table c.in_ok-table.ensures in
    let g =
    held_more Contexts (λ t x. AreContexts config app t x.table) c.loop-task.tasks.items c.push.new.list.items c.in_ok-table.table no_contexts task
    c.loop-task.invariant.count c.loop-task.invariant.each c.in_ok-push.ensures made in
    record { count = g.count; each = g.each }
