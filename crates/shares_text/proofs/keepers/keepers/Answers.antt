use Rattle.std.proofs.Common.{◌<◌, ◌++◌, List, length, Some, None, sym, subst}
use Rattle.shares_text.specs.declared.keepers.Keeper.{Keeper}
use Rattle.shares_text.specs.Computed.{AreKeepersBy}
use Rattle.shares_text.proofs.Listing.{below, smaller, priority_read, fronts_more, fronts_all}
use Rattle.shares_text.proofs.keepers.keepers.Goals as goal

pub loop-task-smaller : goal.loop-task-smaller
loop-task-smaller c =
    let tasks = c.args.tasks.now in
    let next = c.in-Some.ensures in
    subst (λ x. x < below tasks c.loop-task.above) (sym (priority_read tasks c.in-Some.task c.index-tasks-task.result next.0))
    (smaller tasks c.args.users c.loop-task.above (length tasks) c.in-Some.task next)

pub loop-task-preserved : goal.loop-task-preserved
loop-task-preserved c = λ rest are.
    let tasks = c.args.tasks.now in
    let next = c.in-Some.ensures in
    let read = priority_read tasks c.in-Some.task c.index-tasks-task.result next.0 in
    subst (λ (l : List Keeper). AreKeepersBy tasks c.args.ceilings.now c.args.users c.args.uses.now None (l ++ rest)) (sym {A = List Keeper} c.in_ok-push-in-Some.ensures)
    (fronts_more tasks c.args.ceilings.now c.args.users c.args.uses.now c.loop-task.above c.loop-task.list.items c.user_keeper.result c.in-Some.task c.loop-task.invariant next
    c.user_keeper.ensures rest
    (subst (λ x. AreKeepersBy tasks c.args.ceilings.now c.args.users c.args.uses.now (Some x) rest) read are))

pub returns-in-None : goal.returns-in-None
returns-in-None c =
    fronts_all c.args.tasks.now c.args.ceilings.now c.args.users c.args.uses.now c.loop-task.above c.loop-task.list.items c.loop-task.invariant c.in-None.ensures
