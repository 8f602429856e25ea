use Rattle.std.proofs.Common.{List, None, arith, false, get_or, inl, inr, length, refl, subst, sym, ◌≤◌, ℕ}
use Rattle.sloth_base.specs.Named.{declaration}
use Rattle.walk_sums.specs.declared.sections.RoundSums.{RoundSums}
use Rattle.run_costs.specs.Rounds.{AreRounds}
use Rattle.bound_rules.specs.declared.bound.Summary.{Summary}
use Rattle.walk_sums.specs.declared.levels.Kind.TheVariants as kinds
use Rattle.walk_sums.specs.Known.{AreSums}
use Rattle.run_costs.specs.Tables.{no_sums, AreTurns}
use Rattle.run_costs.proofs.Growing.{each_more, each_of}
use Rattle.run_costs.proofs.rounds.round_sums.Goals as goal

pub whole_sums-requires-clause-summed : goal.whole_sums-requires-clause-summed
whole_sums-requires-clause-summed c = inr (inl (refl, inr refl))

pub task_rounds-sum-requires-clause-rounds : goal.task_rounds-sum-requires-clause-rounds
task_rounds-sum-requires-clause-rounds c =
    subst (λ (l : List Summary). AreSums c.args.walks.now.config c.args.walks.now.app c.args.weights.now kinds.Rounds None l) (sym c.deref.ensures.value) c.in_ok-rounds.ensures

pub task_rounds-sum-requires-clause-turns : goal.task_rounds-sum-requires-clause-turns
task_rounds-sum-requires-clause-turns c =
    subst (λ (l : List Summary). AreTurns c.args.walks.now.config c.args.walks.now.app c.args.weights.now c.args.clean.now l) (sym c.deref-in-loop-task.ensures.value) c.in_ok-turns.ensures

pub loop-task-preserved : goal.loop-task-preserved
loop-task-preserved c =
    each_more (RoundSums) (λ t. AreRounds c.args.walks.now.app (get_or c.args.clean.now t false) (declaration c.args.walks.now.config t).extended t c.args.weights.now) c.loop-task.sums.items c.push.new.list.items c.task_rounds-sum.result (no_sums) c.loop-task.task c.loop-task.invariant c.in_ok-push.ensures c.task_rounds-sum.ensures

pub returns : goal.returns
returns c =
    let over = subst (λ (n : ℕ). n ≤ c.loop-task.task) c.tasks-task-end.ensures.is c.loop-task-test.false in
    let most = subst (λ (n : ℕ). c.loop-task.task ≤ n) c.tasks-task-end.ensures.is c.loop-task.auto.task-end in
    each_of (RoundSums) (λ t. AreRounds c.args.walks.now.app (get_or c.args.clean.now t false) (declaration c.args.walks.now.config t).extended t c.args.weights.now) c.loop-task.sums.items (no_sums) c.loop-task.task (length c.args.walks.now.config.tasks) (omega (arith, over, most)) c.loop-task.invariant
