use Rattle.std.proofs.Common.{◌≡◌, ◌<◌, ◌≤◌, ℕ, length}
use Rattle.std.specs.Prelude.{slice_index, slice_index_or}
use Rattle.sloth_base.specs.declared.config.TaskDecl.{TaskDecl}
use Rattle.sloth_base.specs.PriorityLevels.{level_among}
use Rattle.sloth_base.specs.Limits.{task_limit}
use Rattle.prio_levels.proofs.task_levels.Given as goal

abbrev pub invariant-loop-number : goal.invariant-loop-number
invariant-loop-number l = record {
  done : (t : ℕ) (d : TaskDecl) → t < l.number → slice_index l.levels t ≡ level_among l.tasks (slice_index_or l.tasks t d).priority;
  rest : (t : ℕ) → l.number ≤ t → t < task_limit → slice_index l.levels t ≡ 0;
  whole : length l.levels ≡ task_limit;
}
