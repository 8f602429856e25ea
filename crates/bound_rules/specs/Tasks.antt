-- What is told of a task, by the summaries of all functions.
use Rattle.std.specs.Prelude.{ℕ, ◌+◌, ltb, cond, List, get_or}
use Rattle.sloth_base.specs.declared.config.TaskDecl.{TaskDecl}
use Rattle.sloth_base.specs.declared.app.Func.{Func}
use Rattle.sloth_base.specs.Named.{undeclared_task, body_of}
use Rattle.sloth_base.specs.Limits.{count_limit}
use Rattle.bound_rules.specs.declared.bound.Bound.{Bound}
use Rattle.bound_rules.specs.declared.bound.Bound.TheVariants as bound
use Rattle.bound_rules.specs.declared.bound.Summary.{Summary}
use Rattle.bound_rules.specs.Summaries.{summary_of}

-- a task by its number
abbrev pub task_at : List TaskDecl → ℕ → TaskDecl
task_at tasks t = get_or tasks t undeclared_task

-- the summary of a task's body: a task that is not preemptable counts as always raised
abbrev pub task_summary : List TaskDecl → List Func → (whole own : List Summary) → ℕ → Summary
task_summary tasks funcs whole own t =
    cond (task_at tasks t).non (summary_of whole (body_of funcs t)) (summary_of own (body_of funcs t))

-- what is told of a greatest size, counted up to a little more than is told
abbrev pub told : ℕ → Bound
told most = cond (ltb most count_limit) (bound.Items (most + 1)) bound.Huge
