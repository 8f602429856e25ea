use Rattle.std.proofs.Common.{◌≡◌, ◌&&◌, get_or, length}
use Rattle.call_graph.specs.Reached.{any_below, func_of}
use Rattle.shares_text.specs.UsesBy.{has_task, is_function_use}
use Rattle.shares_text.proofs.uses.is_code_use.Given as goal

abbrev pub invariant-loop-place : goal.invariant-loop-place
invariant-loop-place l =
    l.used ≡ any_below l.place (λ f. has_task (length l.config.tasks) (get_or l.users f 0) && is_function_use l.config l.kind l.number (func_of l.funcs f))
