use Rattle.std.proofs.Common.{◌≡◌, ℕ, ◌&&◌, get_or}
use Rattle.sloth_base.specs.Options.{is_number}
use Rattle.call_graph.specs.Bits.{is_member}
use Rattle.call_graph.specs.Reached.{any_below, func_of, reaches_by}
use Rattle.call_graph.proofs.rows.reaching_tasks.Given as goal

abbrev pub invariant-loop-number : goal.invariant-loop-number
invariant-loop-number l = (t : ℕ) → is_member l.users t ≡ any_below l.number (λ b. reaches_by b (get_or l.rows b 0) l.to && is_number t (func_of l.funcs b).task)
