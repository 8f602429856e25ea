use Rattle.std.proofs.Common.{◌≡◌, ℕ}
use Rattle.call_graph.specs.Bits.{is_member}
use Rattle.call_graph.proofs.Growing.{held_more}
use Rattle.call_graph.specs.Reached.{used_by}
use Rattle.call_graph.proofs.lists.user_sets.Goals as goal

pub loop-number-preserved : goal.loop-number-preserved
loop-number-preserved c =
    let h =
    held_more ℕ (λ f x. (t : ℕ) → is_member x t ≡ used_by c.args.funcs.now c.args.rows.now f t) c.loop-number.list.items c.push.new.list.items c.reaching_tasks.result 0 c.loop-number.number
    c.loop-number.invariant.count (λ f lt t. c.loop-number.invariant.sets f t lt) c.in_ok-push.ensures c.reaching_tasks.ensures in
    record { count = h.count; sets = λ f t lt. h.each f lt t }
