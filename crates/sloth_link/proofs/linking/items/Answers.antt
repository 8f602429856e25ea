use Rattle.sloth_link.proofs.Counting.{function_more}
use Rattle.sloth_link.proofs.linking.items.Goals as goal

pub loop-func-preserved : goal.loop-func-preserved
loop-func-preserved c =
    function_more c.args.app.now c.args.places.now c.loop-func.func _ _ c.in_ok-of_function.field-0.items c.in_ok-append.ensures.items c.loop-func.invariant c.in_ok-of_function.ensures
