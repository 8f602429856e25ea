use Rattle.std.proofs.Common.{◌≡◌, sym, subst, arith}
use Rattle.sloth_base.specs.MemoryMap.{line_count}
use Rattle.vector_gen.specs.Vectors.{AreJumps, StepToHandlers}
use Rattle.vector_gen.proofs.Jumping.{jumps_more}
use Rattle.vector_gen.proofs.Stepping.{step_to_handlers}
use Rattle.vector_gen.proofs.boot_code.vectors.Goals as goal

pub loop-line-preserved : goal.loop-line-preserved
loop-line-preserved c = jumps_more c.loop-line.line c.args.map.now.handlers c.loop-line.code.items _ c.jump.result c.loop-line.invariant c.in_ok-put.ensures c.jump.ensures.jumps

pub returns-clause-steps : goal.returns-clause-steps
returns-clause-steps c =
    let handlers = c.args.map.now.handlers in
    let past = c.loop-line-test.false in
    let most = c.loop-line.auto.line-end in
    let e : c.loop-line.line ≡ line_count = omega arith in
    let words = subst (λ n. AreJumps n handlers c.loop-line.code.items) e c.loop-line.invariant in
    subst (StepToHandlers handlers) (sym c.from_vec.ensures) (step_to_handlers handlers c.loop-line.code.items c.requires words)
