use Rattle.std.proofs.Common.{refl, arith}
use Rattle.std.proofs.lemmas.List.{get_or-replicate}
use Rattle.mem_map.proofs.planning.with_ticks.Goals as goal

pub loop-counter-init : goal.loop-counter-init
loop-counter-init c = (λ k l. absurd (omega (arith, l)), λ k l other. get_or-replicate 32 k c.args.idle 0 l, refl)
