use Rattle.std.proofs.Common.{refl, replicate}
use Rattle.trace_check.specs.Walk.{Walk}
use Rattle.trace_check.proofs.Walking.{walked_none, zeros_at}
use Rattle.trace_check.proofs.walk.Walk.new.Goals as goal

pub returns : goal.returns
returns c =
    let walk : Walk = record { machine = c.in_ok-osek.osek; moments = replicate 32 0 } in
    walked_none c.args.config.now c.args.app.now walk c.requires.in_range.configuration.few_tasks c.in_ok-osek.ensures refl (λ u. zeros_at 32 u)
