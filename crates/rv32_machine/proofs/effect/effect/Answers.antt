use Rattle.std.proofs.Common.{subst, sym}
use Rattle.rv32_machine.specs.RegisterRange.{HasRegisterInRange}
use Rattle.rv32_machine.proofs.Fitting.{effect_fits}
use Rattle.rv32_machine.proofs.effect.effect.Goals as goal

pub returns-clause-fits : goal.returns-clause-fits
returns-clause-fits c = subst HasRegisterInRange (sym c.asked.ensures) (effect_fits c.args.kind c.args.pc c.args.x.now c.requires)
