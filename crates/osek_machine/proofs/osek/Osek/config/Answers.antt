use Rattle.std.proofs.Common.{subst}
use Rattle.osek_machine.specs.Steps.{IsSound, Machine}
use Rattle.osek_machine.proofs.osek.Osek.config.Goals as goal

pub returns-clause-sound : goal.returns-clause-sound
returns-clause-sound c = subst (λ (m : Machine). IsSound m.config m.app m.system) c.self.view_is c.self.invariant
