use Rattle.osek_machine.specs.Steps.{Machine}
use Rattle.osek_machine.proofs.Sound.{sound-after, steps-ok, steps-err, steps-same}
use Rattle.osek_machine.proofs.osek.Osek.step.Goals as goal

pub invariant_of-self : goal.invariant_of-self
invariant_of-self c =
    let inside = c.self.inside in
    sound-after inside.config.now inside.app.now inside.store c.self.invariant c.args.event.now c.step.new.store c.step.result c.step.ensures

pub returns-clause-next : goal.returns-clause-next
returns-clause-next c =
    let inside : Machine = record { config = c.self.inside.config.now; app = c.self.inside.app.now; system = c.self.inside.store } in
    steps-ok inside c.args.self.now c.self.view_is c.args.event.now c.step.new.store c.step.result c.step.ensures

pub returns-clause-none : goal.returns-clause-none
returns-clause-none c =
    let inside : Machine = record { config = c.self.inside.config.now; app = c.self.inside.app.now; system = c.self.inside.store } in
    steps-err inside c.args.self.now c.self.view_is c.args.event.now c.step.new.store c.step.result c.step.ensures

pub returns-clause-same : goal.returns-clause-same
returns-clause-same c =
    let inside : Machine = record { config = c.self.inside.config.now; app = c.self.inside.app.now; system = c.self.inside.store } in
    steps-same inside c.args.self.now c.self.view_is c.args.event.now c.step.new.store c.step.result c.step.ensures
