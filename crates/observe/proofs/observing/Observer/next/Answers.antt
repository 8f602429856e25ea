use Rattle.observe.proofs.Feeding.{told-empty, told-exact}
use Rattle.observe.proofs.observing.Observer.next.Goals as goal

pub returns-clause-exact : goal.returns-clause-exact
returns-clause-exact c steps events f = told-exact _ events _ _ _ f.told c.pop.ensures.pops c.pop.ensures.none

pub returns-clause-empty : goal.returns-clause-empty
returns-clause-empty c = told-empty _ _ _ c.pop.ensures.pops c.pop.ensures.none

pub returns-clause-drained : goal.returns-clause-drained
returns-clause-drained c = c.pop.ensures.none
