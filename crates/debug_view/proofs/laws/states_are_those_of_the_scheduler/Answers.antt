use Rattle.debug_view.proofs.Last.{shown_state}
use Rattle.debug_view.proofs.laws.states_are_those_of_the_scheduler.Goals as goal

pub returns : goal.returns
returns c config app image shows same arrivals n k count s come within here below steps t unused own =
    shown_state config app image shows same arrivals n k count s come within here below steps t unused own
