use Rattle.orti_text.proofs.ByState.{values_by_state}
use Rattle.orti_text.proofs.laws.values_by_state.Goals as goal

pub returns : goal.returns
returns c = values_by_state
