use Rattle.losses_text.proofs.ReadTexts.{one_losses_text}
use Rattle.losses_text.proofs.laws.one_losses_text.Goals as goal

pub returns : goal.returns
returns c = one_losses_text
