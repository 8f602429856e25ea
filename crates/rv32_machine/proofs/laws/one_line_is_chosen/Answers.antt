use Rattle.sloth_base.proofs.Choosing.{only_choice}
use Rattle.rv32_machine.proofs.laws.one_line_is_chosen.Goals as goal

pub returns : goal.returns
returns c lines level one other = only_choice lines level one other
