use Rattle.sloth_commands.proofs.BuiltRegisters.{built-images-show-registers}
use Rattle.sloth_commands.proofs.laws.built_images_show_registers.Goals as goal

pub returns : goal.returns
returns c = built-images-show-registers
