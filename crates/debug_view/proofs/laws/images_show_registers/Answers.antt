use Rattle.debug_view.proofs.RegisterImages.{images_show_registers}
use Rattle.debug_view.proofs.laws.images_show_registers.Goals as goal

pub returns : goal.returns
returns c = images_show_registers
