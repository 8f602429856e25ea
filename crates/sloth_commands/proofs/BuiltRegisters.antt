-- An image that is built is of a planned map, so `debug` shows the registers of the scheduler's tasks.
use Rattle.debug_view.proofs.RegisterImages.{images_show_registers}
use Rattle.sloth_commands.specs.BuiltRegisters.{BuiltImagesShowRegisters}

pub built-images-show-registers : BuiltImagesShowRegisters
built-images-show-registers config app image built = images_show_registers config app image built.well_formed built.sound built.items built.planned
