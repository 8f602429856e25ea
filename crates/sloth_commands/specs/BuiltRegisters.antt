-- The registers that `debug` shows of the tasks of an image that is built.
use Rattle.sloth_base.specs.declared.app.App.{App}
use Rattle.sloth_base.specs.declared.config.Config.{Config}
use Rattle.sloth_base.specs.declared.image.Image.{Image}
use Rattle.debug_view.specs.TaskRegisters.{ShowsRegisters}
use Rattle.core_commands.specs.Top.{IsBuiltImage}

-- wherever a run of the image finds interrupts open, they are those of the abstract scheduler, by the map by which each piece of the image stands
abbrev pub BuiltImagesShowRegisters : Type 0
BuiltImagesShowRegisters =
    (config : Config) (app : App) (image : Image) → (built : IsBuiltImage config app image) → ShowsRegisters config app image built.planned.by_map.map
