-- What debuggers show of an image that is built, by the file that `orti` writes of its texts.
use Rattle.std.specs.Prelude.{ℕ, ◌≡◌, List}
use Rattle.sloth_base.specs.declared.app.App.{App}
use Rattle.sloth_base.specs.declared.config.Config.{Config}
use Rattle.sloth_base.specs.declared.image.Image.{Image}
use Rattle.sloth_region.specs.declared.region.Map.{Map}
use Rattle.sloth_source.specs.Texts.{AreAccepted}
use Rattle.orti_text.specs.OrtiTable.{orti_table}
use Rattle.orti_text.specs.OrtiText.{IsOrtiText}
use Rattle.orti_text.specs.Tables.{table_text}
use Rattle.debug_view.specs.RightFiles.{ShowsFormulas}
use Rattle.core_commands.specs.Top.{IsBuiltImage}

-- the file is that of this map, and wherever a run of the image finds interrupts open each formula shows what the abstract scheduler has
pub record IsRightFile (config : Config) (app : App) (image : Image) (map : Map) (text : List ℕ) : Type 0 where
  pub is : text ≡ table_text (orti_table config map)
  pub shows : ShowsFormulas config app image map

-- so it is of an image that is built, the file of its texts, and the map by which each piece of the image stands
abbrev pub BuiltFilesAreRight : Type 0
BuiltFilesAreRight =
    (oil src text : List ℕ) (config : Config) (app : App) (image : Image) → AreAccepted oil src config app → (built : IsBuiltImage config app image)
    → IsOrtiText oil src text → IsRightFile config app image built.planned.by_map.map text
