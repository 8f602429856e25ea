-- The map that `map` prints is that of the image.
use Rattle.std.specs.Prelude.{ℕ, ◌≡◌, List}
use Rattle.sloth_base.specs.declared.app.App.{App}
use Rattle.sloth_base.specs.declared.config.Config.{Config}
use Rattle.sloth_base.specs.declared.image.Image.{Image}
use Rattle.sloth_source.specs.Texts.{AreAccepted}
use Rattle.sloth_build.specs.ImageOf.{HasPlannedMap}
use Rattle.map_text.specs.MapText.{IsMapText, map_text}

-- the lines of the map of texts are those of the map by which each piece of an image of these texts stands
abbrev pub PrintsMapOfImage : Type 0
PrintsMapOfImage =
    (oil src text : List ℕ) (config : Config) (app : App) (image : Image) → AreAccepted oil src config app → (has : HasPlannedMap config app image)
    → IsMapText oil src text → text ≡ map_text config app has.bounds has.by_map.map
