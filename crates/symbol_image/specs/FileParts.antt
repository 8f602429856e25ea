-- What a file for debuggers is made from.
use Rattle.std.specs.Prelude.{ℕ, List, length}
use Rattle.sloth_base.specs.declared.app.App.{App}
use Rattle.sloth_base.specs.declared.config.Config.{Config}
use Rattle.sloth_region.specs.declared.region.Map.{Map}
use Rattle.mem_map.specs.Zones.{data_zone}
use Rattle.map_text.specs.Borders.{HasBorders}
use Rattle.map_text.specs.declared.line_places.Origins.{Origins}
use Rattle.symbol_image.specs.FrameRows.{HasFrames}
use Rattle.symbol_image.specs.WordSymbols.{HasWords}

-- the name of the source, what it means with its configuration, the map that is planned for it, where it declares its symbols and its lines come from,
-- and the image's memory
pub record FileParts : Type 0 where
  pub source : List ℕ
  pub config : Config
  pub app : App
  pub map : Map
  pub origins : Origins
  pub memory : List ℕ

-- task code within its limits, and the map of an image with this memory
pub record MayShow (parts : FileParts) : Type 0 where
  pub words : HasWords parts.config
  pub borders : HasBorders parts.map (length parts.memory)
  pub frames : HasFrames parts.app parts.map.places (data_zone parts.map).base
