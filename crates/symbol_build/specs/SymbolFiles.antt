-- The file of the image of two texts that debuggers read.
use Rattle.std.specs.Prelude.{ℕ, ◌≡◌, List}
use Rattle.sloth_base.specs.ImageRange.{InFormat}
use Rattle.sloth_base.specs.DeclaredNames.{counter_names, task_names}
use Rattle.sloth_base.specs.declared.app.App.{App}
use Rattle.sloth_base.specs.declared.config.Config.{Config}
use Rattle.sloth_base.specs.declared.image.Image.{Image}
use Rattle.sloth_region.specs.declared.region.Map.{Map}
use Rattle.rv32_expand.specs.InPlace.{ItemsInPlace}
use Rattle.sim_induction.specs.Paced.{InPace}
use Rattle.sim_induction.specs.Sound.{Sound}
use Rattle.sim_induction.specs.Weighed.{Weighed}
use Rattle.sim_laws.specs.TaskStates.{HasTaskStates}
use Rattle.asm_lines.specs.Faults.{source_lines}
use Rattle.sloth_build.specs.ImageOf.{HasPlannedMap}
use Rattle.sloth_source.specs.Texts.{AreAccepted}
use Rattle.symbol_image.specs.FileParts.{FileParts}
use Rattle.map_text.specs.LinePlaces.{line_origins}
use Rattle.symbol_image.specs.SymbolFile.{symbol_file}
use Rattle.map_text.specs.declared.line_places.Origins.{Origins}
use Rattle.text_pieces.specs.Lines.{lines}

-- An image of a configuration and its task code, as it is built: each of its runs is one of the abstract scheduler, no stretch takes more than its
-- weight, its events keep the pace, the machine shows its task states, its items are in place, its numbers and names are those of an image file, and
-- each of its pieces stands where the planned map has it.
pub record IsBuilt (config : Config) (app : App) (image : Image) : Type 0 where
  pub sound : Sound config app image
  pub weighed : Weighed config app image
  pub paced : InPace config app image
  pub shows : HasTaskStates config app image
  pub items : ItemsInPlace image config app
  pub format : InFormat image
  pub names : image.tasks ≡ task_names config
  pub counters : image.counters ≡ counter_names config
  pub planned : HasPlannedMap config app image

-- where a source declares its symbols, and where its lines come from
abbrev pub source_origins : (src : List ℕ) → Origins
source_origins src = line_origins (lines src) (source_lines src)

-- what the file is made from, of a source with this name and these origins
abbrev pub parts_of : (name : List ℕ) → Origins → Config → App → Map → (memory : List ℕ) → FileParts
parts_of name origins config app map memory =
    record { source = name; config = config; app = app; map = map; origins = origins; memory = memory }

-- the file is that of an image which is built, by its own map: so each symbol and each line has the address where that image has the piece or the item
pub record IsFileOfImage (config : Config) (app : App) (name : List ℕ) (origins : Origins) (image : Image) (file : List ℕ) : Type 0 where
  pub is_built : IsBuilt config app image
  pub is : file ≡ symbol_file (parts_of name origins config app is_built.planned.by_map.map image.memory)

-- the texts are accepted, and the file is that of an image which is built of what they mean; the second text has this name
pub record IsSymbolFile (oil src name file : List ℕ) : Type 0 where
  pub config : Config
  pub app : App
  pub image : Image
  pub accepted : AreAccepted oil src config app
  pub of_image : IsFileOfImage config app name (source_origins src) image file

-- texts have one file for each image
abbrev pub OneSymbolFile : Type 0
OneSymbolFile =
    (oil src name one other : List ℕ) (h : IsSymbolFile oil src name one) (k : IsSymbolFile oil src name other) → h.image ≡ k.image → one ≡ other

-- The file of texts fits each image that is built of them: each symbol and each line has the address where that image has the piece or the item. The bytes
-- that it loads are those of the image that it was made from.
abbrev pub FitsEachImage : Type 0
FitsEachImage =
    (oil src name file : List ℕ) (h : IsSymbolFile oil src name file) (image : Image) (built : IsBuilt h.config h.app image)
    → file ≡ symbol_file (parts_of name (source_origins src) h.config h.app built.planned.by_map.map h.image.memory)
