-- The file of an image that is built.
use Rattle.std.specs.Prelude.{ℕ, ◌≡◌, ◌+◌, ◌<◌, ◌≤◌, List, length, slice_index}
use Rattle.sloth_base.specs.MemoryMap.{memory_base}
use Rattle.sloth_base.specs.declared.app.App.{App}
use Rattle.sloth_base.specs.declared.config.Config.{Config}
use Rattle.sloth_base.specs.declared.image.Image.{Image}
use Rattle.symbol_image.specs.FileParts.{MayShow}
use Rattle.map_text.specs.declared.line_places.Origins.{Origins}
use Rattle.symbol_image.specs.Loading.{Loads}
use Rattle.symbol_build.specs.SymbolFiles.{IsBuilt, IsFileOfImage, parts_of}

-- what it is made from can be shown, so all laws of such files hold of it
abbrev pub BuiltMayShow : Type 0
BuiltMayShow = (config : Config) (app : App) (name : List ℕ) (origins : Origins) (image : Image) (built : IsBuilt config app image)
    → MayShow (parts_of name origins config app built.planned.by_map.map image.memory)

-- a byte of the image is loaded to its address by one segment, and by no other
pub record IsLoadedOnce (file : List ℕ) (image : Image) (i : ℕ) : Type 0 where
  pub number : ℕ
  pub loads : Loads file number (memory_base + i) (slice_index image.memory i)
  pub alone : (other byte : ℕ) → Loads file other (memory_base + i) byte → other ≡ number

-- so each byte of the image is loaded, and nothing else
pub record LoadsImage (file : List ℕ) (image : Image) : Type 0 where
  pub each : (i : ℕ) → i < length image.memory → IsLoadedOnce file image i
  pub only : (number address byte : ℕ) → Loads file number address byte → (memory_base ≤ address) × (address < memory_base + length image.memory)

abbrev pub BuiltMemoryIsLoaded : Type 0
BuiltMemoryIsLoaded = (config : Config) (app : App) (name : List ℕ) (origins : Origins) (image : Image) (file : List ℕ) → IsFileOfImage config app name origins image file
    → LoadsImage file image
