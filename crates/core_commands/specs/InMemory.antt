-- A store and a sink in memory, whose calls do not fail.
use Rattle.std.specs.Prelude.{◌≡◌, ◌+◌, ◌≤◌, ℕ, List, [], length, codes, IsTrue}
use Rattle.sloth_base.specs.declared.config.Config.{Config}
use Rattle.sloth_base.specs.declared.app.App.{App}
use Rattle.sloth_base.specs.declared.service.Arrival.{Arrival}
use Rattle.sloth_base.specs.declared.image.Image.{Image}
use Rattle.sloth_io.specs.MemStore.{files_of}
use Rattle.sloth_io.specs.Slots.{has_space}
use Rattle.sloth_io.specs.MemSink.{taken_by}
use Rattle.sloth_io.specs.declared.mem_store.MemStore.{MemStore}
use Rattle.sloth_io.specs.declared.mem_sink.MemSink.{MemSink}
use Rattle.image_file.specs.ImageText.{image_bytes}
use Rattle.command_line.specs.Command.{Building}
use Rattle.core_commands.specs.Samples.{sample_arrivals, sample_text}
use Rattle.core_commands.specs.Top.{IsBuiltImage, done_text}

-- the sink has space for a text
abbrev pub HasSinkRoom : MemSink → List ℕ → Type 0
HasSinkRoom sink text = length (taken_by sink) + length text ≤ sink.buffer.space

-- the store has space for a file of so many bytes
abbrev pub HasRoomFor : MemStore → List ℕ → ℕ → Type 0
HasRoomFor store name size = IsTrue (has_space name size (files_of store))

-- no call is to fail, and there is space for a last line
pub record NoneFails (store : MemStore) (sink : MemSink) : Type 0 where
  pub store_calls : store.fails.items ≡ []
  pub sink_calls : sink.fails.items ≡ []
  pub last_line : HasSinkRoom sink (codes "no memory\n")

-- and there is space for the image and for the lines of a command that builds
pub record AreEnough (store : MemStore) (sink : MemSink) (c : Building) (config : Config) (app : App) (arrivals : List Arrival) : Type 0 where
  pub calls : NoneFails store sink
  pub file : (image : Image) → IsBuiltImage config app image → HasRoomFor store c.img (length (image_bytes image))
  pub lines : (image : Image) → IsBuiltImage config app image → HasSinkRoom sink (done_text image arrivals c.run)

-- and there is space for the lines of a command on an image file
pub record AreEnoughForLines (store : MemStore) (sink : MemSink) (text : List ℕ) : Type 0 where
  pub calls : NoneFails store sink
  pub lines : HasSinkRoom sink text

-- and there is space for the image and for the summary of a generated application
pub record AreEnoughForSample (store : MemStore) (sink : MemSink) (seed : ℕ) (img : List ℕ) (config : Config) (app : App) : Type 0 where
  pub calls : NoneFails store sink
  pub file : (image : Image) → IsBuiltImage config app image → HasRoomFor store img (length (image_bytes image))
  pub lines : (image : Image) → IsBuiltImage config app image → HasSinkRoom sink (sample_text image (sample_arrivals seed))
