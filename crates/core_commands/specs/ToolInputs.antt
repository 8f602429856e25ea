-- What tools read.
use Rattle.std.specs.Prelude.{ℕ, List, [], ◌∷◌, IsTrue}
use Rattle.sloth_io.specs.Store.{Files}
use Rattle.command_line.specs.Tools.{ToolUse, file_names}
use Rattle.command_line.specs.ImageReaders.{reads_image}
use Rattle.core_commands.specs.FileInputs.{IsInput}

-- these are the files of these names, where the store tells its files, each of at most 4 MiB
abbrev pub AreToolInputs : Files → List (List ℕ) → List (List ℕ) → Type 0
AreToolInputs files [] [] = Unit {0}
AreToolInputs files [] (bytes ∷ rest) = ⊥
AreToolInputs files (name ∷ names) [] = ⊥
AreToolInputs files (name ∷ names) (bytes ∷ rest) = IsInput files name bytes × AreToolInputs files names rest

-- what is read of files of these names, where these are their bytes
abbrev pub input_deliveries : List (List ℕ) → List (List ℕ) → List (List ℕ × List ℕ)
input_deliveries [] inputs = []
input_deliveries (name ∷ names) [] = []
input_deliveries (name ∷ names) (bytes ∷ rest) = (name, bytes) ∷ input_deliveries names rest

-- the tool reads an image file first, which has these bytes
pub record ReadsImageFirst (files : Files) (u : ToolUse) (file : List ℕ) : Type 0 where
  pub rest : List (List ℕ)
  pub first : IsTrue (reads_image u.tool)
  pub read : AreToolInputs files (file_names u) (file ∷ rest)
