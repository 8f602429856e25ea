-- The answers of `elf` and `unelf`.
use Rattle.std.specs.Prelude.{ℕ, ◌≡◌, List, length}
use Rattle.sloth_base.specs.declared.image.Image.{Image}
use Rattle.image_file.specs.ImageText.{ImageText}
use Rattle.image_file.specs.Faults.{IsFirstImageFault as ImageFaulty}
use Rattle.elf_image.specs.ElfText.{ElfText}
use Rattle.elf_image.specs.Faults.{IsFirstElfFault as ElfFaulty}
use Rattle.tool_commands.specs.Lines.{written_line}
use Rattle.command_line.specs.declared.answer.ToolAnswer.{ToolAnswer}
use Rattle.command_line.specs.declared.answer.ToolAnswer.TheVariants as answer

-- the two files are of one image: an image file and its ELF file
abbrev pub AreOfOneImage : List ℕ → List ℕ → Type 0
AreOfOneImage img elf = (image : Image) × ImageText img image × ElfText elf image

-- `elf`: the ELF file of the image file, or the image file's first fault
abbrev pub IsElfAnswer : List ℕ → ToolAnswer → Type 0
IsElfAnswer file (answer.Done outcome) = AreOfOneImage file outcome.file × (outcome.text ≡ written_line (length outcome.file))
IsElfAnswer file (answer.NotAnImage fault) = ImageFaulty fault file
IsElfAnswer file (answer.Refused refusal) = ⊥
IsElfAnswer file (answer.Stopped pc stop) = ⊥
IsElfAnswer file (answer.NotAnElf fault) = ⊥
IsElfAnswer file (answer.BadTrace fault) = ⊥
IsElfAnswer file answer.NoHolds = ⊥
IsElfAnswer file (answer.Unmet lines) = ⊥
IsElfAnswer file (answer.Explained kind lines) = ⊥
IsElfAnswer file answer.NoTask = ⊥

-- `unelf`: the image file of the ELF file, or the ELF file's first fault
abbrev pub IsUnelfAnswer : List ℕ → ToolAnswer → Type 0
IsUnelfAnswer file (answer.Done outcome) = AreOfOneImage outcome.file file × (outcome.text ≡ written_line (length outcome.file))
IsUnelfAnswer file (answer.NotAnElf fault) = ElfFaulty fault file
IsUnelfAnswer file (answer.Refused refusal) = ⊥
IsUnelfAnswer file (answer.Stopped pc stop) = ⊥
IsUnelfAnswer file (answer.NotAnImage fault) = ⊥
IsUnelfAnswer file (answer.BadTrace fault) = ⊥
IsUnelfAnswer file answer.NoHolds = ⊥
IsUnelfAnswer file (answer.Unmet lines) = ⊥
IsUnelfAnswer file (answer.Explained kind lines) = ⊥
IsUnelfAnswer file answer.NoTask = ⊥
