-- Which tools read an image file, and that a file is an image's.
use Rattle.std.specs.Prelude.{ℕ, List, Bool, true, false}
use Rattle.sloth_base.specs.declared.image.Image.{Image}
use Rattle.image_file.specs.ImageText.{ImageText}
use Rattle.command_line.specs.declared.tool.Tool.{Tool}
use Rattle.command_line.specs.declared.tool.Tool.TheVariants as tool

-- the first file that it reads is to be an image file
abbrev pub reads_image : Tool → Bool
reads_image tool.Elf = true
reads_image tool.Unelf = false
reads_image tool.Infer = false
reads_image tool.At = true
reads_image tool.AtAll = true
reads_image tool.Losses = false
reads_image tool.Wave = true
reads_image tool.Picture = true
reads_image tool.Check = false
reads_image tool.Bounds = false
reads_image tool.Latency = false
reads_image tool.LowerCounts = false
reads_image tool.Map = false
reads_image tool.Shares = false
reads_image tool.Response = false
reads_image tool.Why = false
reads_image tool.TaskBound = false
reads_image tool.TaskResponse = false
reads_image tool.Symbols = false
reads_image tool.Orti = false
reads_image tool.Labels = false
reads_image tool.TraceReason = false
reads_image tool.Unused = false
reads_image tool.RunResponse = false

-- these bytes are an image's
abbrev pub HasImage : List ℕ → Type 0
HasImage file = (image : Image) × ImageText file image
