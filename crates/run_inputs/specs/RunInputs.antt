-- What is read for a run of an image file: the image, and the arrivals.
use Rattle.std.specs.Prelude.{ℕ, ◌≡◌, List}
use Rattle.sloth_base.specs.declared.service.Arrival.{Arrival}
use Rattle.sloth_base.specs.declared.image.Image.{Image}
use Rattle.sloth_base.specs.declared.refusal.BuildError.{BuildError}
use Rattle.sloth_base.specs.declared.refusal.BuildError.TheVariants as error
use Rattle.sloth_base.specs.declared.refusal.Refusal.{Refusal}
use Rattle.sloth_base.specs.Order.{IsLeast, NoFault}
use Rattle.image_file.specs.ImageText.{ImageText}
use Rattle.image_file.specs.Faults.{IsFirstImageFault}
use Rattle.image_file.specs.declared.read.ImageFault.{ImageFault}
use Rattle.image_file.specs.declared.read.FileError.{FileError}
use Rattle.image_file.specs.declared.read.FileError.TheVariants as image_error
use Rattle.trace_text.specs.ArrivalsText.{ArrivalsFault, arrivals_in}
use Rattle.run_inputs.specs.declared.inputs.Unread.{Unread}
use Rattle.run_inputs.specs.declared.inputs.Unread.TheVariants as unread

-- the first file is that of an image, and the second has arrivals by the image's names of tasks and counters
pub record AreRunInputs (img arr : List ℕ) (image : Image) (arrivals : List Arrival) : Type 0 where
  pub is_image : ImageText img image
  pub no_fault : NoFault (ArrivalsFault image.tasks image.counters arr)
  pub arrivals_are : arrivals ≡ arrivals_in image.tasks image.counters arr

-- the first file is that of an image, and this is the least fault of the arrivals
abbrev pub IsRunRefused : (img arr : List ℕ) → Refusal → Type 0
IsRunRefused img arr refusal = (image : Image) × ImageText img image × IsLeast (ArrivalsFault image.tasks image.counters arr) refusal

-- why they are not read
abbrev pub AreUnread : (img arr : List ℕ) → Unread → Type 0
AreUnread img arr (unread.NotAnImage fault) = IsFirstImageFault fault img
AreUnread img arr (unread.Refused refusal) = IsRunRefused img arr refusal
AreUnread img arr unread.NoMemory = Unit {0}

-- why reading the image ended so
abbrev pub image_unread : FileError ImageFault → Unread
image_unread (image_error.Fault fault) = unread.NotAnImage fault
image_unread image_error.Memory = unread.NoMemory

-- and why reading the arrivals did
abbrev pub arrivals_unread : BuildError → Unread
arrivals_unread (error.Refused refusal) = unread.Refused refusal
arrivals_unread error.Memory = unread.NoMemory
