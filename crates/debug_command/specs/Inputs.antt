-- What the command reads, and why it does not.
use Rattle.std.specs.Prelude.{ℕ, ◌≡◌, ◌≤◌, ◌⊎◌, List, [], ◌∷◌, length}
use Rattle.sloth_base.specs.declared.service.Arrival.{Arrival}
use Rattle.sloth_base.specs.declared.image.Image.{Image}
use Rattle.sloth_base.specs.declared.refusal.Refusal.{Refusal}
use Rattle.sloth_base.specs.declared.refusal.BuildError.{BuildError}
use Rattle.sloth_base.specs.declared.refusal.BuildError.TheVariants as error
use Rattle.sloth_base.specs.Limits.{file_limit}
use Rattle.sloth_base.specs.Order.{IsLeast, NoFault}
use Rattle.sloth_io.specs.Store.{Files, Holds, IsMissing, IsTooLong, AreDelivered}
use Rattle.sloth_io.specs.declared.store.StoreFault.{StoreFault}
use Rattle.sloth_io.specs.declared.store.StoreFault.TheVariants as fault
use Rattle.image_file.specs.ImageText.{ImageText}
use Rattle.image_file.specs.Faults.{IsFirstImageFault}
use Rattle.image_file.specs.declared.read.ImageFault.{ImageFault}
use Rattle.image_file.specs.declared.read.FileError.{FileError}
use Rattle.image_file.specs.declared.read.FileError.TheVariants as image_error
use Rattle.trace_text.specs.ArrivalsText.{ArrivalsFault, arrivals_in}
use Rattle.debug_command.specs.Words.{Debugging}
use Rattle.debug_command.specs.declared.command.Cause.{Cause}
use Rattle.debug_command.specs.declared.command.Cause.TheVariants as cause

-- a file of at most 4 MiB has these bytes, where the store tells its files
pub record IsFile (files : Files) (name bytes : List ℕ) : Type 0 where
  pub holds : Holds files name bytes
  pub short : length bytes ≤ file_limit

-- the bytes of both files were read, and nothing else
pub record AreRead (old new : Files) (d : Debugging) (img arr : List ℕ) : Type 0 where
  pub image_file : IsFile old d.img img
  pub arrivals_file : IsFile old d.arr arr
  pub delivered : AreDelivered old new ((d.img, img) ∷ (d.arr, arr) ∷ [])

-- the first of both files that is not read is so; one before it was
abbrev pub IsFirstUnread : Files → Debugging → (List ℕ → Type 0) → Type 0
IsFirstUnread old d P = P d.img ⊎ ((bytes : List ℕ) × IsFile old d.img bytes × P d.arr)

-- what was read are the first of both files, in this order, and nothing else
abbrev pub AreFirstRead : Files → Files → Debugging → Type 0
AreFirstRead old new d = (new.reads ≡ old.reads) ⊎ ((img : List ℕ) × AreDelivered old new ((d.img, img) ∷ []))

-- why a file was not read
abbrev pub unread_cause : StoreFault → Cause
unread_cause fault.Failed = cause.ReadFault
unread_cause fault.TooLong = cause.TooLong
unread_cause fault.Memory = cause.NoMemory

-- a file of this name was not read for this cause
abbrev pub IsUnreadFile : Cause → Files → Files → List ℕ → Type 0
IsUnreadFile cause.ReadFault old new name = IsMissing old new name
IsUnreadFile cause.TooLong old new name = IsTooLong old new name file_limit
IsUnreadFile cause.NoMemory old new name = Unit {0}
IsUnreadFile _ old new name = ⊥

-- not both files were read, for this cause
abbrev pub AreUnread : Cause → Files → Files → Debugging → Type 0
AreUnread cause.ReadFault old new d = IsFirstUnread old d (IsMissing old new)
AreUnread cause.TooLong old new d = IsFirstUnread old d (λ name. IsTooLong old new name file_limit)
AreUnread cause.NoMemory old new d = Unit {0}
AreUnread _ old new d = ⊥

-- the first file is that of an image, and the second has arrivals by the image's names of tasks and counters
pub record AreMeant (img arr : List ℕ) (image : Image) (arrivals : List Arrival) : Type 0 where
  pub is_image : ImageText img image
  pub no_fault : NoFault (ArrivalsFault image.tasks image.counters arr)
  pub arrivals_are : arrivals ≡ arrivals_in image.tasks image.counters arr

-- the arrivals are refused so, by the names of the image
pub record AreRefused (img arr : List ℕ) (refusal : Refusal) : Type 0 where
  pub image : Image
  pub is_image : ImageText img image
  pub least : IsLeast (ArrivalsFault image.tasks image.counters arr) refusal

-- the files are not so, for this cause
abbrev pub AreNotMeant : Cause → (img arr : List ℕ) → Type 0
AreNotMeant (cause.NotAnImage fault) img arr = IsFirstImageFault fault img
AreNotMeant (cause.Refused refusal) img arr = AreRefused img arr refusal
AreNotMeant cause.NoMemory img arr = Unit {0}
AreNotMeant _ img arr = ⊥

-- why reading the image ended so
abbrev pub image_cause : FileError ImageFault → Cause
image_cause (image_error.Fault fault) = cause.NotAnImage fault
image_cause image_error.Memory = cause.NoMemory

-- and why reading the arrivals did
abbrev pub arrivals_cause : BuildError → Cause
arrivals_cause (error.Refused refusal) = cause.Refused refusal
arrivals_cause error.Memory = cause.NoMemory
