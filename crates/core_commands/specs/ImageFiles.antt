-- What commands on image files do, and why they do not.
use Rattle.std.specs.Prelude.{ℕ, ◌≡◌, List, [], ◌∷◌, ◌++◌}
use Rattle.sloth_base.specs.declared.service.Arrival.{Arrival}
use Rattle.sloth_base.specs.declared.image.Image.{Image}
use Rattle.sloth_base.specs.declared.refusal.Refusal.{Refusal}
use Rattle.sloth_base.specs.Arrivals.{AreArrivals}
use Rattle.sloth_base.specs.Owners.{owners_named}
use Rattle.sloth_base.specs.Order.{IsLeast}
use Rattle.sloth_io.specs.Store.{Files}
use Rattle.image_file.specs.ImageText.{ImageText}
use Rattle.image_file.specs.Faults.{IsFirstImageFault}
use Rattle.image_file.specs.declared.read.ImageFault.{ImageFault}
use Rattle.trace_text.specs.ArrivalsText.{ArrivalsFault}
use Rattle.trace_text.specs.Listing.{listing}
use Rattle.trace_text.specs.declared.events.Form.TheVariants as form
use Rattle.command_line.specs.Command.{Command, Execution, Builds, Executes, Lists, Samples, Uses}
use Rattle.command_line.specs.Tools.{file_names}
use Rattle.run_inputs.specs.Inputs.{AreArrivalsOf}
use Rattle.core_commands.specs.FileInputs.{IsInput}
use Rattle.core_commands.specs.ToolInputs.{ReadsImageFirst, input_deliveries}
use Rattle.trace_text.specs.StopLine.{stopped_line}
use Rattle.sloth_runner.specs.Runner.{run_text, run_end}
use Rattle.sloth_runner.specs.declared.runner.RunEnd.{RunEnd}
use Rattle.sloth_runner.specs.declared.runner.RunEnd.TheVariants as ends

-- ---- the inputs

-- these are the image file and the arrivals file of a run
pub record AreExecInputs (files : Files) (e : Execution) (file arr : List ℕ) : Type 0 where
  pub image_file : IsInput files e.img file
  pub arrivals_file : IsInput files e.arr arr

-- the inputs of a command on an image file, which has these bytes
abbrev pub ReadsImageFile : Files → Command → List ℕ → Type 0
ReadsImageFile files (Builds b) file = ⊥
ReadsImageFile files (Executes e) file = (arr : List ℕ) × AreExecInputs files e file arr
ReadsImageFile files (Lists img) file = IsInput files img file
ReadsImageFile files (Samples seed img) file = ⊥
ReadsImageFile files (Uses u) file = ReadsImageFirst files u file

-- what is read where these are the image file and the arrivals file of a run
abbrev pub exec_deliveries : Execution → List ℕ → List ℕ → List (List ℕ × List ℕ)
exec_deliveries e file arr = (e.img, file) ∷ (e.arr, arr) ∷ []

-- exactly the inputs of a command on an image file were read, in this order
abbrev pub IsImageFileDelivered : (files : Files) (c : Command) (file : List ℕ) → ReadsImageFile files c file → Type 0
IsImageFileDelivered files (Builds b) file i = ⊥
IsImageFileDelivered files (Executes e) file i = files.reads ≡ exec_deliveries e file i.0
IsImageFileDelivered files (Lists img) file i = files.reads ≡ (img, file) ∷ []
IsImageFileDelivered files (Samples seed img) file i = ⊥
IsImageFileDelivered files (Uses u) file i = files.reads ≡ input_deliveries (file_names u) (file ∷ i.rest)

-- ---- `exec`

-- the inputs are accepted, with this meaning
pub record IsRunnable (old : Files) (e : Execution) (image : Image) (arrivals : List Arrival) : Type 0 where
  pub file : List ℕ
  pub arr : List ℕ
  pub inputs : AreExecInputs old e file arr
  -- and exactly they were read, in this order
  pub delivered : old.reads ≡ exec_deliveries e file arr
  pub is_image : ImageText file image
  pub read : AreArrivalsOf image.tasks image.counters arr arrivals
  -- so the machine has their lines
  pub in_range : AreArrivals (owners_named image) arrivals

-- the line of a run that stopped; of one that did not there is none
abbrev pub end_line : RunEnd → List ℕ
end_line ends.Whole = []
end_line (ends.Stopped pc stop) = stopped_line pc stop

-- what is printed of a run: its events with their counts, and where and why it stopped
abbrev pub exec_text : Image → List Arrival → ℕ → List ℕ
exec_text image arrivals n = run_text image arrivals form.Counted n ++ end_line (run_end image arrivals n)

-- the inputs are accepted, the run ends so, and this is its text
pub record IsExecuted (old : Files) (e : Execution) (end : RunEnd) (text : List ℕ) : Type 0 where
  pub image : Image
  pub arrivals : List Arrival
  pub accepted : IsRunnable old e image arrivals
  pub end_is : end ≡ run_end image arrivals e.n
  pub text_is : text ≡ exec_text image arrivals e.n

-- the image file is one, and this is the least fault of the arrivals
pub record IsExecRefused (old : Files) (e : Execution) (refusal : Refusal) : Type 0 where
  pub file : List ℕ
  pub arr : List ℕ
  pub image : Image
  pub inputs : AreExecInputs old e file arr
  pub delivered : old.reads ≡ exec_deliveries e file arr
  pub is_image : ImageText file image
  pub least : IsLeast (ArrivalsFault image.tasks image.counters arr) refusal

-- ---- `list`

-- the file is that of an image, and this is the image's listing
pub record IsListed (old : Files) (img : List ℕ) (text : List ℕ) : Type 0 where
  pub file : List ℕ
  pub image : Image
  pub input : IsInput old img file
  pub delivered : old.reads ≡ (img, file) ∷ []
  pub is_image : ImageText file image
  pub text_is : text ≡ listing image

-- ---- no image

-- the file is no image's, and this is its first fault
pub record IsNoImage (old : Files) (c : Command) (fault : ImageFault) : Type 0 where
  pub file : List ℕ
  pub inputs : ReadsImageFile old c file
  pub delivered : IsImageFileDelivered old c file inputs
  pub faulty : IsFirstImageFault fault file
