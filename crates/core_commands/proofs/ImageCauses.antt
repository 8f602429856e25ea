-- Why a command on an image file was not done, and what it did.
use Rattle.std.proofs.Common.{◌≡◌, ◌≤◌, ◌∙◌, ℕ, List, [], ◌∷◌, ◌++◌, length, refl, sym, ap, subst, append-nil}
use Rattle.std.specs.Prelude.{Result, Ok, Err, IfOk, OnOk}
use Rattle.sloth_base.specs.Arrivals.{AreArrivals}
use Rattle.sloth_base.specs.declared.service.Arrival.{Arrival}
use Rattle.sloth_base.specs.declared.image.Image.{Image}
use Rattle.sloth_base.specs.Owners.{owners_named}
use Rattle.sloth_base.specs.Limits.{file_limit}
use Rattle.sloth_io.specs.Sink.{Output, output_with, GainsPart}
use Rattle.sloth_io.specs.Store.{Files, Holds, AreDelivered, call_files}
use Rattle.sloth_io.proofs.Gains.{gains-gains, gains-nil, part-behind}
use Rattle.image_file.specs.ImageText.{ImageText}
use Rattle.trace_text.specs.Listing.{listing}
use Rattle.command_line.specs.Command.{Execution, Executes, Lists}
use Rattle.run_inputs.specs.Inputs.{AreArrivalsOf}
use Rattle.core_commands.specs.ImageFiles.{AreExecInputs, IsRunnable, IsExecuted, IsListed, exec_deliveries, exec_text}
use Rattle.core_commands.specs.ImageAnswers.{end_status}
use Rattle.sloth_runner.specs.Runner.{run_end}
use Rattle.core_commands.specs.Top.{world, AreFilesSame, IsTextTaken}
use Rattle.core_commands.specs.Failures.{IsLoadFailure, IsLinesFailure, IsLineFailure, IsCommandEnd, IsCommandFailure, IsPerformed}
use Rattle.core_commands.proofs.CallFiles.{delivered-in_call, exec-inputs-in_call}
use Rattle.core_commands.specs.declared.failure.Failure.{Failure}
use Rattle.core_commands.specs.declared.failure.Failure.TheVariants as failure
use Rattle.command_line.specs.declared.answer.Status.{Status}
use Rattle.command_line.specs.declared.answer.Status.TheVariants as status
use Rattle.sloth_runner.specs.declared.runner.RunEnd.{RunEnd}
use Rattle.sloth_runner.specs.declared.runner.RunEnd.TheVariants as ends
use Rattle.core_commands.specs.ToolTables.{LacksTools}

-- ---- texts of two parts

pub took-both : (old mid new : Output) (one other : List ℕ) → mid ≡ output_with old one → new ≡ output_with mid other → new ≡ output_with old (one ++ other)
took-both old mid new one other a b = b ∙ ap (λ x. output_with x other) a ∙ gains-gains old one other

-- it broke off in the first part
pub broke-first : (old new : Output) (one other : List ℕ) → GainsPart old new one → GainsPart old new (one ++ other)
broke-first old new one other h = part-behind old old new [] one other (one ++ other) (sym (gains-nil old)) h refl

-- it broke off in the second
pub broke-second : (old mid new : Output) (one other : List ℕ) → mid ≡ output_with old one → GainsPart mid new other → GainsPart old new (one ++ other)
broke-second old mid new one other a h =
    part-behind old mid new one other [] (one ++ other) a h (ap (λ x. one ++ x) (sym (append-nil other)))

-- ---- `exec`

-- a run that ends so is one of `exec`
exec-ends : (end : RunEnd) (old new : Files) (e : Execution) (text : List ℕ) → IsExecuted old e end text → AreFilesSame old new
    → IsCommandEnd LacksTools (end_status end) old new (Executes e) text
exec-ends ends.Whole old new e text is stay = (is, stay)
exec-ends (ends.Stopped pc stop) old new e text is stay = (pc, stop, is, stay)

executed : (old : Files) (e : Execution) (image : Image) (arrivals : List Arrival) → IsRunnable old e image arrivals
    → IsExecuted old e (run_end image arrivals e.n) (exec_text image arrivals e.n)
executed old e image arrivals is = record { image = image; arrivals = arrivals; accepted = is; end_is = refl; text_is = refl }

pub exec-done : (s : Status) (old new : Files) (sink : Output) (out : Output) (e : Execution) (image : Image) (arrivals : List Arrival)
    → IsRunnable old e image arrivals → AreFilesSame old new → s ≡ end_status (run_end image arrivals e.n) → IsTextTaken sink out (exec_text image arrivals e.n)
    → IsPerformed LacksTools s (world old sink) (world new out) (Executes e)
exec-done s old new sink out e image arrivals is stay same took =
    let P : Status → Type 0 = λ x. IsPerformed LacksTools x (world old sink) (world new out) (Executes e) in
    subst P (sym same) (
      exec_text image arrivals e.n,
      exec-ends (run_end image arrivals e.n) old new e (exec_text image arrivals e.n) (executed old e image arrivals is) stay,
      took,
    )

-- two facts of a call that succeeds
pub both-told : {T E : Type 0} (r : Result T E) (P : T → Type 0) (Q : Type 0) (W : T → Type 0) → ((t : T) → P t → Q → W t) → IfOk r P → OnOk r Q → IfOk r W
both-told (Ok t) P Q W f p q = f t p q
both-told (Err e) P Q W f p q = tt

pub exec-failed : (f : Failure) (old new : Files) (sink out : Output) (e : Execution) (image : Image) (arrivals : List Arrival)
    → IsRunnable old e image arrivals → AreFilesSame old new → IsLinesFailure f sink out (exec_text image arrivals e.n)
    → IsCommandFailure LacksTools f (world old sink) (world new out) (Executes e)
exec-failed failure.NoMemory old new sink out e image arrivals is stay h = (stay, h)
exec-failed failure.Put old new sink out e image arrivals is stay h = (
  end_status (run_end image arrivals e.n),
  exec_text image arrivals e.n,
  exec-ends (run_end image arrivals e.n) old new e (exec_text image arrivals e.n) (executed old e image arrivals is) stay,
  h,
)
exec-failed (failure.Refused r) old new sink out e image arrivals is stay h = absurd h
exec-failed failure.ReadFault old new sink out e image arrivals is stay h = absurd h
exec-failed failure.TooLong old new sink out e image arrivals is stay h = absurd h
exec-failed (failure.NotAnImage fault) old new sink out e image arrivals is stay h = absurd h
exec-failed failure.WriteFile old new sink out e image arrivals is stay h = absurd h

pub runnable : (old new : Files) (e : Execution) (image : Image) (arrivals : List Arrival) (file arr : List ℕ) → AreExecInputs old e file arr
    → AreDelivered old new (exec_deliveries e file arr) → ImageText file image
    → AreArrivalsOf image.tasks image.counters arr arrivals → AreArrivals (owners_named image) arrivals → IsRunnable (call_files old new) e image arrivals
runnable old new e image arrivals file arr inputs delivered is read in_range = record {
  file = file;
  arr = arr;
  inputs = exec-inputs-in_call old new e file arr inputs;
  delivered = delivered-in_call old new (exec_deliveries e file arr) delivered;
  is_image = is;
  read = read;
  in_range = in_range;
}

-- the image or the arrivals were not read
pub load-ends : (f : Failure) (old new : Files) (sink : Output) (e : Execution) (file arr : List ℕ) → AreExecInputs old e file arr
    → AreDelivered old new (exec_deliveries e file arr) → IsLoadFailure f file arr → AreFilesSame old new
    → IsCommandFailure LacksTools f (world (call_files old new) sink) (world new sink) (Executes e)
load-ends (failure.NotAnImage fault) old new sink e file arr inputs delivered h stay = (
  record {
    file = file;
    inputs = (arr, exec-inputs-in_call old new e file arr inputs);
    delivered = delivered-in_call old new (exec_deliveries e file arr) delivered;
    faulty = h;
  },
  stay,
  refl,
)
load-ends (failure.Refused r) old new sink e file arr inputs delivered h stay = (
  record {
    file = file;
    arr = arr;
    image = h.0;
    inputs = exec-inputs-in_call old new e file arr inputs;
    delivered = delivered-in_call old new (exec_deliveries e file arr) delivered;
    is_image = h.1;
    least = h.2;
  },
  stay,
  refl,
)
load-ends failure.NoMemory old new sink e file arr inputs delivered h stay = (stay, refl)
load-ends failure.ReadFault old new sink e file arr inputs delivered h stay = absurd h
load-ends failure.TooLong old new sink e file arr inputs delivered h stay = absurd h
load-ends failure.WriteFile old new sink e file arr inputs delivered h stay = absurd h
load-ends failure.Put old new sink e file arr inputs delivered h stay = absurd h

-- ---- `list`

pub listed : (old new : Files) (img file : List ℕ) (image : Image) → Holds old img file → length file ≤ file_limit → AreDelivered old new ((img, file) ∷ [])
    → ImageText file image → IsListed (call_files old new) img (listing image)
listed old new img file image read short delivered is = record {
  file = file;
  image = image;
  input = record { read = read; short = short };
  delivered = delivered-in_call old new ((img, file) ∷ []) delivered;
  is_image = is;
  text_is = refl;
}

pub list-failed : (f : Failure) (old new : Files) (sink out : Output) (img text : List ℕ) → IsListed old img text → AreFilesSame old new → IsLineFailure f sink out text
    → IsCommandFailure LacksTools f (world old sink) (world new out) (Lists img)
list-failed failure.Put old new sink out img text is stay h = (status.Done, text, (is, stay), h)
list-failed failure.NoMemory old new sink out img text is stay h = absurd h
list-failed (failure.Refused r) old new sink out img text is stay h = absurd h
list-failed failure.ReadFault old new sink out img text is stay h = absurd h
list-failed failure.TooLong old new sink out img text is stay h = absurd h
list-failed (failure.NotAnImage fault) old new sink out img text is stay h = absurd h
list-failed failure.WriteFile old new sink out img text is stay h = absurd h
