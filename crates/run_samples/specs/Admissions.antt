-- Which arrivals of a run are lost. An arrival is kept where it makes its line pending, masked code does not store to that pending byte
-- behind it before code loads it, and the line's task is Ready at the next count that finds interrupts open: then it is what made the task Ready.
use Rattle.std.specs.Prelude.{ℕ, zero, suc, ◌+◌, ◌==◌, ◌&&◌, not, nat_lt, Bool, true, false, if◌then◌else◌, List, [], ◌∷◌, ◌++◌, get_or, Option, Some, None}
use Rattle.sloth_base.specs.Owners.{first_counter_line}
use Rattle.sloth_base.specs.declared.service.Arrival.{Arrival}
use Rattle.sloth_base.specs.declared.image.Image.{Image}
use Rattle.osek_scheduler.specs.declared.state.TaskState.{TaskState}
use Rattle.osek_scheduler.specs.declared.state.TaskState.TheVariants as mode
use Rattle.rv32_machine.specs.Start.{start}
use Rattle.rv32_machine.specs.Run.{state_after}
use Rattle.run_samples.specs.Accesses.{accesses_at}
use Rattle.sloth_runner.specs.declared.task_states.Seen.{Seen}
use Rattle.run_samples.specs.declared.accesses.Access.{Access}
use Rattle.run_samples.specs.declared.accesses.AccessKind.{AccessKind}
use Rattle.run_samples.specs.declared.accesses.AccessKind.TheVariants as kind
use Rattle.run_samples.specs.declared.admissions.Admission.{Admission}
use Rattle.run_samples.specs.declared.samples.Sample.{Sample}
use Rattle.run_samples.specs.Samples.{no_sample, seen_behind}

abbrev pub is_ready : TaskState → Bool
is_ready mode.Suspended = false
is_ready mode.Ready = true
is_ready mode.Active = false
is_ready (mode.Waiting mask) = false

-- a line that was raised has made its task Ready, as the tasks are seen; it is so where they are not seen yet
abbrev pub has_effect : Option Seen → (line : ℕ) → Bool
has_effect None line = true
has_effect (Some seen) line = if nat_lt line first_counter_line then is_ready (get_or seen.tasks line mode.Suspended) else true

-- an arrival makes its line pending
abbrev pub is_raise : AccessKind → Bool
is_raise kind.Raises = true
is_raise kind.Finds = false
is_raise kind.Loads = false
is_raise kind.Stores = false

abbrev pub is_store : AccessKind → Bool
is_store kind.Raises = false
is_store kind.Finds = false
is_store kind.Loads = false
is_store kind.Stores = true

abbrev pub is_by_code : AccessKind → Bool
is_by_code kind.Raises = false
is_by_code kind.Finds = false
is_by_code kind.Loads = true
is_by_code kind.Stores = true

-- code accesses the line's pending byte
abbrev pub is_code_at : (line : ℕ) → Access → Bool
is_code_at line access = (access.arrival.line == line) && is_by_code access.kind

-- the first access by code to the line's pending byte is a store
abbrev pub is_stored_first : (line : ℕ) → List Access → Bool
is_stored_first line [] = false
is_stored_first line (access ∷ behind) = if is_code_at line access then is_store access.kind else is_stored_first line behind

-- what becomes of an arrival, with what came behind it
abbrev pub admission_of : Option Seen → Access → (behind : List Access) → Admission
admission_of seen access behind = record {
  arrival = access.arrival;
  lost = not (is_raise access.kind && (has_effect seen access.arrival.line && not (is_stored_first access.arrival.line behind)));
}

-- and of several
abbrev pub admissions_of : Option Seen → List Access → List Admission
admissions_of seen [] = []
admissions_of seen (access ∷ behind) =
    if is_by_code access.kind then admissions_of seen behind else admission_of seen access behind ∷ admissions_of seen behind

-- the arrivals of a run so far: what became of them, and behind them those of which that is not known yet, with what code did
pub record Notes : Type 0 where
  pub admissions : List Admission
  pub accesses : List Access

abbrev pub no_notes : Notes
no_notes = record { admissions = []; accesses = [] }

-- with further arrivals
abbrev pub with_accesses : Notes → List Access → Notes
with_accesses notes more = record { admissions = notes.admissions; accesses = notes.accesses ++ more }

-- with an access by code, if there is one
abbrev pub with_code : Notes → Option Access → Notes
with_code notes None = notes
with_code notes (Some access) = record { admissions = notes.admissions; accesses = notes.accesses ++ access ∷ [] }

-- of all of them it is known
abbrev pub settled : Notes → Option Seen → Notes
settled notes seen = record { admissions = notes.admissions ++ admissions_of seen notes.accesses; accesses = [] }

-- with what a count shows: the tasks, if it finds interrupts open, and else what its instruction does
abbrev pub with_sample : Notes → Sample → Notes
with_sample notes sample = if sample.interrupts.masked then with_code notes sample.access else settled notes sample.seen

-- those of so many counts of a run from one on, of which these are the samples from its first count on
unfoldable pub run_notes : Image → List Arrival → List Sample → (from : ℕ) → ℕ → Notes
run_notes image arrivals samples from zero = no_notes
run_notes image arrivals samples from (suc k) =
    with_sample (with_accesses (run_notes image arrivals samples from k) (accesses_at arrivals (from + k) (state_after (from + k) arrivals (start image))))
    (get_or samples (from + k) no_sample)

-- What became of the arrivals of so many counts. One that is not settled at the end, where code is masked, is lost only where it did not make its line
-- pending or code has stored to that byte since.
abbrev pub run_admissions : Image → List Arrival → List Sample → (from : ℕ) → ℕ → List Admission
run_admissions image arrivals samples from k =
    (settled (run_notes image arrivals samples from k) (seen_behind image arrivals (from + k))).admissions
