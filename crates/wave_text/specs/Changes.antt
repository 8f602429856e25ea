-- The changes of signals in time.
use Rattle.std.specs.Prelude.{ℕ, zero, suc, ◌+◌, ◌==◌, Bool, true, false, cond, if◌then◌else◌, List, [], ◌∷◌, ◌++◌, length, Option, Some, None}
use Rattle.sloth_base.specs.declared.numbers.Owners.{Owners}
use Rattle.wave_text.specs.declared.dump.Moment.{Moment}
use Rattle.wave_text.specs.declared.signals.Scope.{Scope}
use Rattle.wave_text.specs.declared.signals.Scope.TheVariants as scope
use Rattle.wave_text.specs.declared.signals.Width.{Width}
use Rattle.wave_text.specs.declared.signals.Width.TheVariants as width
use Rattle.wave_text.specs.Signals.{first_code, level_signal, masked_code, signal_width, alarm_count, signal_value, level_value, masked_value}

-- what a dump says: it is this moment from here on, or a signal has this value from here on
pub data DumpEntry : Type 0 where
  moment : ℕ → DumpEntry
  change : (code : ℕ) → Width → Option ℕ → DumpEntry

-- two values are the same
abbrev pub same_value : Option ℕ → Option ℕ → Bool
same_value None None = true
same_value None (Some n) = false
same_value (Some m) None = false
same_value (Some m) (Some n) = m == n

-- the entry of a signal, where it changes
abbrev pub change_entries : (code : ℕ) → Width → (old new : Option ℕ) → List DumpEntry
change_entries code width old new = if same_value old new then [] else DumpEntry.change code width new ∷ []

-- those of a scope, for its first signals, so many of them
unfoldable pub scope_changes : Scope → (old new : Option Moment) → ℕ → List DumpEntry
scope_changes s old new zero = []
scope_changes s old new (suc task) =
    scope_changes s old new task ++ change_entries (first_code s + task) (signal_width s) (signal_value s old task) (signal_value s new task)

-- those of the signals of tasks, lines and the kernel
abbrev pub kernel_changes : Owners → (old new : Option Moment) → List DumpEntry
kernel_changes owners old new =
    scope_changes scope.State old new owners.tasks ++ scope_changes scope.Runs old new owners.tasks
    ++ scope_changes scope.Pending old new owners.tasks ++ scope_changes scope.Counters old new owners.counters
    ++ change_entries level_signal width.Eight (level_value old) (level_value new) ++ change_entries masked_code width.One (masked_value old) (masked_value new)

-- those of the signals of counters and alarms
abbrev pub clock_changes : Owners → (old new : Option Moment) → List DumpEntry
clock_changes owners old new =
    scope_changes scope.Values old new owners.counters ++ scope_changes scope.Alarms old new (alarm_count owners.counters)

-- those of all signals, from one moment to the next
abbrev pub changes : Owners → (old new : Option Moment) → List DumpEntry
changes owners old new = kernel_changes owners old new ++ clock_changes owners old new

-- the entry of a moment, unless it stands already
abbrev pub moment_entries : (count : ℕ) (stands : Bool) → List DumpEntry
moment_entries count stands = cond stands [] (DumpEntry.moment count ∷ [])

-- entries behind that of their moment; where there is none, the moment has no entry
abbrev pub with_moment : (count : ℕ) (stands : Bool) → List DumpEntry → List DumpEntry
with_moment count stands [] = []
with_moment count stands (e ∷ entries) = moment_entries count stands ++ e ∷ entries

-- the moment's entry stands behind these
abbrev pub stands_behind : Bool → List DumpEntry → Bool
stands_behind stands [] = stands
stands_behind stands (e ∷ entries) = true

-- the entries of moments in turn, the first at a count, behind another moment
abbrev pub entries_from : Owners → (count : ℕ) → Option Moment → List Moment → List DumpEntry
entries_from owners count old [] = []
entries_from owners count old (new ∷ moments) =
    with_moment count false (changes owners old (Some new)) ++ entries_from owners (count + 1) (Some new) moments

-- those of all moments of a run: only what changes, and at last the moment of the end
abbrev pub entries : Owners → List Moment → List DumpEntry
entries owners moments = entries_from owners 0 None moments ++ DumpEntry.moment (length moments) ∷ []
