-- How a dump is read: the value that it gives a signal at a moment.
use Rattle.std.specs.Prelude.{ℕ, ◌+◌, ◌==◌, ◌≡◌, ◌<◌, nat_le, if◌then◌else◌, List, [], ◌∷◌, slice_get, Option, None}
use Rattle.sloth_base.specs.declared.numbers.Owners.{Owners}
use Rattle.wave_text.specs.declared.dump.Moment.{Moment}
use Rattle.wave_text.specs.declared.signals.Scope.{Scope}
use Rattle.wave_text.specs.Changes.{DumpEntry, entries}
use Rattle.wave_text.specs.Signals.{first_code, level_signal, masked_code, signal_count, signal_value, level_value, masked_value}

-- the value of a signal at a moment, where this is its value in front of these entries: that of its last change up to the first later moment
abbrev pub value_behind : (code at : ℕ) → Option ℕ → List DumpEntry → Option ℕ
value_behind code at value [] = value
value_behind code at value (DumpEntry.moment count ∷ entries) = if nat_le count at then value_behind code at value entries else value
value_behind code at value (DumpEntry.change c width new ∷ entries) = value_behind code at (if c == code then new else value) entries

-- the value at a moment in a dump of these entries; in front of it it is unknown
abbrev pub value_at : (code at : ℕ) → List DumpEntry → Option ℕ
value_at code at entries = value_behind code at None entries

-- at each count the dump of moments gives each signal the value that it has at the moment of the count
pub record ReadsBack (owners : Owners) (moments : List Moment) (k : ℕ) : Type 0 where
  pub of_scope : (s : Scope) (place : ℕ) → place < signal_count owners s
      → value_at (first_code s + place) k (entries owners moments) ≡ signal_value s (slice_get moments k) place
  pub of_level : value_at level_signal k (entries owners moments) ≡ level_value (slice_get moments k)
  pub of_masked : value_at masked_code k (entries owners moments) ≡ masked_value (slice_get moments k)
