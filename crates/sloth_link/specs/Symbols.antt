-- The data of an image: the words of alarms among the service words, and the bytes of the symbols of task code.
use Rattle.std.specs.Prelude.{ℕ, ◌+◌, List, [], ◌∷◌, ◌++◌}
use Rattle.std.specs.Int.{to_le_bytes, w32}
use Rattle.sloth_base.specs.MemoryMap.{memory_base}
use Rattle.sloth_base.specs.declared.app.Symbol.{Symbol}
use Rattle.sloth_base.specs.declared.config.AlarmDecl.{AlarmDecl}
use Rattle.sloth_region.specs.Layout.{alarm_left}
use Rattle.sloth_link.specs.declared.linking.Datum.{Datum}

-- the two words of an alarm as the image has them: the ticks that are left, and the cycle
abbrev pub alarm_bytes : AlarmDecl → List ℕ
alarm_bytes alarm = to_le_bytes w32 alarm.time ++ to_le_bytes w32 alarm.cycle

-- those of alarms of which the first has this number, each at its service words
abbrev pub alarm_data : ℕ → List AlarmDecl → List Datum
alarm_data first [] = []
alarm_data first (alarm ∷ later) = record { at = memory_base + alarm_left first; bytes = alarm_bytes alarm } ∷ alarm_data (first + 1) later

-- each symbol's bytes with its address
abbrev pub data_of : List ℕ → List Symbol → List Datum
data_of [] symbols = []
data_of (address ∷ addresses) [] = []
data_of (address ∷ addresses) (symbol ∷ symbols) = record { at = address; bytes = symbol.bytes } ∷ data_of addresses symbols
