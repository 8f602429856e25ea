-- How many instructions generated code executes at most: along its longest path, from the first instruction, or from the vector's jump, to the
-- `mret`, as its words show. The contracts of the generators give bounds of their own, of which some are greater.
use Rattle.std.specs.Prelude.{ℕ, ◌+◌, Bool, true, false, cond, length}
use Rattle.sloth_base.specs.Named.{declaration, function, body_of}
use Rattle.sloth_base.specs.declared.app.App.{App}
use Rattle.sloth_base.specs.declared.config.Config.{Config}
use Rattle.sloth_base.specs.declared.service.Service.{Service}
use Rattle.sloth_base.specs.declared.service.Service.TheVariants as service
use Rattle.code_lengths.specs.CodeLengths.{boot_length, tick_length, service_counts}

-- ---- services

-- the code of a service behind which its caller goes on; 0 where it never does
abbrev pub going_path : Service → ℕ
going_path served = (service_counts served).going

-- the code of a service with which its caller leaves, by whether it chains itself; 0 where it never does
abbrev pub leaving_path : Service → (itself : Bool) → ℕ
leaving_path service.TerminateTask itself = 49
leaving_path service.ChainTask itself = cond itself 54 60
leaving_path service.WaitEvent itself = 86
leaving_path _ itself = 0

-- the way back from Schedule
abbrev pub way_back_path : ℕ
way_back_path = 4

-- what a service adds to its caller's counts where the caller goes on: its code, and of Schedule the way back
abbrev pub served_path : Service → ℕ
served_path service.Schedule = going_path service.Schedule + way_back_path
served_path s = going_path s

-- ---- entries, ticks and boot

-- the entry of a task, whose body has so many frame words: of a basic one; of an extended one that starts anew, or goes on behind a wait
abbrev pub entry_path : (extended resumed : Bool) → (words : ℕ) → ℕ
entry_path false resumed words = 74 + words
entry_path true false words = 76 + words
entry_path true true words = 78

-- that of a task of the configuration
abbrev pub enter_path : Config → App → (resumed : Bool) → (t : ℕ) → ℕ
enter_path config app resumed t =
    entry_path (declaration config t).extended resumed (function app (body_of app.funcs t)).frame_words

-- the tick of a counter, whose alarms all expire at once
abbrev pub tick_path : Config → (c : ℕ) → ℕ
tick_path config c = 1 + tick_length c config.alarms

-- boot, which has one path
abbrev pub boot_path : Config → ℕ
boot_path config = boot_length config.tasks (length config.counters)
