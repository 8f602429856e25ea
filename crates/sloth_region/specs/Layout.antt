-- The first 1,024 bytes of RAM: the service words, at offsets from the base of memory, and the contexts that they point to.
-- `src/layout.rt` has them under the same names.
use Rattle.std.specs.Prelude.{ℕ, ◌+◌, ◌*◌}
use Rattle.sloth_base.specs.MemoryMap.{enabled_offset, levels_offset}

-- the running task's number and 1 more, or 0
abbrev pub cur : ℕ
cur = 0

-- whether a task is Active, its events, and the events that it waits for
abbrev pub active : ℕ → ℕ
active task = 4 + 12 * task

-- a task's events
abbrev pub events : ℕ → ℕ
events task = 8 + 12 * task

-- the events that a task waits for
abbrev pub wait : ℕ → ℕ
wait task = 12 + 12 * task

-- a counter's value
abbrev pub counter_value : ℕ → ℕ
counter_value counter = 364 + 4 * counter

-- the ticks that an alarm has left, 0 where it is not in use
abbrev pub alarm_left : ℕ → ℕ
alarm_left alarm = 372 + 8 * alarm

-- an alarm's cycle
abbrev pub alarm_cycle : ℕ → ℕ
alarm_cycle alarm = 376 + 8 * alarm

-- where a task runs: the address of the context of the Active task below it, or of that of the idle loop
abbrev pub below_word : ℕ
below_word = 628

-- the address of a task's own context, where it is to go on from a wait, or 0
abbrev pub resume : ℕ → ℕ
resume task = 632 + 4 * task

-- the level at which a held resource was taken
abbrev pub saved_level : ℕ → ℕ
saved_level resource = 752 + 4 * resource

-- the context of the idle loop
abbrev pub idle_context : ℕ
idle_context = 884

-- A context has 128 bytes. It holds the pc to go on at, the level, the words `cur` and `below_word` of what was preempted,
-- and at 4 i its register x_i, 5 to 31.
abbrev pub context_bytes : ℕ
context_bytes = 128

-- the pc to go on at
abbrev pub context_pc : ℕ
context_pc = 0

-- the level
abbrev pub context_level : ℕ
context_level = 4

-- the word `cur`
abbrev pub context_cur : ℕ
context_cur = 8

-- the word `below_word`
abbrev pub context_below : ℕ
context_below = 12

-- Bits 31 to 12 of the address of the service words, the base of memory.
abbrev pub words_high : ℕ
words_high = 0x8_0000

-- bits 31 to 12 of that address
abbrev pub controller_high : ℕ
controller_high = 0x1_0000

-- The bytes of the controller, at offsets from its address: whether a line is pending, whether it is enabled, its level.
abbrev pub pending_byte : ℕ → ℕ
pending_byte line = line

-- the enable byte of a line
abbrev pub enabled_byte : ℕ → ℕ
enabled_byte line = enabled_offset + line

-- the level byte of a line
abbrev pub level_byte : ℕ → ℕ
level_byte line = levels_offset + line
