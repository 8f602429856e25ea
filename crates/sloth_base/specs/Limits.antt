-- The limits of configurations, of task code, of images, of files and of runs. `src/limits.rt` has them under the same names.
use Rattle.std.specs.Prelude.{ℕ}

-- how many TASK objects a configuration may have; each has the interrupt line of its number, and the counters' lines stand behind
abbrev pub task_limit : ℕ
task_limit = 30

-- how many RESOURCE objects, without RES_SCHEDULER
abbrev pub resource_limit : ℕ
resource_limit = 32

-- the ceilings of so many resources, and that of RES_SCHEDULER
abbrev pub ceiling_count : ℕ
ceiling_count = 33

-- the levels that run: 0, one for each task, and one above them for the counters
abbrev pub level_count : ℕ
level_count = 32

-- how many EVENT objects: a mask has 32 bits
abbrev pub event_limit : ℕ
event_limit = 32

-- how many COUNTER objects: there are two lines behind those of the tasks
abbrev pub counter_limit : ℕ
counter_limit = 2

-- how many ALARM objects: the service words have room for so many
abbrev pub alarm_limit : ℕ
alarm_limit = 32

-- the greatest static priority
abbrev pub priority_limit : ℕ
priority_limit = 65535

-- the greatest value of a counter (OSEK OS 2.2.3, section 9: a TickType, here of 31 bits)
abbrev pub tick_limit : ℕ
tick_limit = 2147483647

-- how many bytes a name may have
abbrev pub name_limit : ℕ
name_limit = 64

-- how many bodies task code may have
abbrev pub body_limit : ℕ
body_limit = 64

-- how many items all bodies may have
abbrev pub item_limit : ℕ
item_limit = 4096

-- how many words a frame may have
abbrev pub frame_limit : ℕ
frame_limit = 32

-- how many symbols task code may have
abbrev pub symbol_limit : ℕ
symbol_limit = 256

-- how many bytes all symbols may have
abbrev pub data_limit : ℕ
data_limit = 32768

-- the greatest mask of an indexed access: the data has no more bytes
abbrev pub mask_limit : ℕ
mask_limit = 32767

-- the greatest number of an operand that counts: a size, a place in a symbol, a mask, a word of the frame
abbrev pub operand_limit : ℕ
operand_limit = 65535

-- how many marks an image may have
abbrev pub mark_limit : ℕ
mark_limit = 16384

-- how many bytes a file may have that is read
abbrev pub file_limit : ℕ
file_limit = 4194304

-- how many arrivals an arrivals file may have
abbrev pub arrival_limit : ℕ
arrival_limit = 100000

-- how many instructions a run may have, and the last moment of an arrival
abbrev pub count_limit : ℕ
count_limit = 1000000

-- sizes of critical sections are counted up to here; a bound tells those below
abbrev pub size_limit : ℕ
size_limit = 1000001

-- how many counts a picture of a schedule may show
abbrev pub picture_limit : ℕ
picture_limit = 100000

-- the most instructions of a stretch that keeps interrupts masked behind boot, without those for alarms
abbrev pub stretch_instructions : ℕ
stretch_instructions = 160

-- the most instructions that a tick needs for each alarm of its counter
abbrev pub alarm_instructions : ℕ
alarm_instructions = 40

-- the most instructions of boot
abbrev pub boot_instructions : ℕ
boot_instructions = 400

-- the most counts, one behind the other, that show no event while no stretch runs
abbrev pub unseen_counts : ℕ
unseen_counts = 40

-- the most counts of an item: those that show no event, and a stretch behind them
abbrev pub item_counts : ℕ
item_counts = 200
