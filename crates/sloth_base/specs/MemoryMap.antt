-- Addresses of the machine: memory, the interrupt controller, and where an image stands. `src/memory_map.rt` has them under the same names.
use Rattle.std.specs.Prelude.{ℕ}

-- where RAM begins: the word there names the running task
abbrev pub memory_base : ℕ
memory_base = 0x8000_0000

-- the bytes of RAM
abbrev pub memory_bytes : ℕ
memory_bytes = 0x20_0000

-- the address behind RAM
abbrev pub memory_end : ℕ
memory_end = 0x8020_0000

-- where the parts of an image begin, behind the word of the running task
abbrev pub words_base : ℕ
words_base = 0x8000_0004

-- where the vector words stand, one for each line of the controller
abbrev pub vectors_base : ℕ
vectors_base = 0x8000_0400

-- where boot stands, behind the vector words
abbrev pub boot_base : ℕ
boot_base = 0x8000_0480

-- where the controller's bytes begin: a pending byte for each line, then an enable byte for each, then a level byte for each
abbrev pub controller_base : ℕ
controller_base = 0x1000_0000

-- the lines of the controller
abbrev pub line_count : ℕ
line_count = 32

-- where the enable bytes begin, behind the controller's address
abbrev pub enabled_offset : ℕ
enabled_offset = 32

-- where the level bytes begin, behind the controller's address
abbrev pub levels_offset : ℕ
levels_offset = 64

-- the bytes of the controller
abbrev pub controller_bytes : ℕ
controller_bytes = 96
