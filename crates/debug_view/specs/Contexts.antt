-- Where the registers of a task stand that does not run: in the chain of contexts below what runs, or where it is to go on from a wait.
use Rattle.std.specs.Prelude.{ℕ, zero, suc, ◌+◌, ◌-◌, ◌*◌, ◌==◌, ◌&&◌, nat_le, Option, None, Some, Bool, is_some, if◌then◌else◌}
use Rattle.std.specs.Option.{unwrap_or}
use Rattle.sloth_base.specs.Arithmetic.{sum32}
use Rattle.sloth_base.specs.Limits.{task_limit}
use Rattle.sloth_base.specs.MemoryMap.{memory_base, vectors_base}
use Rattle.sloth_base.specs.declared.app.Width.TheVariants as width
use Rattle.rv32_instr.specs.declared.encoding.Bad.{Bad}
use Rattle.rv32_instr.specs.Memory.{Memory, refusal, loaded_number}
use Rattle.sloth_region.specs.Layout.{active, below_word, resume, context_bytes, context_cur, context_below}

-- what is there, unless it is refused
abbrev pub unless_bad : Option Bad → ℕ → Option ℕ
unless_bad None value = Some value
unless_bad (Some bad) value = None

-- the word at an address of RAM that is a multiple of 4
abbrev pub loaded_word : Memory → ℕ → Option ℕ
loaded_word memory address = unless_bad (refusal memory address width.Word) (loaded_number memory address width.Word)

-- a word stands there
abbrev pub is_word : Memory → ℕ → Bool
is_word memory address = is_some (loaded_word memory address)

-- the word there, or 0 where none is
abbrev pub word_or_zero : Memory → ℕ → ℕ
word_or_zero memory address = unwrap_or (loaded_word memory address) 0

-- the first and the fourth word of a context stand there
abbrev pub is_link : Memory → ℕ → Bool
is_link memory address = is_word memory address && is_word memory (sum32 address context_below)

-- the context of a task in the chain from an address on, of at most so many links: the first one that names the task
abbrev pub chain_context : Memory → (links address task : ℕ) → Option ℕ
chain_context memory zero address task = None
chain_context memory (suc links) address task =
    if is_link memory address
    then (if word_or_zero memory (sum32 address context_cur) == task + 1
    then Some address
    else chain_context memory links (word_or_zero memory (sum32 address context_below)) task)
    else None

-- the first and the last word of a context stand there
abbrev pub is_whole : Memory → ℕ → Bool
is_whole memory address = is_word memory address && is_word memory (sum32 address (context_bytes - 4))

-- a context, where its words are there
abbrev pub whole : Memory → ℕ → Option ℕ
whole memory address = if is_whole memory address then Some address else None

-- a context that was found, where its words are there
abbrev pub whole_found : Option ℕ → Memory → Option ℕ
whole_found (Some address) memory = whole memory address
whole_found None memory = None

-- the context of a task in the chain of those below what runs; the chain has a link for each of so many tasks and one for the idle loop
abbrev pub preempted : Memory → (tasks task : ℕ) → Option ℕ
preempted memory tasks task = whole_found (chain_context memory (tasks + 1) (word_or_zero memory (memory_base + below_word)) task) memory

-- the context that a task goes on from behind a wait; 0 where it has none
abbrev pub waiting : Memory → ℕ → Option ℕ
waiting memory task =
    if word_or_zero memory (memory_base + resume task) == 0 then None else whole memory (word_or_zero memory (memory_base + resume task))

-- where the registers of a task stand: those of an Active one in the chain below what runs, those of any other where it is to go on from a wait
abbrev pub task_context : Memory → (tasks task : ℕ) → Option ℕ
task_context memory tasks task =
    if word_or_zero memory (memory_base + active task) == 1 then preempted memory tasks task else waiting memory task

-- a register in a context: x0, x2 as it is behind it, x5 to x31 and the pc
abbrev pub context_register : Memory → (context number : ℕ) → Option ℕ
context_register memory context number =
    if number == 0 then Some 0
    else if number == 2 then Some (sum32 context context_bytes)
    else if nat_le 5 number && nat_le number 31 then loaded_word memory (sum32 context (4 * number))
    else if number == 32 then loaded_word memory context
    else None

-- a register of a task that has not begun: x0, and the address where the machine will enter it
abbrev pub fresh_register : (task number : ℕ) → Option ℕ
fresh_register task number =
    if number == 0 then Some 0
    else if number == 32 then Some (vectors_base + 4 * task)
    else None

-- a register in a context, or of a task that has none
abbrev pub register_by : Option ℕ → Memory → (task number : ℕ) → Option ℕ
register_by (Some context) memory task number = context_register memory context number
register_by None memory task number = fresh_register task number

-- a register of a task that does not run, by its number
abbrev pub kept_register : Memory → (tasks task number : ℕ) → Option ℕ
kept_register memory tasks task number =
    if nat_le task_limit task then None else register_by (task_context memory tasks task) memory task number
