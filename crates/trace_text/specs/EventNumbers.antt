-- The numbers in events that lines show.
use Rattle.std.specs.Prelude.{◌≡◌, ◌<◌, ◌⊎◌, ℕ, IfSome}
use Rattle.sloth_base.specs.declared.service.Event.{Event}
use Rattle.sloth_base.specs.declared.service.Event.TheVariants as event
use Rattle.sloth_base.specs.Events.{named_task}

-- a number of 32 bits
abbrev pub Has32Bits : ℕ → Type 0
Has32Bits n = n < 0x1_0000_0000

-- the number of one of so many names
pub record IsNameNumber (count n : ℕ) : Type 0 where
  pub word : Has32Bits n
  pub inside : n < count

-- the number of one of so many tasks or counters, or 4,294,967,295, which is that of none
pub record IsNumberOrNone (count n : ℕ) : Type 0 where
  pub word : Has32Bits n
  pub names : (n < count) ⊎ (n ≡ 4294967295)

-- the numbers in an event, with so many tasks, functions and counters
abbrev pub HasEventNumbers : (tasks functions counters : ℕ) → Event → Type 0
HasEventNumbers tasks functions counters (event.Run t function item result) =
    IsNumberOrNone tasks t × IsNameNumber functions function × Has32Bits item × Has32Bits result
HasEventNumbers tasks functions counters (event.Call t called status) = IsNumberOrNone tasks t × Has32Bits status
HasEventNumbers tasks functions counters (event.Due c) = IsNameNumber counters c
HasEventNumbers tasks functions counters (event.Tick c) = IsNumberOrNone counters c
HasEventNumbers tasks functions counters e = IfSome (named_task e) (λ t. IsNumberOrNone tasks t)
