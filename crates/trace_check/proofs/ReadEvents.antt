-- Events of a text that were read.
use Rattle.std.specs.Prelude.{ℕ, ◌+◌, ◌≤◌, ◌≡◌, List, ◌++◌, length, All}
use Rattle.sloth_base.specs.declared.service.Stamped.{Stamped}
use Rattle.trace_check.specs.TraceText.{text_of, HasLine}

-- these events were read, and this is left of the text
pub record HasRead (tasks functions counters : List (List ℕ)) (text : List ℕ) (events : List Stamped) (rest : List ℕ) : Type 0 where
  pub lines : All (HasLine tasks functions counters) events
  pub is : text ≡ text_of tasks functions counters events ++ rest
  pub few : length events + length rest ≤ length text
