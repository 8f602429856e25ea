-- The events that counted lines show.
use Rattle.std.specs.Prelude.{◌≡◌, ℕ, List, length}
use Rattle.sloth_base.specs.declared.service.Stamped.{Stamped}
use Rattle.trace_text.specs.EventNumbers.{Has32Bits, HasEventNumbers}
use Rattle.trace_text.specs.Lines.{line_with}
use Rattle.trace_text.specs.declared.events.Form.TheVariants as form

-- the counted line of an event without its LF, with the names of tasks, functions and counters
abbrev pub counted_line : (tasks functions counters : List (List ℕ)) → Stamped → List ℕ
counted_line tasks functions counters e = line_with tasks functions counters form.Counted e

-- the text is the counted line of an event whose numbers name tasks, functions and counters, or no task or counter
pub record IsLineOf (tasks functions counters : List (List ℕ)) (e : Stamped) (text : List ℕ) : Type 0 where
  pub from : Has32Bits e.stamp.from
  pub at : Has32Bits e.stamp.at
  pub numbers : HasEventNumbers (length tasks) (length functions) (length counters) e.event
  pub prints : text ≡ counted_line tasks functions counters e
