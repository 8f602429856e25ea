-- Event lines.
use Rattle.std.specs.Prelude.{ℕ, List, [], ◌++◌, decimal, codes}
use Rattle.sloth_base.specs.declared.service.Stamped.{Stamped}
use Rattle.sloth_base.specs.declared.image.Image.{Image}
use Rattle.trace_text.specs.EventWords.{event_text}
use Rattle.trace_text.specs.declared.events.Form.{Form}
use Rattle.trace_text.specs.declared.events.Form.TheVariants as form

-- the counts of an event's first and last instruction, in front of it
abbrev pub counts_text : Form → Stamped → List ℕ
counts_text form.Counted e = decimal e.stamp.from ++ codes " " ++ decimal e.stamp.at ++ codes " "
counts_text form.Bare e = []

-- the line of an event, without its LF, with the names of tasks, functions and counters
abbrev pub line_with : (tasks functions counters : List (List ℕ)) → Form → Stamped → List ℕ
line_with tasks functions counters form e = counts_text form e ++ event_text tasks functions counters e.event

-- with those of an image
abbrev pub line_of : Image → Form → Stamped → List ℕ
line_of image form e = line_with image.tasks image.funcs image.counters form e
