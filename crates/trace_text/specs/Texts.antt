-- Texts of lists of events.
use Rattle.std.specs.Prelude.{ℕ, ◌&&◌, List, [], ◌∷◌, ◌++◌, Bool, true, false, if◌then◌else◌}
use Rattle.std.specs.List.{flat_map}
use Rattle.sloth_base.specs.declared.service.Event.{Event}
use Rattle.sloth_base.specs.declared.service.Event.TheVariants as event
use Rattle.sloth_base.specs.declared.service.Stamped.{Stamped}
use Rattle.sloth_base.specs.declared.image.Image.{Image}
use Rattle.trace_text.specs.Lines.{line_with}
use Rattle.trace_text.specs.declared.events.Form.{Form}
use Rattle.trace_text.specs.declared.events.Form.TheVariants as form

-- an event is that of the idle loop
abbrev pub is_idle : Event → Bool
is_idle event.Idle = true
is_idle _ = false

-- the events without each idle that directly follows an idle; whether the one before the first is an idle is given
abbrev pub merged_events : Bool → List Stamped → List Stamped
merged_events after_idle [] = []
merged_events after_idle (e ∷ rest) =
    if after_idle && is_idle e.event then merged_events true rest else e ∷ merged_events (is_idle e.event) rest

-- the last event is an idle, or of no events the one before them
abbrev pub ends_idle : Bool → List Stamped → Bool
ends_idle after_idle [] = after_idle
ends_idle after_idle (e ∷ rest) = ends_idle (is_idle e.event) rest

-- the lines of events, each with its LF, with the names of tasks, functions and counters
abbrev pub lines_with : (tasks functions counters : List (List ℕ)) → Form → List Stamped → List ℕ
lines_with tasks functions counters form events = flat_map (λ e. line_with tasks functions counters form e ++ 10 ∷ []) events

-- with those of an image
abbrev pub lines_of : Image → Form → List Stamped → List ℕ
lines_of image form events = lines_with image.tasks image.funcs image.counters form events

-- those that are printed: in the bare form no idle directly follows an idle
abbrev pub printed_events : Form → Bool → List Stamped → List Stamped
printed_events form.Counted after_idle events = events
printed_events form.Bare after_idle events = merged_events after_idle events

-- the text of events that follow others, of which the last was an idle or not
abbrev pub text_after : Image → Form → Bool → List Stamped → List ℕ
text_after image form after_idle events = lines_of image form (printed_events form after_idle events)

-- the text of a run's events in a form
abbrev pub text_in : Image → Form → List Stamped → List ℕ
text_in image form events = text_after image form false events
