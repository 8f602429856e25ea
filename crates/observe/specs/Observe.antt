-- The events of a run.
use Rattle.std.specs.Prelude.{ℕ, ◌+◌, ◌-◌, ◌==◌, nat_lt, nat_le, Bool, not, ◌&&◌, if◌then◌else◌, List, [], ◌∷◌, ◌++◌, map, filter, Option, Some, None, slice_index, find}
use Rattle.std.specs.List.{flat_map, list_any}
use Rattle.sloth_base.specs.declared.service.Service.{Service}
use Rattle.sloth_base.specs.declared.image.Image.{Image}
use Rattle.sloth_base.specs.declared.image.Mark.{Mark}
use Rattle.sloth_base.specs.declared.image.MarkKind.{MarkKind}
use Rattle.sloth_base.specs.declared.image.MarkKind.TheVariants as kind
use Rattle.sloth_base.specs.declared.service.Arrival.{Arrival}
use Rattle.sloth_base.specs.declared.service.Event.{Event}
use Rattle.sloth_base.specs.declared.service.Event.TheVariants as event
use Rattle.sloth_base.specs.declared.service.Stamped.{Stamped}
use Rattle.sloth_base.specs.declared.numbers.Step.{Step}
use Rattle.sloth_base.specs.Arrivals.{moments}
use Rattle.sloth_base.specs.ServiceCodes.{service_of}
use Rattle.sloth_base.specs.Options.{is_number}
use Rattle.sloth_base.specs.Owners.{first_counter_line, line_kind, owners_named}
use Rattle.sloth_base.specs.declared.numbers.Owners.{Owners}
use Rattle.sloth_base.specs.declared.numbers.LineKind.{LineKind}
use Rattle.sloth_base.specs.declared.numbers.LineKind.TheVariants as line_of
use Rattle.observe.specs.Pieces.{RunPiece, Outside, Stretch, pieces, cut_off_steps}

-- what a run is observed by: the marks of the image, and the owners of lines
pub record View : Type 0 where
  pub marks : List Mark
  pub owners : Owners

-- the view of these marks and these owners
abbrev pub view_from : List Mark → Owners → View
view_from marks owners = record { marks = marks; owners = owners }

-- what a run of an image is observed by
abbrev pub view_of_image : Image → View
view_of_image image = view_from image.marks (owners_named image)

-- ---- tasks, services and marks

-- the number of no task
abbrev pub NO_TASK : ℕ
NO_TASK = 4294967295

-- the number of no counter
abbrev pub NO_COUNTER : ℕ
NO_COUNTER = 4294967295

-- The task of the first word of memory: that word is 0 where no task runs, and a task's number plus 1 where it does.
abbrev pub running_task : ℕ → ℕ → ℕ
running_task tasks cur = if nat_lt 0 cur && nat_le cur tasks then cur - 1 else NO_TASK

-- the event of a stretch that begins with the taking of a line that is for nothing: a task's would be below the lines of counters
abbrev pub unused_event : ℕ → Event
unused_event line = if nat_lt line first_counter_line then event.Enter NO_TASK else event.Tick NO_COUNTER

-- the event of a stretch that begins with the taking of a line, by what the line is for
abbrev pub entry_event : ℕ → LineKind → Event
entry_event line (line_of.Task t) = event.Enter t
entry_event line (line_of.Counter c) = event.Tick c
entry_event line line_of.Unused = unused_event line

-- the event of an arrival of a line, by what the line is for
abbrev pub arrival_event : LineKind → Event
arrival_event (line_of.Task t) = event.Admit t
arrival_event (line_of.Counter c) = event.Due c
arrival_event line_of.Unused = event.Admit NO_TASK

-- the mark on the instruction at this address
abbrev pub mark_at : View → ℕ → Option Mark
mark_at view address = find (λ mark. mark.address == address) view.marks

-- ---- the event of a piece

-- an event with its stamp
abbrev pub stamp : ℕ → ℕ → Event → Stamped
stamp from at what = record { stamp = record { from = from; at = at }; event = what }

-- Of a stretch that begins at the opening mark of a service: the service returns where the running task is as
-- before, with its status in a0. No service has a code above 15, and no image in range such a mark.
abbrev pub service_event : Option Service → View → Step → Step → Event
service_event (Some called) view first last =
    if first.cur_before == last.cur_after
    then event.Call (running_task view.owners.tasks first.cur_before) called (slice_index last.regs 10)
    else event.Left (running_task view.owners.tasks first.cur_before) called
service_event None view first last = event.Stray

-- the event of a stretch that begins at this mark, which no line began
abbrev pub marked_event : MarkKind → View → Mark → Step → Step → Event
marked_event kind.Opening view mark first last = service_event (service_of mark.a) view first last
marked_event kind.Back view mark first last = event.Back (running_task view.owners.tasks first.cur_before)
marked_event kind.Item view mark first last = event.Stray
marked_event kind.Jump view mark first last = event.Stray
marked_event kind.Idle view mark first last = event.Stray

-- of a stretch that no line began
abbrev pub unentered_event : Option Mark → View → Step → Step → Event
unentered_event (Some mark) view first last = marked_event mark.kind view mark first last
unentered_event None view first last = event.Stray

-- of a stretch after that of count 0
abbrev pub later_event : Option ℕ → View → Step → Step → Event
later_event (Some line) view first last = entry_event line (line_kind view.owners line)
later_event None view first last = unentered_event (mark_at view first.pc) view first last

-- of a stretch with this first and this last step
abbrev pub stretch_event : View → Step → Step → Event
stretch_event view first last = if first.count == 0 then event.Boot else later_event first.entered view first last

-- an instruction at an item mark runs the item, and the mark names the register of its result
abbrev pub events_of_kind : MarkKind → View → Mark → Step → List Event
events_of_kind kind.Item view mark step = event.Run (running_task view.owners.tasks step.cur_before) mark.b mark.c (slice_index step.regs mark.a) ∷ []
events_of_kind kind.Idle view mark step = event.Idle ∷ []
events_of_kind kind.Jump view mark step = []
events_of_kind kind.Opening view mark step = []
events_of_kind kind.Back view mark step = []

-- of a step outside the stretches
abbrev pub outside_events : Option Mark → View → Step → List Event
outside_events (Some mark) view step = events_of_kind mark.kind view mark step
outside_events None view step = []

-- ---- the admissions

-- the event of an arrival at its own moment
abbrev pub admission : View → Arrival → Stamped
admission view arrival = stamp arrival.at arrival.at (arrival_event (line_kind view.owners arrival.line))

-- the step, at that moment or later, loads the pending byte of the line or stores zero to it
abbrev pub is_touch : ℕ → ℕ → Step → Bool
is_touch at line step = nat_le at step.count && is_number line step.touched

-- the arrival comes before a step of these that touches its line
abbrev pub is_early : List Step → Arrival → Bool
is_early steps arrival = list_any (is_touch arrival.at arrival.line) steps

-- the first moment of a stretch that finds MIE 0
abbrev pub first_masked_moment : Step → ℕ
first_masked_moment first = if first.enabled_before then first.count + 1 else first.count

-- the last of steps that begin with this one
abbrev pub last_of : Step → List Step → Step
last_of step [] = step
last_of step (next ∷ more) = last_of next more

-- an arrival that the first moment of a stretch finds with MIE 1
abbrev pub found_admits : View → List Arrival → List Step → List Stamped
found_admits view arrivals [] = []
found_admits view arrivals (first ∷ more) = map (admission view) (moments first.count (first_masked_moment first) arrivals)

-- The event of a stretch, with the arrivals inside it: the early ones before it and the late ones behind it.
abbrev pub placed_events : View → List Step → List Arrival → Step → Step → List Stamped
placed_events view steps inside first last =
    map (admission view) (filter (is_early steps) inside)
    ++ (stamp first.count last.count (stretch_event view first last)
    ∷ map (admission view) (filter (λ arrival. not (is_early steps arrival)) inside))

-- the event of a stretch, and the arrivals while interrupts are masked
abbrev pub stretch_events : View → List Arrival → List Step → List Stamped
stretch_events view arrivals [] = []
stretch_events view arrivals (first ∷ more) =
    placed_events view (first ∷ more) (moments (first_masked_moment first) ((last_of first more).count + 1) arrivals) first (last_of first more)

-- the events of a piece of a run
abbrev pub piece_events : View → List Arrival → RunPiece → List Stamped
piece_events view arrivals (Outside step) =
    map (admission view) (moments step.count (step.count + 1) arrivals)
    ++ map (stamp step.count step.count) (outside_events (mark_at view step.pc) view step)
piece_events view arrivals (Stretch steps) = found_admits view arrivals steps ++ stretch_events view arrivals steps

-- The events of a run. A stretch that the end of the run cuts off shows no event, and none of the arrivals inside it.
unfoldable pub observe : View → List Arrival → List Step → List Stamped
observe view arrivals steps =
    flat_map (piece_events view arrivals) (pieces [] steps) ++ found_admits view arrivals (cut_off_steps [] steps)
