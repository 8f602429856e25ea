-- What events stretches and single instructions show.
use Rattle.std.proofs.Common.{◌≡◌, ℕ, List, refl, Bool, true, false, cond, Option, Some, None}
use Rattle.std.specs.List.{AllByRecursion}
use Rattle.std.specs.Prelude.{◌==◌, nat_lt, slice_index}
use Rattle.sloth_base.specs.declared.service.Service.{Service}
use Rattle.sloth_base.specs.declared.image.Mark.{Mark}
use Rattle.sloth_base.specs.declared.image.MarkKind.{MarkKind}
use Rattle.sloth_base.specs.declared.image.MarkKind.TheVariants as kind
use Rattle.sloth_base.specs.declared.service.Event.{Event}
use Rattle.sloth_base.specs.declared.service.Event.TheVariants as event
use Rattle.sloth_base.specs.declared.service.Stamped.{Stamped}
use Rattle.sloth_base.specs.declared.numbers.Step.{Step}
use Rattle.observe.specs.Observe.{View, stretch_event, later_event, unentered_event, marked_event, service_event, running_task, mark_at, outside_events, events_of_kind, stamp, entry_event, NO_TASK, NO_COUNTER}
use Rattle.sloth_base.specs.ServiceCodes.{service_of}
use Rattle.sloth_base.specs.Owners.{first_counter_line, line_kind}
use Rattle.sloth_base.specs.declared.numbers.LineKind.{LineKind}
use Rattle.sloth_base.specs.declared.numbers.LineKind.TheVariants as line_of
use Rattle.osek_scheduler.specs.InTime.{is_admit, HasSpanFor}

-- an event that is no admit, and may have more than one instruction
abbrev pub IsLong : Event → Type 0
IsLong what = (is_admit (stamp 0 0 what) ≡ false) × ((e : Stamped) → HasSpanFor what e)

pick : (P : Event → Type 0) (b : Bool) (x y : Event) → P x → P y → P (cond b x y)
pick P true x y h k = h
pick P false x y h k = k

service_long : (s : Option Service) (view : View) (first last : Step) → IsLong (service_event s view first last)
service_long (Some s) view first last =
    pick IsLong (first.cur_before == last.cur_after)
    (event.Call (running_task view.owners.tasks first.cur_before) s (slice_index last.regs 10))
    (event.Left (running_task view.owners.tasks first.cur_before) s)
    (refl, λ e. tt)
    (refl, λ e. tt)
service_long None view first last = (refl, λ e. tt)

marked_long : (k : MarkKind) (view : View) (mark : Mark) (first last : Step) → IsLong (marked_event k view mark first last)
marked_long kind.Opening view mark first last = service_long (service_of mark.a) view first last
marked_long kind.Back view mark first last = (refl, λ e. tt)
marked_long kind.Item view mark first last = (refl, λ e. tt)
marked_long kind.Jump view mark first last = (refl, λ e. tt)
marked_long kind.Idle view mark first last = (refl, λ e. tt)

unentered_long : (m : Option Mark) (view : View) (first last : Step) → IsLong (unentered_event m view first last)
unentered_long (Some mark) view first last = marked_long mark.kind view mark first last
unentered_long None view first last = (refl, λ e. tt)

entry_long : (line : ℕ) (k : LineKind) → IsLong (entry_event line k)
entry_long line (line_of.Task t) = (refl, λ e. tt)
entry_long line (line_of.Counter c) = (refl, λ e. tt)
entry_long line line_of.Unused = pick IsLong (nat_lt line first_counter_line) (event.Enter NO_TASK) (event.Tick NO_COUNTER) (refl, λ e. tt) (refl, λ e. tt)

later_long : (entered : Option ℕ) (view : View) (first last : Step) → IsLong (later_event entered view first last)
later_long (Some line) view first last = entry_long line (line_kind view.owners line)
later_long None view first last = unentered_long (mark_at view first.pc) view first last

pub stretch_long : (view : View) (first last : Step) → IsLong (stretch_event view first last)
stretch_long view first last =
    pick IsLong (first.count == 0) event.Boot (later_event first.entered view first last) (refl, λ e. tt) (later_long first.entered view first last)

-- an event of one instruction: a run of an item, or idle
abbrev pub IsSingle : Event → Type 0
IsSingle (event.Run t func item result) = Unit {0}
IsSingle event.Idle = Unit {0}
IsSingle _ = ⊥

abbrev pub AreSingle : List Event → Type 0
AreSingle whats = AllByRecursion IsSingle whats

kind_single : (k : MarkKind) (view : View) (mark : Mark) (s : Step) → AreSingle (events_of_kind k view mark s)
kind_single kind.Item view mark s = (tt, tt)
kind_single kind.Idle view mark s = (tt, tt)
kind_single kind.Jump view mark s = tt
kind_single kind.Opening view mark s = tt
kind_single kind.Back view mark s = tt

pub outside_single : (m : Option Mark) (view : View) (s : Step) → AreSingle (outside_events m view s)
outside_single (Some mark) view s = kind_single mark.kind view mark s
outside_single None view s = tt
