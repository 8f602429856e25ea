-- What an event of the running task does.
use Rattle.std.specs.Prelude.{ℕ, ◌+◌, ◌*◌, ◌<◌, ◌≤◌, ◌&&◌, List, [], Bool}
use Rattle.std.specs.Prelude.{cond, length, get_or, set, leb, ltb, bit_and, Option, Some, None, slice_get}
use Rattle.sloth_base.specs.Arithmetic.{complement, size_of, register_result, number_result, branch_holds}
use Rattle.sloth_base.specs.declared.config.Config.{Config}
use Rattle.sloth_base.specs.declared.app.App.{App}
use Rattle.sloth_base.specs.declared.app.Func.{Func}
use Rattle.sloth_base.specs.declared.app.Op.{Op}
use Rattle.sloth_base.specs.declared.app.Op.TheVariants as op
use Rattle.sloth_base.specs.declared.app.Width.{Width}
use Rattle.sloth_base.specs.declared.service.Service.{Service}
use Rattle.osek_scheduler.specs.State.{Frame, System, task, with_alarm}
use Rattle.osek_scheduler.specs.Meaning.{register, shown_value, on_some, if_true, accessed_bytes, loaded_word, bytes_after_store}
use Rattle.osek_scheduler.specs.Outcomes.{plan}
use Rattle.osek_scheduler.specs.Outcomes.{plan_in, decision}
use Rattle.osek_scheduler.specs.declared.change.TaskChange.TheVariants as change
use Rattle.osek_scheduler.specs.declared.change.Other.{Other}
use Rattle.osek_scheduler.specs.declared.change.Other.TheVariants as other
use Rattle.osek_scheduler.specs.declared.change.Plan.{Plan}
use Rattle.osek_scheduler.specs.Changes.{with_change}
use Rattle.osek_machine.specs.Changes.{HasChangeRoom}

-- the system after what an event does besides; events are set in one change
abbrev pub with_other : Other → System → System
with_other other.Nothing s = s
with_other (other.Activate t) s = with_change t change.Activate s
with_other (other.AddEvents t mask) s = with_change t (change.AddEvents mask) s
with_other (other.Store y w offset value) s = record s { symbols = set s.symbols y (bytes_after_store w (get_or s.symbols y []) offset value) }
with_other (other.SetAlarm a left cycle) s = with_alarm s a (record { left = left; cycle = cycle })

-- the system after a plan of task t
abbrev pub planned_system : ℕ → Plan → System → System
planned_system t p s = with_other p.other (with_change t p.change s)

-- what else an event does is there
abbrev pub HasOther : Other → System → Type 0
HasOther other.Nothing s = Unit {0}
HasOther (other.Activate t) s = t < length s.tasks
HasOther (other.AddEvents t mask) s = t < length s.tasks
HasOther (other.Store y w offset value) s = (y < length s.symbols) × (offset + size_of w ≤ length (get_or s.symbols y []))
HasOther (other.SetAlarm a left cycle) s = a < length s.clock.alarms

-- the system has room for a plan of task t
pub record HasPlanRoom (t : ℕ) (p : Plan) (s : System) : Type 0 where
  pub declared : t < length s.tasks
  pub allows : HasChangeRoom p.change (task s t)
  pub besides : HasOther p.other s

-- ---- services

-- what a service does in a state; `object` is its task, resource or alarm, `mask` that of its events
abbrev pub service_plan : Config → Service → (object mask caller : ℕ) → System → Plan
service_plan config served object mask caller s = plan_in s (decision config served object mask caller s)

-- ---- items that are no services

-- a value is written to rd
abbrev pub write_plan : ℕ → ℕ → Plan
write_plan rd value = plan (Some (shown_value rd value)) (change.Write rd value) other.Nothing

-- the word that a load gives, where the access lies inside the symbol
abbrev pub load_of : List (List ℕ) → Width → ℕ → ℕ → Option ℕ
load_of symbols w y offset = on_some (accessed_bytes symbols y w offset) (λ bytes. Some (loaded_word w bytes offset))

-- a load into rd
abbrev pub load_plan : List (List ℕ) → Width → ℕ → ℕ → ℕ → Option Plan
load_plan symbols w rd y offset = on_some (load_of symbols w y offset) (λ value. Some (write_plan rd value))

-- an access lies inside the symbol
abbrev pub is_inside : List (List ℕ) → ℕ → Width → ℕ → Bool
is_inside symbols y w offset = ltb y (length symbols) && leb (offset + size_of w) (length (get_or symbols y []))

-- a store of a value
abbrev pub store_plan : List (List ℕ) → Width → ℕ → ℕ → ℕ → Option Plan
store_plan symbols w value y offset = if_true (is_inside symbols y w offset) (Some (plan (Some value) change.MoveOn (other.Store y w offset value)))

-- the number of the item behind a label
abbrev pub item_behind : Func → ℕ → Option ℕ
item_behind f label = on_some (slice_get f.labels label) (λ found. Some found.item)

-- a jump to a label
abbrev pub jump_plan : Func → ℕ → Option Plan
jump_plan f label = on_some (item_behind f label) (λ item. Some (plan (Some 0) (change.GoTo item) other.Nothing))

-- a jump to a label where a test holds; the next item else
abbrev pub branch_plan : Func → Bool → ℕ → ℕ → Option Plan
branch_plan f holds item label = on_some (item_behind f label) (λ target. Some (plan (Some 0) (change.GoTo (cond holds target (item + 1))) other.Nothing))

-- what an item does, of a function f with this innermost frame and so many functions in progress
abbrev pub item_plan : App → Op → Func → Frame → ℕ → List ℕ → List (List ℕ) → Option Plan
item_plan app (op.Alu kind rd rs1 rs2) f frame depth x symbols = Some (write_plan rd (register_result kind (register x rs1) (register x rs2)))
item_plan app (op.AluImm kind rd rs1 number) f frame depth x symbols = Some (write_plan rd (number_result kind (register x rs1) (complement number)))
item_plan app (op.Lui rd number) f frame depth x symbols = Some (write_plan rd (number * 4096))
item_plan app (op.Li rd value) f frame depth x symbols = Some (write_plan rd value)
item_plan app (op.FrameLoad rd word) f frame depth x symbols = on_some (slice_get frame.words word) (λ value. Some (write_plan rd value))
item_plan app (op.FrameStore rs word) f frame depth x symbols =
    on_some (slice_get frame.words word) (λ old. Some (plan (Some (register x rs)) (change.StoreWord word (register x rs)) other.Nothing))
item_plan app (op.Load w rd y offset) f frame depth x symbols = load_plan symbols w rd y offset
item_plan app (op.Store w rs y offset) f frame depth x symbols = store_plan symbols w (register x rs) y offset
item_plan app (op.LoadAt w rd y index mask) f frame depth x symbols = load_plan symbols w rd y (bit_and (register x index) mask)
item_plan app (op.StoreAt w rs y index mask) f frame depth x symbols = store_plan symbols w (register x rs) y (bit_and (register x index) mask)
item_plan app (op.Branch kind rs1 rs2 label) f frame depth x symbols =
    branch_plan f (branch_holds kind (register x rs1) (register x rs2)) frame.item label
item_plan app (op.Jump label) f frame depth x symbols = jump_plan f label
item_plan app (op.Invoke g) f frame depth x symbols =
    on_some (slice_get app.funcs g) (λ called. Some (plan (Some 0) (change.Invoke g called.frame_words) other.Nothing))
item_plan app op.Return f frame depth x symbols = if_true (ltb 1 depth) (Some (plan (Some 0) change.Return other.Nothing))
item_plan app (op.Serve call) f frame depth x symbols = None
