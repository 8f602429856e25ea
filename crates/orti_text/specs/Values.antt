-- The value of each attribute of an object, by the service words of the image and the bytes of the controller.
use Rattle.std.specs.Prelude.{ℕ, ◌+◌, ◌==◌, Bool, true, false, cond, nat_lt, List, [], ◌∷◌, ◌++◌, codes, get_or, length}
use Rattle.sloth_base.specs.declared.config.Action.{Action}
use Rattle.sloth_base.specs.declared.config.Action.TheVariants as action
use Rattle.sloth_base.specs.declared.config.Config.{Config}
use Rattle.sloth_base.specs.declared.config.EventDecl.{EventDecl}
use Rattle.sloth_base.specs.ConfigRange.{scheduler_number}
use Rattle.sloth_base.specs.MemoryMap.{controller_base, memory_base}
use Rattle.sloth_base.specs.Named.{alarm_declaration, counter_of, declaration}
use Rattle.sloth_region.specs.declared.region.Map.{Map}
use Rattle.sloth_region.specs.declared.region.Extent.{Extent}
use Rattle.sloth_region.specs.Layout.{active, alarm_cycle, alarm_left, counter_value, cur, enabled_byte, events, pending_byte, wait}
use Rattle.mem_map.specs.StackParts.{no_extent, stack_number}
use Rattle.mem_map.specs.Zones.{all_stacks}
use Rattle.osek_scheduler.specs.Priority.{ceiling}
use Rattle.orti_text.specs.Attributes.{event_declaration}
use Rattle.orti_text.specs.Formulas.{Formula, Number, Hex, Word, Byte, Equal, Choice}
use Rattle.orti_text.specs.Tables.{Value, Expression, Literal}
use Rattle.orti_text.specs.declared.attributes.Attribute.{Attribute}
use Rattle.orti_text.specs.declared.attributes.Attribute.TheVariants as attribute

-- ---- formulas

-- the service word, and the byte of the controller, at an offset
abbrev pub word : (offset : ℕ) → Formula
word offset = Word (memory_base + offset)

abbrev pub byte : (offset : ℕ) → Formula
byte offset = Byte (controller_base + offset)

-- whether a formula is 1
abbrev pub is_one : Formula → Formula
is_one f = Equal f (Number 1)

-- one of three by the line of a task that is not Active: where it is Ready, Suspended, Waiting
abbrev pub by_line : (task : ℕ) → (ready suspended waiting : Formula) → Formula
by_line t r s w = Choice (is_one (byte (enabled_byte t))) (Choice (is_one (byte (pending_byte t))) r s) w

-- One of four by a task's state, in the order in which memory and controller tell it: where it is Active, Ready, Suspended, Waiting.
abbrev pub by_state : (task : ℕ) → (active ready suspended waiting : Formula) → Formula
by_state t a r s w = Choice (is_one (word (active t))) a (by_line t r s w)

-- A task's state, as one of `state_names`: an Active one is running where the first service word names it, else preempted and so ready.
abbrev pub state_formula : (task : ℕ) → Formula
state_formula t = by_state t (Choice (Equal (word cur) (Number (t + 1))) (Number 0) (Number 2)) (Number 2) (Number 3) (Number 1)

-- 1 where a task is Active
abbrev pub entered_formula : (task : ℕ) → Formula
entered_formula t = Choice (is_one (word (active t))) (Number 1) (Number 0)

-- 1 where a task is not Suspended
abbrev pub activations_formula : (task : ℕ) → Formula
activations_formula t = by_state t (Number 1) (Number 1) (Number 0) (Number 1)

-- the events that a Waiting task waits for, else 0: its third word is an old one where it does not wait
abbrev pub wait_formula : (task : ℕ) → Formula
wait_formula t = Choice (is_one (word (active t))) (Number 0) (Choice (is_one (byte (enabled_byte t))) (Number 0) (word (wait t)))

-- one of two by whether an alarm is in use
abbrev pub where_in_use : (alarm : ℕ) → Formula → Formula
where_in_use a f = Choice (Equal (word (alarm_left a)) (Number 0)) (Number 0) f

-- ---- texts

-- the names of the events of a mask; ` or ` stands before each but the first
abbrev pub mask_text : (first : Bool) → (mask : ℕ) → List EventDecl → List ℕ
mask_text first mask [] = []
mask_text first mask (e ∷ rest) =
    cond (e.mask == mask) (cond first [] (codes " or ") ++ e.name ++ mask_text false mask rest) (mask_text first mask rest)

-- what an alarm does as it expires
abbrev pub action_text : Config → Action → List ℕ
action_text config (action.Activate t) = codes "ActivateTask(" ++ (declaration config t).name ++ codes ")"
action_text config (action.Set t mask) = codes "SetEvent(" ++ (declaration config t).name ++ codes ", " ++ mask_text true mask config.events ++ codes ")"

-- ---- values

-- a stack by its place
abbrev pub stack_at : Map → ℕ → Extent
stack_at m k = get_or (all_stacks m) k no_extent

-- the number of the resource that is one of the objects: RES_SCHEDULER stands after all others
abbrev pub resource_number : Config → ℕ → ℕ
resource_number config n = cond (nat_lt n (length config.resources)) n scheduler_number

-- the formula of an attribute of the object of a number, 0 where it has a text
abbrev pub formula : Config → Map → Attribute → (number : ℕ) → Formula
formula config m attribute.RunningTask n = word cur
formula config m (attribute.CounterValue c) n = word (counter_value c)
formula config m (attribute.EventMask e) n = Hex (event_declaration config e).mask
formula config m attribute.StaticPriority t = Number (declaration config t).priority
formula config m attribute.TaskState t = state_formula t
formula config m attribute.Entered t = entered_formula t
formula config m attribute.TaskStack t = Number (stack_number config.tasks t)
formula config m attribute.Activations t = activations_formula t
formula config m attribute.Events t = word (events t)
formula config m attribute.WaitMask t = wait_formula t
formula config m attribute.Size k = Number (stack_at m k).len
formula config m attribute.BaseAddress k = Hex (stack_at m k).base
formula config m attribute.AlarmTime a = word (alarm_left a)
formula config m attribute.CycleTime a = where_in_use a (word (alarm_cycle a))
formula config m attribute.AlarmState a = where_in_use a (Number 1)
formula config m attribute.Ceiling r = Number (ceiling config (resource_number config r))
formula config m _ n = Number 0

-- the value of an attribute of the object of a number
abbrev pub attribute_value : Config → Map → Attribute → (number : ℕ) → Value
attribute_value config m attribute.Direction k = Literal (codes "DOWN")
attribute_value config m attribute.Expiry a = Literal (action_text config (alarm_declaration config a).action)
attribute_value config m attribute.AlarmCounter a = Literal (counter_of config a).name
attribute_value config m other n = Expression (formula config m other n)
