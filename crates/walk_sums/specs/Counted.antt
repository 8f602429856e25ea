-- Weights by which walks are counted for what they do.
use Rattle.std.specs.Prelude.{ℕ, ◌≡◌, ◌==◌, ◌&&◌, ◌||◌, not, map, Bool, true, false, List, bit_and}
use Rattle.sloth_base.specs.declared.app.App.{App}
use Rattle.sloth_base.specs.declared.app.Func.{Func}
use Rattle.sloth_base.specs.declared.app.Item.{Item}
use Rattle.sloth_base.specs.declared.app.Op.{Op}
use Rattle.sloth_base.specs.declared.app.Op.TheVariants as op
use Rattle.sloth_base.specs.declared.service.Service.{Service}
use Rattle.sloth_base.specs.declared.service.Service.TheVariants as service
use Rattle.sloth_base.specs.ServiceCodes.{is_service}
use Rattle.osek_blocking.specs.Sections.{is_schedule}
use Rattle.bound_rules.specs.declared.bound.BodyWeights.{BodyWeights}
use Rattle.walk_sums.specs.declared.counted.Counted.{Counted}
use Rattle.walk_sums.specs.declared.counted.Counted.TheVariants as counted

-- a call of this service
abbrev pub calls : Service → Op → Bool
calls s (op.Serve call) = is_service call.service s
calls s _ = false

-- for a task, or another object of this number
abbrev pub calls_for : (task : ℕ) → Service → Op → Bool
calls_for task s (op.Serve call) = is_service call.service s && (call.object == task)
calls_for task s _ = false

-- a WaitEvent for some of these events
abbrev pub awaits : (events : ℕ) → Op → Bool
awaits events (op.Serve call) = is_service call.service service.WaitEvent && not (bit_and call.mask events == 0)
awaits events _ = false

-- the operation counts where a walk goes on behind it
abbrev pub is_going_counted : Counted → Op → Bool
is_going_counted (counted.Activations task) o = calls_for task service.ActivateTask o
is_going_counted (counted.Chains task) o = false
is_going_counted (counted.Settings task) o = calls_for task service.SetEvent o
is_going_counted (counted.Waits events) o = false
is_going_counted counted.Schedules o = false
is_going_counted (counted.Calls s) o = false
is_going_counted (counted.CallsFor s object) o = false

-- it counts where the walk ends with it
abbrev pub is_ending_counted : Counted → Op → Bool
is_ending_counted (counted.Activations task) o = calls_for task service.ActivateTask o || calls_for task service.ChainTask o
is_ending_counted (counted.Chains task) o = calls_for task service.ChainTask o
is_ending_counted (counted.Settings task) o = calls_for task service.SetEvent o
is_ending_counted (counted.Waits events) o = awaits events o
is_ending_counted counted.Schedules o = is_schedule o
is_ending_counted (counted.Calls s) o = calls s o
is_ending_counted (counted.CallsFor s object) o = calls_for object s o

-- only what a walk ends with counts
abbrev pub CountsEnds : Counted → Type 0
CountsEnds c = (o : Op) → is_going_counted c o ≡ false

-- 1 where it is so
abbrev pub one_if : Bool → ℕ
one_if true = 1
one_if false = 0

-- what counts weighs 1
abbrev pub body_counts : Counted → Func → BodyWeights
body_counts c f = record {
  going = map (λ (item : Item). one_if (is_going_counted c item.op)) f.items;
  ending = map (λ (item : Item). one_if (is_ending_counted c item.op)) f.items;
}

abbrev pub counted_weights : Counted → App → List BodyWeights
counted_weights c app = map (body_counts c) app.funcs
