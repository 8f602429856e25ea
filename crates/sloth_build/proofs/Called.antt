-- What items call has code that is generated.
use Rattle.std.proofs.Common.{◌≡◌, ◌<◌, ◌≤◌, ◌==◌, ℕ, Bool, cond, true, false, length, get_or, sym, ap, ◌∙◌, subst, arith}
use Rattle.std.proofs.lemmas.Bool.{ne_eqb}
use Rattle.sloth_base.specs.Named.{function, no_function, no_item, operation, undeclared_alarm}
use Rattle.sloth_base.specs.ConfigRange.{InRange}
use Rattle.sloth_base.specs.ImageRange.{service_limit}
use Rattle.sloth_base.specs.ServiceCodes.{code_of, service_of, object_kind}
use Rattle.sloth_base.proofs.Services.{of_code}
use Rattle.sloth_base.specs.declared.app.App.{App}
use Rattle.sloth_base.specs.declared.app.Call.{Call}
use Rattle.sloth_base.specs.declared.app.Op.TheVariants as op
use Rattle.sloth_base.specs.declared.config.Config.{Config}
use Rattle.sloth_base.specs.declared.service.ObjectKind.{ObjectKind}
use Rattle.sloth_base.specs.declared.service.ObjectKind.TheVariants as object
use Rattle.sloth_base.specs.declared.limits.Bounds.{Bounds}
use Rattle.sloth_base.specs.declared.service.Service.{Service}
use Rattle.sloth_base.specs.declared.service.Service.TheVariants as service
use Rattle.sloth_base.specs.Blocks.{block_objects, block_number, block_code, block_object}
use Rattle.sloth_base.specs.Limits.{resource_limit}
use Rattle.code_rules.specs.AppRange.{IsObject, AreOperands, IsOp}
use Rattle.code_rules.specs.WellFormed.{WellFormed}
use Rattle.code_rules.proofs.Objects.{object_number}
use Rattle.stack_bounds.specs.Bounds.{AreBounds}
use Rattle.rv32_expand.specs.InPlace.{IsAppItem}
use Rattle.block_parts.proofs.Objects.{code_few}
use Rattle.service_gen.specs.Calls.{IsOfKind, IsCalledWith}
use Rattle.mem_map.specs.Wanted.{wanted_blocks}
use Rattle.mem_map.proofs.Callers.{called, marked}
use Rattle.mem_map.proofs.Wanting.{all_places, at_place}
use Rattle.sim_laws.specs.Zones.{RoomForCalls}
use Rattle.sloth_build.specs.Services.{AreServed}

-- the bounds of stacks have room for each chain of calls
pub room_for_calls : (config : Config) (app : App) (bounds : Bounds) → AreBounds config app bounds → RoomForCalls bounds config app
room_for_calls config app bounds are t declared func outer calls = let fits = are.room t func outer declared calls in omega (arith, fits)

-- the objects of a configuration have code
has_code : (config : Config) → InRange config → (kind : ObjectKind) (number : ℕ) → IsObject config kind number → IsOfKind config kind number
has_code config range object.Nothing number h = object_number config range object.Nothing number h
has_code config range object.Task number h = object_number config range object.Task number h
has_code config range object.Resource number h = object_number config range object.Resource number h
has_code config range object.Alarm number h = h

-- what an item calls has code
pub called_with : (config : Config) (app : App) → WellFormed config app → (func item : ℕ) (call : Call) → IsAppItem app func item
    → operation app func item ≡ op.Serve call → IsCalledWith config call.service call.object
called_with config app well func item call is e =
    let own = (well.in_range.bodies func no_function is.declared).items item no_item is.inside in
    let operands : AreOperands config call.service call.object call.mask = subst (IsOp config app (function app func)) e own in
    has_code config well.in_range.configuration (object_kind call.service) call.object operands.0

-- objects have small numbers
few_of_kind : (config : Config) → InRange config → (kind : ObjectKind) (number : ℕ) → IsOfKind config kind number → number ≤ resource_limit
few_of_kind config range object.Nothing number h = code_few object.Nothing number h
few_of_kind config range object.Task number h = code_few object.Task number h
few_of_kind config range object.Resource number h = code_few object.Resource number h
few_of_kind config range object.Alarm number h = let few = range.few_alarms in omega (arith, h, few)

-- ---- marks

-- services have small numbers
code_small : (s : Service) → code_of s < 16
code_small service.ActivateTask = omega arith
code_small s = omega arith

-- the services of an image with counters, and of one without
all_services : (counters : ℕ) (s : Service) → 0 < counters → code_of s < service_limit counters
all_services counters s some = subst (λ b. code_of s < cond b 12 16) (sym (ne_eqb counters 0 (λ e. omega (arith, some, e)))) (code_small s)

some_services : (counters : ℕ) (s : Service) → code_of s < 12 → code_of s < service_limit counters
some_services counters s small = by (counters == 0)
  where
    by : (b : Bool) → code_of s < cond b 12 16
    by true = small
    by false = omega (arith, small)

-- an alarm is one of a counter
has_counter : (config : Config) → InRange config → (alarm : ℕ) → alarm < length config.alarms → 0 < length config.counters
has_counter config range alarm h =
    let of = (range.alarms alarm undeclared_alarm h).counter in omega (arith, of)

-- what has code may stand in marks
pub in_marks : (config : Config) → InRange config → (s : Service) (object : ℕ) → IsCalledWith config s object → code_of s < service_limit (length config.counters)
in_marks config range service.SetRelAlarm object h = all_services (length config.counters) service.SetRelAlarm (has_counter config range object h)
in_marks config range service.SetAbsAlarm object h = all_services (length config.counters) service.SetAbsAlarm (has_counter config range object h)
in_marks config range service.CancelAlarm object h = all_services (length config.counters) service.CancelAlarm (has_counter config range object h)
in_marks config range service.GetAlarm object h = all_services (length config.counters) service.GetAlarm (has_counter config range object h)
in_marks config range s object h = some_services (length config.counters) s (omega arith)

module _ (config : Config) (app : App) (well : WellFormed config app) where
  -- each place that is wanted is that of a service with its object
  pub served : AreServed config (wanted_blocks app)
  served number is =
      let c = marked app (wanted_blocks app) (all_places app) (at_place app) number is in
      let has = called_with config app well c.func c.item c.call c.is_item c.is in
      let small = few_of_kind config well.in_range.configuration (object_kind c.call.service) c.call.object has in
      let n = c.numbered in
      let code : block_code number ≡ code_of c.call.service = omega (arith, small, n) in
      let object : block_object number ≡ c.call.object = omega (arith, small, n) in
      record { service = c.call.service; is = ap service_of code ∙ of_code c.call.service; called_with = subst (IsCalledWith config c.call.service) (sym object) has }

  -- what an item calls is wanted
  pub calls : (func item : ℕ) (call : Call) → IsAppItem app func item → operation app func item ≡ op.Serve call
      → (call.object < block_objects) × (get_or (wanted_blocks app) (block_number call.service call.object) false ≡ true)
  calls func item call is e =
      let small = few_of_kind config well.in_range.configuration (object_kind call.service) call.object (called_with config app well func item call is e) in
      let code = code_small call.service in
      (omega (arith, small), at_place app (block_number call.service call.object) (omega (arith, small, code)) ∙ called app func item call is e)
