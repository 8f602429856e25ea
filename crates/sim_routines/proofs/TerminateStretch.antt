-- The stretch of TerminateTask, whatever lines arrive.
use Rattle.std.proofs.Common.{ℕ, ◌<◌, List, refl, arith}
use Rattle.sloth_base.specs.declared.service.Arrival.{Arrival}
use Rattle.sloth_base.specs.declared.service.Service.TheVariants as service
use Rattle.sloth_base.specs.Arrive.{state_arrive}
use Rattle.sloth_base.specs.Machine.{State}
use Rattle.rv32_machine.specs.Run.{state_with_arrivals}
use Rattle.observe.specs.Observe.{View}
use Rattle.service_gen.specs.TerminateTask.{IsTerminateTaskCode, TerminateTaskEffect}
use Rattle.osek_scheduler.specs.State.{System, task}
use Rattle.sim_induction.specs.Admits.{IsSetting, lines_at, with_admits}
use Rattle.sim_relation.specs.Build.{Build, HasFittingPlaces}
use Rattle.sim_relation.specs.Placed.{setting_of}
use Rattle.sim_relation.specs.Stands.{Stands}
use Rattle.sim_routines.specs.Stretch.{OpensTerminateTask, HasStretch}
use Rattle.sim_routines.proofs.ServiceStretch.{k, can_serve, service_stretches}
use Rattle.sim_routines.proofs.Touching.{touches_one}
use Rattle.sim_relation.proofs.Placed.{active_by_word}
use Rattle.sim_routines.proofs.Terminate.{terminate_ends}
use Rattle.sim_routines.proofs.Weighing.{left_within}

pub terminate_stretches : (b : Build) (view : View) (arrivals : List Arrival) (count : ℕ) (state : State) (s : System) (t : ℕ)
    → HasFittingPlaces b → IsSetting (setting_of b view arrivals) → 0 < count → Stands b state s
    → OpensTerminateTask b view (state_with_arrivals arrivals count state) (with_admits (lines_at arrivals count) s) t → HasStretch b view arrivals count state s
terminate_stretches b view arrivals count state s t fits setting after_boot stands o =
    let n = state_with_arrivals arrivals count state in
    let own = task (with_admits (lines_at arrivals count) s) t in
    let block = o.opens.block in
    let found = can_serve b view arrivals count state s t service.TerminateTask (λ object. IsTerminateTaskCode) fits setting after_boot stands o.opens block.serves.masks in
    let can = found.1 in
    let there = k b view arrivals count state s t service.TerminateTask (λ object. IsTerminateTaskCode) fits setting after_boot stands o.opens block.serves.masks in
    service_stretches b view arrivals count state s t service.TerminateTask (λ object. IsTerminateTaskCode) fits setting after_boot stands o.opens block.serves.masks
    48 (omega arith) (TerminateTaskEffect t found.0)
    (λ touched from to e. touches_one b t touched (active_by_word b n (with_admits (lines_at arrivals count) s) t there o.opens.opening.current).declared e.touches)
    (block.serves.runs block.offset t found.0 n.core
    (record { can_run = can.goes_back.can_run; previous = can.goes_back.previous; bases = can.goes_back.bases; runs = can.current; is_task = can.is_task; below = can.below }))
    (λ lines touched s2 end is effect.
    terminate_ends b (state_arrive lines n) s2 t own found.0 touched end fits
    (record { is_served = is; holds_nothing = o.holds_nothing; below = can.below.is }) effect)
    (λ lines touched s2 end is effect answer. left_within b t service.TerminateTask 48 s2 touched end (omega arith) (λ object mask. refl) answer)
