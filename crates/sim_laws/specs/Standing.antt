-- What holds of a kernel in place at each count of a run that finds interrupts open.
use Rattle.std.specs.Prelude.{ℕ, ◌<◌, ◌≡◌, List, true, filter, Some}
use Rattle.sloth_base.specs.declared.image.Image.{Image}
use Rattle.sloth_base.specs.declared.service.Arrival.{Arrival}
use Rattle.sloth_base.specs.Owners.{owners_in}
use Rattle.sloth_base.specs.Machine.{State}
use Rattle.rv32_machine.specs.Start.{start}
use Rattle.rv32_machine.specs.Run.{state_after, state_with_arrivals}
use Rattle.osek_scheduler.specs.State.{System, opening}
use Rattle.osek_scheduler.specs.Runs.{AreStepsTo}
use Rattle.sim_induction.specs.Sound.{AreComing, events_of, stands_before}
use Rattle.sim_relation.specs.Build.{Build, with_passed}
use Rattle.sim_relation.specs.Stands.{Stands}
use Rattle.sim_laws.specs.Kernel.{Kernel}
use Rattle.sim_laws.specs.Nested.{AreNested}

-- The machine stands as the system says, and the Active basic tasks have their parts of the shared stack one below the other, in the order
-- in which they were entered.
pub record StandsNested (b : Build) (state : State) (s : System) : Type 0 where
  pub stands : Stands b state s
  pub nested : AreNested b stands.stack

-- It does so in every run of an image with a kernel in place, at each count that finds MIE 1: with the arrivals of the count, and for the
-- system that the events before it lead to. Of what preempted tasks have passed nothing is said.
abbrev pub KernelStands : Type 0
KernelStands = (b : Build) (image : Image) → Kernel b image → (arrivals : List Arrival) (n count : ℕ) (state : State)
    → AreComing (owners_in b.config) arrivals → count < n
    → state_after count arrivals (start image) ≡ Some state → state.core.mie ≡ true
    → (s : System) × AreStepsTo b.config b.app (filter (stands_before count) (events_of image arrivals n)) (opening b.config b.app) s
    × StandsNested (with_passed b (λ t. 0)) (state_with_arrivals arrivals count state) s
