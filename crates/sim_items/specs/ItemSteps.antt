-- Items as steps of the abstract scheduler, said without arrivals.
use Rattle.std.specs.Prelude.{ℕ, ◌+◌, ◌<◌, ◌≡◌, [], length, slice_index, None}
use Rattle.sloth_base.specs.declared.service.Event.TheVariants as event
use Rattle.sloth_base.specs.Machine.{State}
use Rattle.sloth_region.specs.Layout.{cur}
use Rattle.rv32_instr.specs.Execute.{Going, step, touched}
use Rattle.rv32_instr.specs.Ram.{word_at}
use Rattle.sloth_base.specs.Named.{operation, function}
use Rattle.rv32_expand.specs.Expansion.{expansion}
use Rattle.rv32_expand.specs.InPlace.{result_register}
use Rattle.observe.specs.Observe.{View}
use Rattle.osek_scheduler.specs.State.{System}
use Rattle.osek_scheduler.specs.Priority.{IsTop}
use Rattle.osek_scheduler.specs.Steps.{OsekStep}
use Rattle.sim_relation.specs.Build.{Build, HasFittingPlaces}
use Rattle.sim_relation.specs.Stands.{Stands}
use Rattle.sim_items.specs.Place.{AtItem, ItemStands, IsStraight, HasNumbers}

-- the machine executes the item: its next state stands with that of the abstract scheduler behind the event, and shows its result
pub record RunsItem (b : Build) (state : State) (s : System) (t func item : ℕ) : Type 0 where
  pub next : State
  pub goes : step state ≡ Going next
  pub untouched : touched state ≡ None
  pub after : System
  pub step_is : OsekStep b.config b.app (event.Run t func item (slice_index next.core.registers (result_register (operation b.app func item)))) s after
  pub stands : Stands b next after
  -- the task still runs
  pub current : word_at next.core.ram cur ≡ t + 1

-- the last instruction of an item behind which the next one follows
abbrev pub StraightItemsRun : Type 0
StraightItemsRun = (b : Build) (view : View) (state : State) (s : System) (t : ℕ) → HasFittingPlaces b → Stands b state s → (at : AtItem b state s t)
    → IsTop b.config s [] t → HasNumbers b state s
    → IsStraight b.app at.frame.func (operation b.app at.frame.func at.frame.item) → ItemStands b view at.frame.func at.frame.item
    → at.here.done + 1 ≡ length (expansion b.app b.places at.frame.func at.frame.item)
    → at.frame.item + 1 < length (function b.app at.frame.func).items
    → RunsItem b state s t at.frame.func at.frame.item
