-- An instruction before the last one of an item.
use Rattle.std.proofs.Common.{ℕ, ◌+◌, ◌*◌, ◌<◌, List, length, arith, inl, Bool}
use Rattle.sloth_base.specs.Machine.{State}
use Rattle.sloth_base.specs.Named.{operation}
use Rattle.sloth_base.specs.declared.app.Op.{Op}
use Rattle.sloth_base.specs.declared.service.Arrival.{Arrival}
use Rattle.rv32_expand.specs.Expansion.{is_long, expansion}
use Rattle.observe.specs.Observe.{View}
use Rattle.osek_scheduler.specs.State.{System, task}
use Rattle.sim_relation.specs.Build.{Build}
use Rattle.sim_relation.specs.Stands.{Stands}
use Rattle.sim_items.specs.Place.{AtItem, ItemStands, IsStraight}
use Rattle.sim_items.specs.Outside.{StandsAt, GoesOutside}
use Rattle.sim_items.specs.Progress.{progress_in}
use Rattle.sim_items.proofs.Passing.{instruction_outside}
use Rattle.sim_items.proofs.Preparing.{Prepares, prepares_straight}
use Rattle.sim_items.proofs.Registers.{own_agrees}
use Rattle.sim_items.proofs.Scratch.{scratch_passes}
use Rattle.sim_items.proofs.Outside as outside

module _ (b : Build) (view : View) (arrivals : List Arrival) (count : ℕ) (state : State) (s : System) (here : StandsAt b view arrivals count state s)
    (t : ℕ) (item : AtItem b (outside.n b view arrivals (progress_in b) count state s here) (outside.s1 b view arrivals (progress_in b) count state s here) t)
    (placed : ItemStands b view item.frame.func item.frame.item) where
  abbrev n : State
  n = outside.n b view arrivals (progress_in b) count state s here

  abbrev s1 : System
  s1 = outside.s1 b view arrivals (progress_in b) count state s here

  now : Stands b n s1
  now = outside.now b view arrivals (progress_in b) count state s here

  abbrev this : Op
  this = operation b.app item.frame.func item.frame.item

  abbrev long : Bool
  long = is_long b.places item.frame.func item.frame.item

  -- one that leaves x30 and x31 as the expansion has them
  pub prepared_outside : Prepares b n (task s1 t).registers item.frame long this item.here.done → GoesOutside b view arrivals (progress_in b) count state s
  prepared_outside v =
      instruction_outside b view arrivals count state s here t item.current item.frame item.outer item.frames item.free placed item.here.done item.here.pc v.before v.kind v.rest v.expands v.reached
      v.steps v.some v.within (record n.core { registers = v.registers }) (λ offset word e. v.performs offset word) v.quiet
      (λ offset e.
      scratch_passes b n s1 t now item (offset + 4 * v.steps) v.registers v.same
      (inl (record { done = item.here.done + v.steps; within = v.within; pc = omega arith; scratch = v.scratch (offset + 4 * v.steps) })))

  -- it is an instruction of a run that shows nothing
  pub inner_outside : IsStraight b.app item.frame.func this → item.here.done + 1 < length (expansion b.app b.places item.frame.func item.frame.item)
      → GoesOutside b view arrivals (progress_in b) count state s
  inner_outside is more =
      prepared_outside
      (prepares_straight b n (task s1 t).registers item.frame long now.fixed.registers (own_agrees n.core.registers (task s1 t).registers now.fixed.zero item.context.registers)
      this is item.here.done item.here.scratch more)
