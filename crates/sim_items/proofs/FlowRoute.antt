-- A jump or a branch in a run.
use Rattle.std.proofs.Common.{◌≡◌, ℕ, ◌+◌, ◌<◌, ◌≤◌, List, [], length, arith, ⊎_elim, Bool}
use Rattle.std.specs.Prelude.{slice_index}
use Rattle.std.proofs.lemmas.Bool.{cases_lt}
use Rattle.sloth_base.specs.Machine.{State}
use Rattle.sloth_base.specs.Named.{operation}
use Rattle.sloth_base.specs.declared.app.Op.{Op}
use Rattle.sloth_base.specs.declared.service.Arrival.{Arrival}
use Rattle.code_rules.specs.AppRange.{IsRegister}
use Rattle.sloth_base.specs.MemoryMap.{memory_base}
use Rattle.rv32_instr.specs.Encode.{Encode}
use Rattle.rv32_expand.specs.Expansion.{item_address, is_long, expansion}
use Rattle.observe.specs.Observe.{View}
use Rattle.osek_scheduler.specs.State.{Frame, System, task}
use Rattle.osek_scheduler.specs.Meaning.{register}
use Rattle.sim_relation.specs.Build.{Build}
use Rattle.sim_relation.specs.Stands.{Stands}
use Rattle.sim_items.specs.Place.{AtItem, FunctionStands, IsFlow}
use Rattle.sim_items.specs.Outside.{StandsAt, GoesOutside}
use Rattle.sim_items.specs.Progress.{progress_in}
use Rattle.sim_items.proofs.InRam as code
use Rattle.sim_items.proofs.Inner.{prepared_outside}
use Rattle.sim_items.proofs.Passing.{last_passed}
use Rattle.sim_items.proofs.Registers.{own_agrees}
use Rattle.sim_items.proofs.Turning.{turns}
use Rattle.sim_items.proofs.Outside as outside
use Rattle.sim_items.proofs.Flow.{flow_mark, no_result, Turns, last_of, inner_of}

module _ (b : Build) (view : View) (arrivals : List Arrival) (count : ℕ) (state : State) (s : System) (here : StandsAt b view arrivals count state s)
    (t : ℕ) (item : AtItem b (outside.n b view arrivals (progress_in b) count state s here) (outside.s1 b view arrivals (progress_in b) count state s here) t)
    (is : IsFlow b.app item.frame.func item.frame.item (operation b.app item.frame.func item.frame.item)) (stand : FunctionStands b view item.frame.func) where
  abbrev n : State
  n = outside.n b view arrivals (progress_in b) count state s here

  abbrev s1 : System
  s1 = outside.s1 b view arrivals (progress_in b) count state s here

  now : Stands b n s1
  now = outside.now b view arrivals (progress_in b) count state s here

  abbrev frame : Frame
  frame = item.frame

  abbrev this : Op
  this = operation b.app frame.func frame.item

  abbrev long : Bool
  long = is_long b.places frame.func frame.item

  abbrev own : List ℕ
  own = (task s1 t).registers

  agree : (r : ℕ) → IsRegister r → slice_index n.core.registers r ≡ register own r
  agree = own_agrees n.core.registers own now.fixed.zero item.context.registers

  abbrev size : ℕ
  size = length (expansion b.app b.places frame.func frame.item)

  turned : item.here.done + 1 ≡ size → Turns b n own s1.symbols frame item.outer long this item.here.done → GoesOutside b view arrivals (progress_in b) count state s
  turned last v =
      let placed = stand frame.item item.inside in
      let offset = code.offset b view n s1 here.fits now frame.func frame.item placed item.here.done item.here.pc v.before v.kind [] v.expands v.reached in
      let offset_is = code.offset_is b view n s1 here.fits now frame.func frame.item placed item.here.done item.here.pc v.before v.kind [] v.expands v.reached in
      let inside = code.offset_inside b view n s1 here.fits now frame.func frame.item placed item.here.done item.here.pc v.before v.kind [] v.expands v.reached in
      let new : Frame = record frame { item = v.item } in
      let next : State = record { pc = item_address b.places new.func new.item; core = n.core } in
      outside.committed_outside b view arrivals (progress_in b) count state s here t item.current frame.func frame.item
      (turns b n s1 t here.fits now item.current (outside.top_here b view arrivals (progress_in b) count state s here t item.current) item.free frame item.outer item.frames item.inside
      item.place item.context new item.outer v.exists item.stood v.means (no_result b.app frame.func frame.item this is)
      (code.stepped b view n s1 here.fits now frame.func frame.item placed item.here.done item.here.pc v.before v.kind [] v.expands v.reached next (v.performs offset (Encode v.kind) offset_is inside))
      (code.untouched b view n s1 here.fits now frame.func frame.item placed item.here.done item.here.pc v.before v.kind [] v.expands v.reached (v.quiet (memory_base + offset))))
      placed (outside.last_at b view arrivals (progress_in b) count state s here frame.func frame.item item.here.done item.here.pc last)
      (λ address. flow_mark b.app frame.func frame.item address this is)
      (last_passed b view arrivals count state s here t item.current item.frame item.outer item.frames item.free item.here.done item.here.pc item.here.within item.inside)

  pub flow_outside : GoesOutside b view arrivals (progress_in b) count state s
  flow_outside =
      let placed = stand frame.item item.inside in
      ⊎_elim
      (λ (l : item.here.done + 1 < size).
      prepared_outside b view arrivals count state s here t item placed
      (inner_of b view here.fits n own s1.symbols frame item.outer now.fixed.registers agree item.inside stand long this is item.here.done item.here.scratch l))
      (λ (l : size ≤ item.here.done + 1).
      let w = item.here.within in
      turned (omega arith)
      (last_of b view here.fits n own s1.symbols frame item.outer now.fixed.registers agree item.inside stand long this is item.here.done item.here.scratch placed.adjacent (omega arith)))
      (cases_lt (item.here.done + 1) size)
