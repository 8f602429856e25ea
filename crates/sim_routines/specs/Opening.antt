-- Where a task's service begins.
use Rattle.std.specs.Prelude.{ℕ, ◌+◌, ◌*◌, ◌<◌, ◌≡◌, false, List, ◌∷◌, length, Some, None}
use Rattle.sloth_base.specs.declared.image.Mark.{Mark}
use Rattle.sloth_base.specs.declared.image.MarkKind.TheVariants as kind
use Rattle.sloth_base.specs.declared.service.Service.{Service}
use Rattle.sloth_base.specs.Choose.{choose}
use Rattle.sloth_base.specs.Machine.{State}
use Rattle.sloth_region.specs.Layout.{cur}
use Rattle.rv32_instr.specs.declared.InstrKind.{InstrKind}
use Rattle.rv32_instr.specs.Ram.{word_at}
use Rattle.rv32_expand.specs.Expansion.{item_address, block_address, expansion}
use Rattle.observe.specs.Observe.{View, mark_at}
use Rattle.sloth_base.specs.ServiceCodes.{service_of}
use Rattle.osek_scheduler.specs.State.{Frame, Task, System, task}
use Rattle.sloth_base.specs.Named.{function}
use Rattle.sloth_base.specs.MemoryMap.{memory_base}
use Rattle.code_rules.specs.Code.{is_in}
use Rattle.sim_relation.specs.Bounds.{AreBelow}
use Rattle.sim_relation.specs.Build.{Build}
use Rattle.sim_relation.specs.Placed.{IsPlaced}
use Rattle.sim_relation.specs.Position.{thread_of, AtBlock}

-- the running task, whose record is `own`, stands at the opening mark of the block of its next item, a call of the service
pub record AtOpening (b : Build) (state : State) (t : ℕ) (own : Task) (served : Service) : Type 0 where
  pub current : word_at state.core.ram cur ≡ t + 1
  pub free : own.owed ≡ false
  pub frame : Frame
  pub outer : List Frame
  pub frames : own.frames ≡ frame ∷ outer
  pub inside : frame.item < length (function b.app frame.func).items
  pub block : AtBlock b frame (thread_of state)
  pub calls : block.call.service ≡ served

-- the block of a service with its object stands in the image, with its mark, and its code is as a contract of the generator says
pub record StandsAtBlock (b : Build) (view : View) (served : Service) (object : ℕ) (Contract : List InstrKind → Type 0) : Type 0 where
  pub code : List InstrKind
  pub serves : Contract code
  pub offset : ℕ
  pub is : block_address b.places served object ≡ memory_base + offset
  pub placed : IsPlaced b offset code
  pub mark : Mark
  pub marked : mark_at view (memory_base + offset) ≡ Some mark
  pub opens : mark.kind ≡ kind.Opening
  pub calls : service_of mark.a ≡ Some served

-- What holds at a service's opening mark, with the arrivals of the count: no line is taken, and the service's block stands in the
-- image. The contract is that of the block for an object.
pub record OpensService (b : Build) (view : View) (state : State) (s : System) (t : ℕ) (served : Service)
    (Contract : ℕ → List InstrKind → Type 0) : Type 0 where
  pub none : choose state.core ≡ None
  pub opening : AtOpening b state t (task s t) served
  pub block : StandsAtBlock b view served opening.block.call.object (Contract opening.block.call.object)
  pub not_fresh : is_in t s.fresh ≡ false
  pub bytes : AreBelow 256 state.core.ram

-- the item behind this one of its function stands right behind it
pub record IsFollowed (b : Build) (func item : ℕ) : Type 0 where
  pub more : item + 1 < length (function b.app func).items
  pub adjacent : item_address b.places func (item + 1) ≡ item_address b.places func item + 4 * length (expansion b.app b.places func item)
