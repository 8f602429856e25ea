-- Walks of task code: from item to item, into the functions that are called, and back.
use Rattle.std.specs.Prelude.{ℕ, ◌+◌, ◌≡◌, ◌&&◌, Bool, false, List, [], ◌∷◌}
use Rattle.sloth_base.specs.declared.app.App.{App}
use Rattle.sloth_base.specs.declared.app.Func.{Func}
use Rattle.sloth_base.specs.declared.app.Op.{Op}
use Rattle.sloth_base.specs.declared.app.Op.TheVariants as op
use Rattle.sloth_base.specs.declared.service.Service.TheVariants as service
use Rattle.sloth_base.specs.Named.{function, operation, body_of}
use Rattle.sloth_base.specs.Options.{is_number}
use Rattle.sloth_base.specs.ServiceCodes.{is_service}
use Rattle.code_rules.specs.Code.{IsItem, IsPathStep}

-- where a function in progress stands: its number, and the number of an item of it
pub record Place : Type 0 where
  pub func : ℕ
  pub item : ℕ

abbrev pub place : (f i : ℕ) → Place
place f i = record { func = f; item = i }

-- Where each function in progress stands, the innermost first. Each other one stands at its call of the next, and goes on behind it.
abbrev pub Position : Type 0
Position = List Place

-- the first item of a task's body
abbrev pub first_position : App → (t : ℕ) → Position
first_position app t = place (body_of app.funcs t) 0 ∷ []

-- back to behind the call in the innermost of these functions
abbrev pub GoesBack : (outer next : Position) → Type 0
GoesBack [] next = ⊥
GoesBack (caller ∷ outer) next = next ≡ place caller.func (caller.item + 1) ∷ outer

-- a ChainTask of the task whose body the function is, which never goes on (OSEK OS 2.2.3, section 13.2.3.3)
abbrev pub chains_itself : Func → Op → Bool
chains_itself f (op.Serve call) = is_service call.service service.ChainTask && is_number call.object f.task
chains_itself f _ = false

-- to where a path of function f goes on from its item i
abbrev pub GoesOnInside : App → (f i : ℕ) → (outer next : Position) → Type 0
GoesOnInside app f i outer next =
    (j : ℕ) × IsPathStep (function app f) i j × (chains_itself (function app f) (operation app f i) ≡ false) × (next ≡ place f j ∷ outer)

-- where the operation of item i of function f leads: into a call, back by `ret`, else to where a path of the function goes on
abbrev pub LeadsTo : App → Op → (f i : ℕ) → (outer next : Position) → Type 0
LeadsTo app (op.Invoke g) f i outer next = next ≡ place g 0 ∷ place f i ∷ outer
LeadsTo app op.Return f i outer next = GoesBack outer next
LeadsTo app _ f i outer next = GoesOnInside app f i outer next

-- a walk goes on from one position to the next
abbrev pub IsPositionStep : App → (from next : Position) → Type 0
IsPositionStep app [] next = ⊥
IsPositionStep app (here ∷ outer) next = (o : Op) × IsItem app here.func here.item o × LeadsTo app o here.func here.item outer next

-- it goes on to the first of these, where there is one
abbrev pub IsPositionStepTo : App → (from : Position) → List Position → Type 0
IsPositionStepTo app from [] = Unit {0}
IsPositionStepTo app from (next ∷ further) = IsPositionStep app from next

-- each of these positions leads to the next
abbrev pub AreConsecutive : App → List Position → Type 0
AreConsecutive app [] = Unit {0}
AreConsecutive app (from ∷ further) = IsPositionStepTo app from further × AreConsecutive app further

-- a walk of task t, from the first item of its body on
abbrev pub IsWalk : App → (t : ℕ) → List Position → Type 0
IsWalk app t [] = Unit {0}
IsWalk app t (from ∷ further) = (from ≡ first_position app t) × AreConsecutive app (from ∷ further)
