-- The faults V2 to V12 of a body, in the parts in which they are looked for.
use Rattle.std.specs.Prelude.{ℕ, ◌<◌, ◌≡◌, ◌≢◌, ◌⊎◌, true, List, [], length, Some, Decides}
use Rattle.sloth_base.specs.declared.config.Config.{Config}
use Rattle.sloth_base.specs.declared.app.App.{App}
use Rattle.sloth_base.specs.declared.app.Func.{Func}
use Rattle.sloth_base.specs.declared.app.Op.{Op}
use Rattle.sloth_base.specs.declared.refusal.Code.{Code}
use Rattle.sloth_base.specs.declared.refusal.Code.TheVariants as code
use Rattle.sloth_base.specs.declared.refusal.Refusal.{Refusal}
use Rattle.sloth_base.specs.Named.{item_of, label_of}
use Rattle.code_rules.specs.AppRange.{IsOp}
use Rattle.code_rules.specs.Code.{TaskReaches, held_list_at, held_list_fallen_into, is_fallen_into}
use Rattle.code_rules.specs.WellFormed.{IsAccessPast, IsUneven, IsMaskPast, IsRunOut, IsUnreached, IsOtherListJump, IsWrongRelease, IsSecondTake, IsLeaveWithResource, IsWrongLeave, IsUndeclaredUse, fault_at_line}
use Rattle.call_graph.specs.Bits.{is_member}
use Rattle.task_verify.specs.Labels.{last_label_below, first_label_below}

-- a refusal of this code at this line, where this is so
abbrev pub BodyCase : Type 0 → ℕ → Code → Refusal → Type 0
BodyCase P line c r = P × (r ≡ fault_at_line line c)

-- V2 to V4 of item i
abbrev pub AccessFault : App → Func → ℕ → Refusal → Type 0
AccessFault app f i r =
    let line = (item_of f i).line in
    let o = (item_of f i).op in
    BodyCase (IsAccessPast app f o) line code.V2 r ⊎ (BodyCase (IsUneven o) line code.V3 r ⊎ BodyCase (IsMaskPast app o) line code.V4 r)

-- V5, V11 and V12 of item i of body b
abbrev pub FlowFault : Config → App → (b : ℕ) → Func → (i : ℕ) → Refusal → Type 0
FlowFault config app b f i r =
    let line = (item_of f i).line in
    let o = (item_of f i).op in
    BodyCase (IsRunOut f i) line code.V5 r ⊎ (BodyCase (IsWrongLeave f o) line code.V11 r ⊎ BodyCase (IsUndeclaredUse config app b o) line code.V12 r)

-- V6
abbrev pub PathFault : Func → ℕ → Refusal → Type 0
PathFault f i r = BodyCase (IsUnreached f i) (item_of f i).line code.V6 r

-- V2 to V6, V11 and V12
abbrev pub ItemFault : Config → App → (b : ℕ) → Func → (i : ℕ) → Refusal → Type 0
ItemFault config app b f i r = AccessFault app f i r ⊎ (FlowFault config app b f i r ⊎ PathFault f i r)

-- V2 to V6, V11 and V12 of some item of body b
abbrev pub ItemFaults : Config → App → (b : ℕ) → Func → Refusal → Type 0
ItemFaults config app b f r = (i : ℕ) × (i < length f.items) × ItemFault config app b f i r

-- V7 to V10 of an operation before which this is held
abbrev pub HeldFault : App → Func → List ℕ → ℕ → Op → Refusal → Type 0
HeldFault app f held line o r =
    BodyCase (IsOtherListJump f held o) line code.V7 r
    ⊎ (BodyCase (IsWrongRelease held o) line code.V8 r
    ⊎ (BodyCase (IsSecondTake app held o) line code.V9 r
    ⊎ BodyCase (IsLeaveWithResource app held o) line code.V10 r))

-- V7 to V10 of item i
abbrev pub HeldFaultAt : App → Func → ℕ → Refusal → Type 0
HeldFaultAt app f i r = HeldFault app f (held_list_at f i) (item_of f i).line (item_of f i).op r

-- another label before it stands at the place of label k, the last such with another list
abbrev pub IsBehindOther : Func → ℕ → Type 0
IsBehindOther f k = (j : ℕ) × (last_label_below f.labels (label_of f k).item k ≡ Some j) × ((label_of f k).holds ≢ (label_of f j).holds)

-- it stands before the first item with a list that is not empty
abbrev pub IsStartWithResource : Func → ℕ → Type 0
IsStartWithResource f k = ((label_of f k).item ≡ 0) × ((label_of f k).holds ≢ [])

-- V7 of label k, without the items
abbrev pub LabelFault : Func → ℕ → Refusal → Type 0
LabelFault f k r = BodyCase (IsBehindOther f k ⊎ IsStartWithResource f k) (label_of f k).line code.V7 r

-- V7 of some label, without the items
abbrev pub LabelFaults : Func → Refusal → Type 0
LabelFaults f r = (k : ℕ) × (k < length f.labels) × LabelFault f k r

-- V7 of label k at a place, where the place is fallen into
abbrev pub FallIntoFault : Func → (place k : ℕ) → Refusal → Type 0
FallIntoFault f place k r = BodyCase ((is_fallen_into f place ≡ true) × ((label_of f k).holds ≢ held_list_fallen_into f place)) (label_of f k).line code.V7 r

-- V7 of the first label at a place that is fallen into
abbrev pub FallFault : Func → ℕ → Refusal → Type 0
FallFault f place r = (k : ℕ) × (first_label_below f.labels place (length f.labels) ≡ Some k) × FallIntoFault f place k r

-- V7 to V10 at place i
abbrev pub PlaceFault : App → Func → ℕ → Refusal → Type 0
PlaceFault app f i r = FallFault f i r ⊎ HeldFaultAt app f i r

-- V7 to V10 of the places of a body, also behind the last item
abbrev pub PlacesFault : App → Func → Refusal → Type 0
PlacesFault app f r = ((i : ℕ) × (i < length f.items) × PlaceFault app f i r) ⊎ FallFault f (length f.items) r

-- what is known of the items of a body
abbrev pub AreOps : Config → App → Func → Type 0
AreOps config app f = (i : ℕ) → i < length f.items → IsOp config app f (item_of f i).op

-- the tasks that reach body b
abbrev pub AreUsers : App → (b users : ℕ) → Type 0
AreUsers app b users = (t : ℕ) → Decides (is_member users t) (TaskReaches app t b)
