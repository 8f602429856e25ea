-- Well-formed task code: the faults V1 to V12, and when a configuration and its task code have none.
use Rattle.std.specs.Prelude.{ℕ, ◌+◌, ◌<◌, ◌≤◌, ◌≡◌, ◌≢◌, ◌⊎◌, ◌%◌, List, [], true, false, length, Some, None, bit_and}
use Rattle.sloth_base.specs.declared.config.Config.{Config}
use Rattle.sloth_base.specs.declared.config.TaskDecl.{TaskDecl}
use Rattle.sloth_base.specs.declared.app.App.{App}
use Rattle.sloth_base.specs.declared.app.Func.{Func}
use Rattle.sloth_base.specs.declared.app.Op.{Op}
use Rattle.sloth_base.specs.declared.app.Op.TheVariants as op
use Rattle.sloth_base.specs.declared.refusal.Code.{Code}
use Rattle.sloth_base.specs.declared.refusal.Code.TheVariants as code
use Rattle.sloth_base.specs.declared.refusal.Part.TheVariants as part
use Rattle.sloth_base.specs.declared.refusal.Refusal.{Refusal}
use Rattle.sloth_base.specs.declared.service.Service.{Service}
use Rattle.sloth_base.specs.declared.service.Service.TheVariants as service
use Rattle.sloth_base.specs.Order.{NoFault}
use Rattle.sloth_base.specs.Named.{declaration, function, item_of, operation, label_of, symbol_size}
use Rattle.code_rules.specs.AppRange.{AppInRange}
use Rattle.code_rules.specs.Code.{IsCallChain, TaskReaches, IsPausing, IsEnding, ReachesTaking, ReachesPause, way, IsPathStep, IsPath, is_in, is_last, held_list_at, is_entered, held_list_entering}
use Rattle.sloth_base.specs.Arithmetic.{size_of}
use Rattle.sloth_base.specs.ConfigRange.{scheduler_number}
use Rattle.sloth_base.specs.Limits.{mask_limit}

-- ---- what an operation does against a rule

-- V2: an access past the frame, or a direct access past its symbol
abbrev pub IsAccessPast : App → Func → Op → Type 0
IsAccessPast app f (op.FrameLoad rd word) = f.frame_words ≤ word
IsAccessPast app f (op.FrameStore rs word) = f.frame_words ≤ word
IsAccessPast app f (op.Load w rd y offset) = symbol_size app y < offset + size_of w
IsAccessPast app f (op.Store w rs y offset) = symbol_size app y < offset + size_of w
IsAccessPast app f _ = ⊥

-- V3: a direct offset or a mask that is no multiple of the access size
abbrev pub IsUneven : Op → Type 0
IsUneven (op.Load w rd y offset) = offset % size_of w ≢ 0
IsUneven (op.Store w rs y offset) = offset % size_of w ≢ 0
IsUneven (op.LoadAt w rd y index mask) = mask % size_of w ≢ 0
IsUneven (op.StoreAt w rs y index mask) = mask % size_of w ≢ 0
IsUneven _ = ⊥

-- V4: a mask above the limit, or mask plus access size above the symbol's size
abbrev pub IsMaskPast : App → Op → Type 0
IsMaskPast app (op.LoadAt w rd y index mask) = (mask_limit < mask) ⊎ (symbol_size app y < mask + size_of w)
IsMaskPast app (op.StoreAt w rs y index mask) = (mask_limit < mask) ⊎ (symbol_size app y < mask + size_of w)
IsMaskPast app _ = ⊥

-- V5: an item that can go on past the last item
abbrev pub IsRunOut : Func → ℕ → Type 0
IsRunOut f i = (j : ℕ) × IsPathStep f i j × (length f.items ≤ j)

-- V6: an item that no path from the body's first item reaches
abbrev pub IsUnreached : Func → ℕ → Type 0
IsUnreached f i = (between : List ℕ) → ¬ (IsPath f 0 between i)

-- V7: a jump or branch to a label whose list is not the held one
abbrev pub IsOtherListJump : Func → List ℕ → Op → Type 0
IsOtherListJump f held o = (k : ℕ) × (way o ≡ Some k) × ((label_of f k).holds ≢ held)

-- V8: a release of a resource that is not the last of the held list
abbrev pub IsWrongRelease : List ℕ → Op → Type 0
IsWrongRelease held (op.Serve call) = (call.service ≡ service.ReleaseResource) × (is_last call.object held ≡ false)
IsWrongRelease held _ = ⊥

-- V9: taking a resource of the held list; a call of a function that reaches taking one
abbrev pub IsSecondTake : App → List ℕ → Op → Type 0
IsSecondTake app held (op.Serve call) = (call.service ≡ service.GetResource) × (is_in call.object held ≡ true)
IsSecondTake app held (op.Invoke g) = (r : ℕ) × ReachesTaking app g r × (is_in r held ≡ true)
IsSecondTake app held _ = ⊥

-- V10: TerminateTask, ChainTask, WaitEvent, Schedule or `ret` with a held list that is not empty;
-- a call, with such a list, of a function that reaches WaitEvent or Schedule
abbrev pub IsLeaveWithResource : App → List ℕ → Op → Type 0
IsLeaveWithResource app held (op.Serve call) = (IsEnding call.service ⊎ IsPausing call.service) × (held ≢ [])
IsLeaveWithResource app held op.Return = held ≢ []
IsLeaveWithResource app held (op.Invoke g) = ReachesPause app g × (held ≢ [])
IsLeaveWithResource app held _ = ⊥

-- V11: TerminateTask or ChainTask in the body of a function, `ret` in that of a task
abbrev pub IsWrongLeave : Func → Op → Type 0
IsWrongLeave f (op.Serve call) = IsEnding call.service × (f.task ≡ None)
IsWrongLeave f op.Return = (t : ℕ) × (f.task ≡ Some t)
IsWrongLeave f _ = ⊥

-- a task lists a resource
abbrev pub HasResource : TaskDecl → ℕ → Type 0
HasResource task r = is_in r task.resources ≡ true

-- the task has these events
abbrev pub HasEvents : TaskDecl → ℕ → Type 0
HasEvents task mask = bit_and mask task.events ≡ mask

-- some task that reaches function f does not list resource r, which is not RES_SCHEDULER
abbrev pub IsUnlisted : Config → App → ℕ → ℕ → Type 0
IsUnlisted config app f r = (r ≢ scheduler_number) × ((t : ℕ) × TaskReaches app t f × ¬ (HasResource (declaration config t) r))

-- some task that reaches function f lacks one of these events
abbrev pub IsLacked : Config → App → ℕ → ℕ → Type 0
IsLacked config app f mask = (t : ℕ) × TaskReaches app t f × ¬ (HasEvents (declaration config t) mask)

-- a function uses a service with what its tasks do not have
abbrev pub IsMisuse : Config → App → ℕ → Service → (object mask : ℕ) → Type 0
IsMisuse config app f service.GetResource r mask = IsUnlisted config app f r
IsMisuse config app f service.ReleaseResource r mask = IsUnlisted config app f r
IsMisuse config app f service.ClearEvent object mask = IsLacked config app f mask
IsMisuse config app f service.WaitEvent object mask = IsLacked config app f mask
IsMisuse config app f service.SetEvent t mask = ¬ (HasEvents (declaration config t) mask)
IsMisuse config app f service.GetEvent t mask = (declaration config t).extended ≡ false
IsMisuse config app f _ object mask = ⊥

-- V12: GetResource or ReleaseResource of a resource, RES_SCHEDULER excepted, that some task which reaches the item does not list;
-- ClearEvent or WaitEvent of an event that such a task lacks; SetEvent of one that the named task lacks; GetEvent of a basic task
abbrev pub IsUndeclaredUse : Config → App → ℕ → Op → Type 0
IsUndeclaredUse config app f (op.Serve call) = IsMisuse config app f call.service call.object call.mask
IsUndeclaredUse config app f _ = ⊥

-- ---- faults

-- the resources that are held before an item
abbrev pub held_list_before : App → ℕ → ℕ → List ℕ
held_list_before app f i = held_list_at (function app f) i

-- the rules that item i of body f breaks
pub data IsBreach (config : Config) (app : App) (f i : ℕ) : Code → Type 0 where
  is_access_past : IsAccessPast app (function app f) (operation app f i) → IsBreach config app f i code.V2
  is_uneven : IsUneven (operation app f i) → IsBreach config app f i code.V3
  is_mask_past : IsMaskPast app (operation app f i) → IsBreach config app f i code.V4
  is_run_out : IsRunOut (function app f) i → IsBreach config app f i code.V5
  is_unreached : IsUnreached (function app f) i → IsBreach config app f i code.V6
  is_other_list_jump : IsOtherListJump (function app f) (held_list_before app f i) (operation app f i) → IsBreach config app f i code.V7
  is_wrong_release : IsWrongRelease (held_list_before app f i) (operation app f i) → IsBreach config app f i code.V8
  is_second_take : IsSecondTake app (held_list_before app f i) (operation app f i) → IsBreach config app f i code.V9
  is_leave_with_resource : IsLeaveWithResource app (held_list_before app f i) (operation app f i) → IsBreach config app f i code.V10
  is_wrong_leave : IsWrongLeave (function app f) (operation app f i) → IsBreach config app f i code.V11
  is_undeclared_use : IsUndeclaredUse config app f (operation app f i) → IsBreach config app f i code.V12

-- V7 at label k: it is fallen into with another list, or it stands before the first item with a list that is not empty
pub data HasOtherList (f : Func) (k : ℕ) : Type 0 where
  falling_in : is_entered f k ≡ true → (label_of f k).holds ≢ held_list_entering f k → HasOtherList f k
  at_begin : (label_of f k).item ≡ 0 → (label_of f k).holds ≢ [] → HasOtherList f k

-- a fault of the task source on a line
abbrev pub fault_at_line : ℕ → Code → Refusal
fault_at_line line c = record { part = part.Src; line = line; code = c }

-- V2 to V12 of body f
pub data BodyFault (config : Config) (app : App) (f : ℕ) : Refusal → Type 0 where
  at_header : length (function app f).items ≡ 0 → BodyFault config app f (fault_at_line (function app f).line code.V5)
  at_label : (k : ℕ) → k < length (function app f).labels → HasOtherList (function app f) k
      → BodyFault config app f (fault_at_line (label_of (function app f) k).line code.V7)
  at_item : (i : ℕ) (c : Code) → i < length (function app f).items → IsBreach config app f i c
      → BodyFault config app f (fault_at_line (item_of (function app f) i).line c)

-- V2 to V12
abbrev pub RuleFault : Config → App → Refusal → Type 0
RuleFault config app r = (f : ℕ) × (f < length app.funcs) × BodyFault config app f r

-- V1: functions that lie on a cycle of calls, each at its header
pub data CycleFault (app : App) : Refusal → Type 0 where
  on_cycle : (f : ℕ) (between : List ℕ) → IsCallChain app f between f → CycleFault app (fault_at_line (function app f).line code.V1)

-- task code that keeps every rule
pub record WellFormed (config : Config) (app : App) : Type 0 where
  pub in_range : AppInRange config app
  pub no_cycle : NoFault (CycleFault app)
  pub no_fault : NoFault (RuleFault config app)
