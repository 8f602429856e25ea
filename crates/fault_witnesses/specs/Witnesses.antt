-- What is shown of a fault of task code: its place, a way to it, the calls behind it, the task that lacks what is used.
use Rattle.std.specs.Prelude.{ℕ, ◌+◌, ◌-◌, ◌<◌, ◌≡◌, ◌==◌, ◌&&◌, not, Bool, true, false, List, [], length, Option, Some, None, IfSome, get_or}
use Rattle.sloth_base.specs.declared.config.Config.{Config}
use Rattle.sloth_base.specs.declared.app.App.{App}
use Rattle.sloth_base.specs.declared.app.Func.{Func}
use Rattle.sloth_base.specs.declared.app.Op.{Op}
use Rattle.sloth_base.specs.declared.app.Op.TheVariants as op
use Rattle.sloth_base.specs.declared.refusal.Code.{Code}
use Rattle.sloth_base.specs.declared.refusal.Code.TheVariants as code
use Rattle.sloth_base.specs.declared.refusal.Refusal.{Refusal}
use Rattle.sloth_base.specs.declared.service.Service.{Service}
use Rattle.sloth_base.specs.declared.service.Service.TheVariants as service
use Rattle.sloth_base.specs.ConfigRange.{no_event}
use Rattle.sloth_base.specs.Named.{declaration, function, item_of, label_of, operation, IsBodyOf}
use Rattle.code_rules.specs.Code.{IsPath, held_list_at, is_followed, is_in}
use Rattle.code_rules.specs.WellFormed.{IsUnreached}
use Rattle.call_graph.specs.Rows.{is_pause}
use Rattle.task_verify.specs.Uses.{lacks}
use Rattle.fault_witnesses.specs.CleanWays.{IsShownWay, is_own_second_take}
use Rattle.fault_witnesses.specs.CallChains.{IsChain, chain_end}
use Rattle.fault_witnesses.specs.Places.{IsPlaceOfFault}
use Rattle.fault_witnesses.specs.declared.chains.Calls.{Calls}
use Rattle.fault_witnesses.specs.declared.breaches.Place.{Place}
use Rattle.fault_witnesses.specs.declared.breaches.Place.TheVariants as place
use Rattle.fault_witnesses.specs.declared.users.User.{User}
use Rattle.fault_witnesses.specs.declared.witnesses.Way.{Way}
use Rattle.fault_witnesses.specs.declared.witnesses.Witness.{Witness}

-- ---- the way

-- a way to an item; of a label, to the item in front of it
abbrev pub IsShownWayTo : App → Place → Option Way → Type 0
IsShownWayTo app p None = Unit {0}
IsShownWayTo app (place.Header b) (Some way) = ⊥
IsShownWayTo app (place.Label b k) (Some way) = (0 < (label_of (function app b) k).item) × IsShownWay (function app b) ((label_of (function app b) k).item - 1) (Some way)
IsShownWayTo app (place.Item b i) (Some way) = IsShownWay (function app b) i (Some way)

-- Item i stands behind item j, which is reached and never goes on; and nothing reaches item i.
pub record IsBehind (f : Func) (i j : ℕ) : Type 0 where
  pub next : i ≡ j + 1
  pub between : List ℕ
  pub reached : IsPath f 0 between j
  pub stops : is_followed (item_of f j).op ≡ false
  pub unreached : IsUnreached f i

-- the item in front of one that is not reached, if it is shown
abbrev pub IsShownBehind : App → Place → Option ℕ → Type 0
IsShownBehind app p None = Unit {0}
IsShownBehind app (place.Header b) (Some j) = ⊥
IsShownBehind app (place.Label b k) (Some j) = ⊥
IsShownBehind app (place.Item b i) (Some j) = IsBehind (function app b) i j

-- ---- the calls behind V9 and V10

-- the operation that breaks the rule with these held: it takes one of them, or it waits or calls Schedule
abbrev pub is_culprit : Code → List ℕ → Op → Bool
is_culprit code.V9 held o = is_own_second_take held o
is_culprit code.V10 held o = is_pause o
is_culprit _ held o = false

-- The item calls a function, and the chain leads from there to a body with such an item.
pub record AreCallsBehind (app : App) (c : Code) (b i : ℕ) (calls : Calls) : Type 0 where
  pub callee : ℕ
  pub is_call : operation app b i ≡ op.Invoke callee
  pub chain : IsChain app callee calls.links
  pub known : chain_end callee calls.links < length app.funcs
  pub inside : calls.item < length (function app (chain_end callee calls.links)).items
  pub culprit : is_culprit c (held_list_at (function app b) i) (operation app (chain_end callee calls.links) calls.item) ≡ true

-- such a chain, if it is shown
abbrev pub AreShownCalls : App → Code → Place → Option Calls → Type 0
AreShownCalls app c p None = Unit {0}
AreShownCalls app c (place.Header b) (Some calls) = ⊥
AreShownCalls app c (place.Label b k) (Some calls) = ⊥
AreShownCalls app c (place.Item b i) (Some calls) = AreCallsBehind app c b i calls

-- ---- the task of V12

-- the task lacks what the operation uses; SetEvent and GetEvent name the task themselves
abbrev pub lacks_used : Config → ℕ → Service → (object mask : ℕ) → Bool
lacks_used config t service.GetResource r mask = not (is_in r (declaration config t).resources)
lacks_used config t service.ReleaseResource r mask = not (is_in r (declaration config t).resources)
lacks_used config t service.ClearEvent object mask = lacks config t mask
lacks_used config t service.WaitEvent object mask = lacks config t mask
lacks_used config t service.SetEvent object mask = (t == object) && lacks config t mask
lacks_used config t service.GetEvent object mask = (t == object) && not (declaration config t).extended
lacks_used config t _ object mask = false

-- the same of an operation
abbrev pub is_lacking : Config → ℕ → Op → Bool
is_lacking config t (op.Serve call) = lacks_used config t call.service call.object call.mask
is_lacking config t _ = false

-- the operation names the task whose events it asks for
abbrev pub names_task : Op → Bool
names_task (op.Serve call) = is_of_other call.service
  where
    is_of_other : Service → Bool
    is_of_other service.SetEvent = true
    is_of_other service.GetEvent = true
    is_of_other _ = false
names_task _ = false

-- the chain leads from the task's body to this one; of a task that is named there is none
abbrev pub LeadsFromTask : App → (named : Bool) → (b : ℕ) → User → Type 0
LeadsFromTask app true b user = user.links ≡ []
LeadsFromTask app false b user = IsBodyOf app user.task user.body × IsChain app user.body user.links × (chain_end user.body user.links ≡ b)

-- an event that the task lacks
abbrev pub IsLackedEvent : Config → ℕ → ℕ → Type 0
IsLackedEvent config t e = (e < length config.events) × (lacks config t (get_or config.events e no_event).mask ≡ true)

-- The task lacks what item i of body b uses, and reaches it.
pub record IsUser (config : Config) (app : App) (b i : ℕ) (user : User) : Type 0 where
  pub declared : user.task < length config.tasks
  pub lacking : is_lacking config user.task (operation app b i) ≡ true
  pub leads : LeadsFromTask app (names_task (operation app b i)) b user
  pub event : IfSome user.event (IsLackedEvent config user.task)

-- such a task, if it is shown
abbrev pub IsShownUser : Config → App → Place → Option User → Type 0
IsShownUser config app p None = Unit {0}
IsShownUser config app (place.Header b) (Some user) = ⊥
IsShownUser config app (place.Label b k) (Some user) = ⊥
IsShownUser config app (place.Item b i) (Some user) = IsUser config app b i user

-- ---- all

-- what is shown of a fault of V2 to V12
pub record IsWitness (config : Config) (app : App) (r : Refusal) (w : Witness) : Type 0 where
  pub place : IsPlaceOfFault config app r w.place
  pub way : IsShownWayTo app w.place w.way
  pub behind : IsShownBehind app w.place w.behind
  pub calls : AreShownCalls app r.code w.place w.calls
  pub user : IsShownUser config app w.place w.user
