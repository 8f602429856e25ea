-- Users and calls that are shown.
use Rattle.std.proofs.Common.{◌≡◌, ℕ, ◌<◌, true, false, length, sym, subst}
use Rattle.std.specs.Prelude.{IfSome, Bool, List, [], Option, Some, None}
use Rattle.sloth_base.specs.declared.config.Config.{Config}
use Rattle.sloth_base.specs.declared.app.App.{App}
use Rattle.sloth_base.specs.declared.app.Op.TheVariants as op
use Rattle.sloth_base.specs.declared.refusal.Code.{Code}
use Rattle.sloth_base.specs.Named.{function, operation, IsBodyOf}
use Rattle.code_rules.specs.Code.{held_list_at}
use Rattle.fault_witnesses.specs.CallChains.{IsChain, chain_end}
use Rattle.fault_witnesses.specs.CleanWays.{IsShownWay}
use Rattle.fault_witnesses.specs.Witnesses.{is_lacking, names_task, LeadsFromTask, IsLackedEvent, IsUser, AreCallsBehind, is_culprit, IsShownWayTo, IsBehind, IsShownBehind}
use Rattle.fault_witnesses.specs.declared.chains.Calls.{Calls}
use Rattle.fault_witnesses.specs.declared.breaches.Place.TheVariants as place
use Rattle.fault_witnesses.specs.declared.users.User.{User}
use Rattle.fault_witnesses.specs.declared.witnesses.Way.{Way}

-- a task that lacks what an item uses, which does not name it
pub user_is : (config : Config) (app : App) (b i : ℕ) (user : User) → user.task < length config.tasks → is_lacking config user.task (operation app b i) ≡ true
    → names_task (operation app b i) ≡ false → IsBodyOf app user.task user.body → IsChain app user.body user.links → chain_end user.body user.links ≡ b
    → IfSome user.event (IsLackedEvent config user.task) → IsUser config app b i user
user_is config app b i user declared lacking unnamed begins chain ends event = record {
  declared = declared;
  lacking = lacking;
  leads = subst (λ (named : Bool). LeadsFromTask app named b user) (sym unnamed) (begins, chain, ends);
  event = event;
}

-- a task that lacks what an item uses, which names it
pub named_user_is : (config : Config) (app : App) (b i : ℕ) (user : User) → user.task < length config.tasks → is_lacking config user.task (operation app b i) ≡ true
    → names_task (operation app b i) ≡ true → user.links ≡ [] → IfSome user.event (IsLackedEvent config user.task) → IsUser config app b i user
named_user_is config app b i user declared lacking named none event = record {
  declared = declared;
  lacking = lacking;
  leads = subst (λ (n : Bool). LeadsFromTask app n b user) (sym named) none;
  event = event;
}

-- a way to an item
pub way_is : (app : App) (b i : ℕ) (way : Option Way) → IsShownWay (function app b) i way → IsShownWayTo app (place.Item b i) way
way_is app b i None shown = tt
way_is app b i (Some way) shown = shown

-- the item in front of one
pub front_is : (app : App) (b i : ℕ) (front : Option ℕ) → IfSome front (IsBehind (function app b) i) → IsShownBehind app (place.Item b i) front
front_is app b i None shown = tt
front_is app b i (Some j) shown = shown

-- calls from the function that an item calls to what breaks the rule
pub calls_are : (app : App) (c : Code) (b i : ℕ) (calls : Calls) (callee : ℕ) (held : List ℕ) → held ≡ held_list_at (function app b) i → operation app b i ≡ op.Invoke callee
    → IsChain app callee calls.links → chain_end callee calls.links < length app.funcs → calls.item < length (function app (chain_end callee calls.links)).items
    → is_culprit c held (operation app (chain_end callee calls.links) calls.item) ≡ true → AreCallsBehind app c b i calls
calls_are app c b i calls callee held same call chain known inside culprit = record {
  callee = callee;
  is_call = call;
  chain = chain;
  known = known;
  inside = inside;
  culprit = subst (λ (h : List ℕ). is_culprit c h (operation app (chain_end callee calls.links) calls.item) ≡ true) same culprit;
}
