-- Which parts of walks are summed: behind which operations none goes on, and where they begin besides a body's first item.
use Rattle.std.specs.Prelude.{ℕ, ◌+◌, ◌-◌, ◌==◌, ◌&&◌, ◌||◌, ◌≡◌, ◌≤◌, ltb, leb, not, Bool, true, false, List, [], ◌∷◌, get_or, bit_and}
use Rattle.sloth_base.specs.declared.app.App.{App}
use Rattle.sloth_base.specs.declared.app.Func.{Func}
use Rattle.sloth_base.specs.declared.app.Op.{Op}
use Rattle.sloth_base.specs.declared.app.Op.TheVariants as op
use Rattle.sloth_base.specs.declared.service.Service.TheVariants as service
use Rattle.sloth_base.specs.Named.{function, item_of, operation}
use Rattle.sloth_base.specs.ServiceCodes.{is_service}
use Rattle.code_rules.specs.Code.{IsItem}
use Rattle.osek_blocking.specs.Walks.{Position, chains_itself}
use Rattle.osek_blocking.specs.Sections.{is_schedule}
use Rattle.walk_sums.specs.Activations.{ReachesItem}
use Rattle.walk_sums.specs.declared.levels.Kind.{Kind}
use Rattle.walk_sums.specs.declared.levels.Kind.TheVariants as kind
use Rattle.walk_sums.specs.Rounds.{is_wait, IsBehindWait}

-- the operation clears some of these events
abbrev pub clears : (events : ℕ) → Op → Bool
clears events (op.Serve call) = is_service call.service service.ClearEvent && not (bit_and call.mask events == 0)
clears events _ = false

-- no part goes on behind the operation
abbrev pub stops : Kind → Op → Bool
stops kind.Turns o = false
stops kind.Rounds o = is_wait o
stops kind.Sections o = is_schedule o
stops (kind.EarlySections line) o = is_schedule o
stops (kind.Uncleared events) o = is_wait o || clears events o

-- item i of function f stands behind a WaitEvent that walks reach
pub record StandsBehindWait (app : App) (f i : ℕ) : Type 0 where
  pub wait : ℕ
  pub next : i ≡ wait + 1
  pub reached : ReachesItem app f wait
  pub item : IsItem app f wait (operation app f wait)
  pub waits : is_wait (operation app f wait) ≡ true

-- at item i of function f parts may begin, where walks reach it
abbrev pub MayBegin : App → Kind → (f i : ℕ) → Type 0
MayBegin app kind.Turns f i = ⊥
MayBegin app kind.Rounds f i = StandsBehindWait app f i
MayBegin app kind.Sections f i = Unit {0}
MayBegin app (kind.EarlySections line) f i = (item_of (function app f) i).line ≤ line
MayBegin app (kind.Uncleared events) f i = StandsBehindWait app f i

-- the same of walks: behind these positions
abbrev pub MayFollow : App → Kind → List Position → Type 0
MayFollow app kind.Turns before = ⊥
MayFollow app kind.Rounds before = IsBehindWait app before
MayFollow app kind.Sections before = Unit {0}
MayFollow app (kind.EarlySections line) before = Unit {0}
MayFollow app (kind.Uncleared events) before = IsBehindWait app before

-- the item at a position is of this source line or a lesser one
abbrev pub IsEarly : App → (line : ℕ) → Position → Type 0
IsEarly app line [] = ⊥
IsEarly app line (here ∷ outer) = (item_of (function app here.func) here.item).line ≤ line

-- with which position parts may begin there
abbrev pub MayOpen : App → Kind → Position → Type 0
MayOpen app kind.Turns at = Unit {0}
MayOpen app kind.Rounds at = Unit {0}
MayOpen app kind.Sections at = Unit {0}
MayOpen app (kind.EarlySections line) at = IsEarly app line at
MayOpen app (kind.Uncleared events) at = Unit {0}

-- the first of these positions is one
abbrev pub MayOpenPart : App → Kind → List Position → Type 0
MayOpenPart app k [] = ⊥
MayOpenPart app k (at ∷ further) = MayOpen app k at

-- ---- how it is computed

-- the item before this one is a WaitEvent that is marked
abbrev pub is_behind_wait : Func → (reached : List Bool) → (i : ℕ) → Bool
is_behind_wait f reached i = ltb 0 i && (get_or reached (i - 1) false && is_wait (item_of f (i - 1)).op)

abbrev pub may_begin : Kind → Func → (reached : List Bool) → (i : ℕ) → Bool
may_begin kind.Turns f reached i = false
may_begin kind.Rounds f reached i = is_behind_wait f reached i
may_begin kind.Sections f reached i = true
may_begin (kind.EarlySections line) f reached i = leb (item_of f i).line line
may_begin (kind.Uncleared events) f reached i = is_behind_wait f reached i

-- parts go on behind item i
abbrev pub is_going : Func → Kind → List Bool → ℕ → Bool
is_going f kind alive i = get_or alive i false && (not (stops kind (item_of f i).op) && not (chains_itself f (item_of f i).op))
