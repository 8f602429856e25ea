-- What keeps the tasks apart that use a symbol.
use Rattle.std.specs.Prelude.{ℕ, ◌<◌, ◌≤◌, ◌≡◌, ◌≢◌, ◌==◌, ◌||◌, not, ltb, cond, List, [], ◌∷◌, Bool, true, false, Decides, length, get_or, Option, Some, None}
use Rattle.sloth_base.specs.declared.config.Config.{Config}
use Rattle.sloth_base.specs.declared.app.App.{App}
use Rattle.sloth_base.specs.Limits.{ceiling_count}
use Rattle.sloth_base.specs.Named.{declaration, function, item_of}
use Rattle.code_rules.specs.Code.{is_in}
use Rattle.osek_scheduler.specs.Priority.{ceiling}
use Rattle.osek_scheduler.specs.Apart.{static_priority}
use Rattle.call_graph.specs.Bits.{is_member}
use Rattle.osek_blocking.specs.Walks.{Place, Position}
use Rattle.osek_blocking.specs.Sections.{held_list_along, priority_at}
use Rattle.shares_text.specs.declared.keepers.Keeper.{Keeper}
use Rattle.shares_text.specs.declared.open_pairs.OpenPair.{OpenPair}
use Rattle.shares_text.specs.declared.verdict.Verdict.{Verdict}
use Rattle.shares_text.specs.declared.verdict.Verdict.TheVariants as verdict
use Rattle.shares_text.specs.Accesses.{IsUse, Uses, stores_at, IsAlwaysHeld}

-- ---- who uses a symbol

-- no task does
abbrev pub IsUnused : App → (y : ℕ) → Type 0
IsUnused app y = (t : ℕ) → ¬ (Uses app y t)

-- task t alone does
abbrev pub IsUsedByOne : App → (y t : ℕ) → Type 0
IsUsedByOne app y t = Uses app y t × ((u : ℕ) → Uses app y u → u ≡ t)

-- two tasks do
pub record IsShared (app : App) (y : ℕ) : Type 0 where
  pub one : ℕ
  pub other : ℕ
  pub differ : one ≢ other
  pub first : Uses app y one
  pub second : Uses app y other

-- no use is a store
abbrev pub IsOnlyRead : App → (y : ℕ) → Type 0
IsOnlyRead app y = (t : ℕ) (here : Place) (outer : Position) → IsUse app y t here outer → stores_at app here ≡ false

-- some use is one
pub record IsWritten (app : App) (y : ℕ) : Type 0 where
  pub task : ℕ
  pub here : Place
  pub outer : Position
  pub is : IsUse app y task here outer
  pub stores : stores_at app here ≡ true

-- of the tasks of the configuration the set has exactly those that use it
abbrev pub AreUsers : Config → App → (y members : ℕ) → Type 0
AreUsers config app y members = (t : ℕ) → t < length config.tasks → Decides (is_member members t) (Uses app y t)

-- ---- guards

-- resource r is held at each use, whichever way of calls led there
abbrev pub IsGuard : App → (y r : ℕ) → Type 0
IsGuard app y r = (t : ℕ) (here : Place) (outer : Position) → IsUse app y t here outer → is_in r (held_list_along app (here ∷ outer)) ≡ true

-- some resource is
abbrev pub HasGuard : App → (y : ℕ) → Type 0
HasGuard app y = (r : ℕ) × (r < ceiling_count) × IsGuard app y r

-- the set has exactly these resources
abbrev pub AreGuards : App → (y members : ℕ) → Type 0
AreGuards app y members = (r : ℕ) → r < ceiling_count → Decides (is_member members r) (IsGuard app y r)

-- ---- open pairs

-- the line of the item at a place
abbrev pub line_at : App → Place → ℕ
line_at app here = (item_of (function app here.func) here.item).line

-- Uses of two tasks, one of them a store; on some way of calls the current priority of the lower task is below the priority of the higher one, which may
-- then be entered right behind the use.
pub record IsOpenPair (config : Config) (app : App) (y : ℕ) (p : OpenPair) : Type 0 where
  pub low_place : Place
  pub low_outer : Position
  pub low : IsUse app y p.low low_place low_outer
  pub low_line : p.low_line ≡ line_at app low_place
  pub high_place : Place
  pub high_outer : Position
  pub high : IsUse app y p.high high_place high_outer
  pub high_line : p.high_line ≡ line_at app high_place
  pub stores : (stores_at app low_place || stores_at app high_place) ≡ true
  pub lets_in : priority_at config app p.low (low_place ∷ low_outer) < static_priority config p.high

-- nothing is open
abbrev pub NoOpenPair : Config → App → (y : ℕ) → Type 0
NoOpenPair config app y = (p : OpenPair) → ¬ (IsOpenPair config app y p)

-- by the lines, then by the numbers of the tasks, a pair stands before the other
abbrev pub is_before : OpenPair → OpenPair → Bool
is_before p q =
    cond (not (p.low_line == q.low_line)) (ltb p.low_line q.low_line)
    (cond (not (p.high_line == q.high_line)) (ltb p.high_line q.high_line)
    (cond (not (p.low == q.low)) (ltb p.low q.low) (ltb p.high q.high)))

-- the first open pair
pub record IsFirstOpenPair (config : Config) (app : App) (y : ℕ) (p : OpenPair) : Type 0 where
  pub is : IsOpenPair config app y p
  pub first : (q : OpenPair) → IsOpenPair config app y q → is_before q p ≡ false

-- ---- order

-- task t holds the resource at some use, whichever way of calls led there, and its ceiling reaches the priority
abbrev pub KeepsOut : Config → App → (y t priority r : ℕ) → Type 0
KeepsOut config app y t priority r =
    (here : Place) × (outer : Position) × IsUse app y t here outer × IsAlwaysHeld app t here r × (priority ≤ ceiling config r)

-- what keeps the next higher user out, whose priority is this; the highest user has none above it
abbrev pub IsKeeper : Config → App → (y : ℕ) → Option ℕ → Keeper → Type 0
IsKeeper config app y None k = (k.non ≡ false) × (k.held ≡ 0)
IsKeeper config app y (Some priority) k =
    (static_priority config k.task < priority) × (k.non ≡ (declaration config k.task).non)
    × ((r : ℕ) → r < ceiling_count → Decides (is_member k.held r) ((k.non ≡ false) × KeepsOut config app y k.task priority r))

-- users from the highest priority down, below a user of this priority, if there is one
abbrev pub AreKeepersBelow : Config → App → (y : ℕ) → Option ℕ → List Keeper → Type 0
AreKeepersBelow config app y above [] = Unit {0}
AreKeepersBelow config app y above (k ∷ rest) =
    Uses app y k.task × IsKeeper config app y above k × AreKeepersBelow config app y (Some (static_priority config k.task)) rest

-- what stands in the place of a user that is not there
abbrev pub no_keeper : Keeper
no_keeper = record { task = 0; non = false; held = 0 }

-- all users from the highest priority down, each with what keeps those above it out
pub record AreKeepers (config : Config) (app : App) (y : ℕ) (list : List Keeper) : Type 0 where
  pub below : AreKeepersBelow config app y None list
  pub all : (t : ℕ) → Uses app y t → (k : ℕ) × (k < length list) × ((get_or list k no_keeper).task ≡ t)

-- ---- verdicts

-- what keeps the users of symbol y apart: the first row that fits
abbrev pub IsVerdict : Config → App → (y : ℕ) → Verdict → Type 0
IsVerdict config app y verdict.Unused = IsUnused app y
IsVerdict config app y (verdict.One t) = IsUsedByOne app y t
IsVerdict config app y (verdict.Reads members) = IsShared app y × IsOnlyRead app y × AreUsers config app y members
IsVerdict config app y (verdict.Guarded members) = IsShared app y × IsWritten app y × HasGuard app y × AreGuards app y members
IsVerdict config app y (verdict.Open p) = IsShared app y × IsWritten app y × ¬ (HasGuard app y) × IsFirstOpenPair config app y p
IsVerdict config app y (verdict.Ordered list) = IsShared app y × IsWritten app y × ¬ (HasGuard app y) × NoOpenPair config app y × AreKeepers config app y list

-- those of all symbols
pub record AreVerdicts (config : Config) (app : App) (verdicts : List Verdict) : Type 0 where
  pub count : length verdicts ≡ length app.symbols
  pub each : (y : ℕ) → y < length app.symbols → IsVerdict config app y (get_or verdicts y verdict.Unused)
