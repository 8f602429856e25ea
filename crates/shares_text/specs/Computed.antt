-- How verdicts are found: the list of the uses of a symbol, and what is read off it.
use Rattle.std.specs.Prelude.{ℕ, ◌+◌, ◌<◌, ◌≤◌, ◌≡◌, ◌==◌, ◌&&◌, not, ltb, leb, min, cond, List, [], ◌∷◌, ◌++◌, Bool, true, false, length, get_or, Option, Some, None}
use Rattle.std.specs.List.{list_any}
use Rattle.sloth_base.specs.declared.config.TaskDecl.{TaskDecl}
use Rattle.sloth_base.specs.Named.{undeclared_task}
use Rattle.call_graph.specs.Bits.{is_member}
use Rattle.shares_text.specs.declared.contexts.Context.{Context}
use Rattle.shares_text.specs.declared.contexts.Contexts.{Contexts}
use Rattle.shares_text.specs.declared.keepers.Keeper.{Keeper}
use Rattle.shares_text.specs.declared.open_pairs.Firsts.{Firsts}
use Rattle.shares_text.specs.declared.open_pairs.OpenPair.{OpenPair}
use Rattle.shares_text.specs.declared.sites.Access.{Access}
use Rattle.shares_text.specs.declared.contexts.Use.{Use}
use Rattle.shares_text.specs.Contexts.{no_context, through}
use Rattle.shares_text.specs.Verdicts.{is_before}

-- ---- uses

-- the use of an access in a context
abbrev pub use_of : Access → (task : ℕ) → Context → Use
use_of a t c = record {
  task = t;
  func = a.func;
  item = a.item;
  line = a.line;
  stores = a.stores;
  held = (through c a.held).held;
  least = (through c a.held).least;
}

-- the same, where calls lead there
abbrev pub use_in : Access → (task : ℕ) → Context → List Use
use_in a t c = cond c.reached (use_of a t c ∷ []) []

-- the uses of an access by tasks from t on
abbrev pub uses_by : Access → (t : ℕ) → List Contexts → List Use
uses_by a t [] = []
uses_by a t (c ∷ tasks) = use_in a t (get_or c.table a.func no_context) ++ uses_by a (t + 1) tasks

-- the uses of a symbol
abbrev pub uses_among : List Contexts → (y : ℕ) → List Access → List Use
uses_among tasks y [] = []
uses_among tasks y (a ∷ rest) = cond (a.symbol == y) (uses_by a 0 tasks) [] ++ uses_among tasks y rest

-- ---- open pairs

-- no lines
abbrev pub no_firsts : Firsts
no_firsts = record { access = None; store = None }

-- the lesser line
abbrev pub least_line : Option ℕ → ℕ → Option ℕ
least_line None line = Some line
least_line (Some other) line = Some (min line other)

-- the least lines of accesses and of stores, with one more use
abbrev pub firsts_with : Firsts → Use → Firsts
firsts_with firsts u = record {
  access = least_line firsts.access u.line;
  store = cond u.stores (least_line firsts.store u.line) firsts.store;
}

-- those of task t among these uses, from these on
abbrev pub firsts_of : (t : ℕ) → Firsts → List Use → Firsts
firsts_of t firsts [] = firsts
firsts_of t firsts (u ∷ uses) = firsts_of t (cond (u.task == t) (firsts_with firsts u) firsts) uses

-- those of the first tasks
pub record AreFirsts (uses : List Use) (n : ℕ) (table : List Firsts) : Type 0 where
  pub count : length table ≡ n
  pub each : (t : ℕ) → t < n → get_or table t no_firsts ≡ firsts_of t no_firsts uses

-- the line of the higher task: of an access where the lower one stores, else of a store
abbrev pub high_line : Firsts → Bool → Option ℕ
high_line firsts low_stores = cond low_stores firsts.access firsts.store

-- the pair of a use with a line of a higher task
abbrev pub pair_with : Use → (high : ℕ) → Option ℕ → Option OpenPair
pair_with u high None = None
pair_with u high (Some line) = Some (record { low = u.task; low_line = u.line; high = high; high_line = line })

-- the pair of a use with a task of this priority, if it is open
abbrev pub pair_of : Use → (high priority : ℕ) → Firsts → Option OpenPair
pair_of u high priority firsts = cond (leb priority u.least) None (pair_with u high (high_line firsts u.stores))

-- the one that stands before the other, if there are two
abbrev pub first_of : Option OpenPair → Option OpenPair → Option OpenPair
first_of None pair = pair
first_of (Some p) None = Some p
first_of (Some p) (Some q) = cond (is_before q p) (Some q) (Some p)

-- the first pair of a use with one of these tasks, which are counted from n on, or the one that is found already
abbrev pub first_pair : List Firsts → Use → (n : ℕ) → Option OpenPair → List TaskDecl → Option OpenPair
first_pair firsts u n found [] = found
first_pair firsts u n found (d ∷ tasks) =
    first_pair firsts u (n + 1) (first_of found (pair_of u n d.priority (get_or firsts n no_firsts))) tasks

-- the first pair of these uses
abbrev pub first_pairs : List TaskDecl → List Firsts → Option OpenPair → List Use → Option OpenPair
first_pairs tasks firsts found [] = found
first_pairs tasks firsts found (u ∷ uses) = first_pairs tasks firsts (first_pair firsts u 0 found tasks) uses

-- by the table of least lines
abbrev pub IsPairBy : List TaskDecl → List Use → Option OpenPair → Type 0
IsPairBy tasks uses found = (firsts : List Firsts) × AreFirsts uses (length tasks) firsts × (found ≡ first_pairs tasks firsts None uses)

-- ---- order

-- the priority of a task
abbrev pub priority_in : List TaskDecl → (t : ℕ) → ℕ
priority_in tasks t = (get_or tasks t undeclared_task).priority

-- the priority is below the other one, if there is one
abbrev pub is_under : (priority : ℕ) → Option ℕ → Bool
is_under priority None = true
is_under priority (Some above) = ltb priority above

-- a task of this number is a user whose priority is below the other one, if there is one
abbrev pub is_user_under : List TaskDecl → (users : ℕ) → Option ℕ → (t : ℕ) → Bool
is_user_under tasks users above t = is_under (priority_in tasks t) above && is_member users t

-- the one of higher priority
abbrev pub higher_of : List TaskDecl → Option ℕ → ℕ → Option ℕ
higher_of tasks None t = Some t
higher_of tasks (Some u) t = cond (ltb (priority_in tasks u) (priority_in tasks t)) (Some t) (Some u)

-- of the first n tasks the user of highest priority below this one, if there is one
abbrev pub IsNextUser : List TaskDecl → (users : ℕ) → Option ℕ → (n : ℕ) → Option ℕ → Type 0
IsNextUser tasks users above n None = (t : ℕ) → t < n → is_user_under tasks users above t ≡ false
IsNextUser tasks users above n (Some t) =
    (t < n) × (is_user_under tasks users above t ≡ true)
    × ((u : ℕ) → u < n → is_user_under tasks users above u ≡ true → priority_in tasks u ≤ priority_in tasks t)

-- resource r is held on each way at some use of task t
abbrev pub is_held_at_some : List Use → (t r : ℕ) → Bool
is_held_at_some uses t r = list_any (λ u. (u.task == t) && is_member u.held r) uses

-- the ceiling of resource r is in the table and reaches the priority
abbrev pub is_reaching : List ℕ → (priority r : ℕ) → Bool
is_reaching ceilings priority r = ltb r (length ceilings) && leb priority (get_or ceilings r 0)

-- what keeps the next higher user out, whose priority is this
abbrev pub IsKeeperBy : List TaskDecl → List ℕ → List Use → (t : ℕ) → Option ℕ → Keeper → Type 0
IsKeeperBy tasks ceilings uses t None k = k ≡ record { task = t; non = false; held = 0 }
IsKeeperBy tasks ceilings uses t (Some priority) k =
    (k.task ≡ t) × (k.non ≡ (get_or tasks t undeclared_task).non)
    × ((r : ℕ) → r < 64 → is_member k.held r ≡ (not k.non && (is_held_at_some uses t r && is_reaching ceilings priority r)))

-- users from the highest priority down, below a user of this priority, if there is one, and no user is left
abbrev pub AreKeepersBy : List TaskDecl → List ℕ → (users : ℕ) → List Use → Option ℕ → List Keeper → Type 0
AreKeepersBy tasks ceilings users uses above [] = IsNextUser tasks users above (length tasks) None
AreKeepersBy tasks ceilings users uses above (k ∷ rest) =
    IsNextUser tasks users above (length tasks) (Some k.task) × IsKeeperBy tasks ceilings uses k.task above k
    × AreKeepersBy tasks ceilings users uses (Some (priority_in tasks k.task)) rest
