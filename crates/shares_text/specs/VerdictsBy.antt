-- The verdict by the list of a symbol's uses.
use Rattle.std.specs.Prelude.{ℕ, ◌<◌, ◌≡◌, ◌≢◌, ◌==◌, ◌&&◌, ltb, List, [], Bool, true, false, Some, None}
use Rattle.std.specs.List.{list_any, list_all}
use Rattle.sloth_base.specs.Limits.{ceiling_count}
use Rattle.sloth_base.specs.declared.config.TaskDecl.{TaskDecl}
use Rattle.call_graph.specs.Bits.{is_member}
use Rattle.shares_text.specs.declared.keepers.Keeper.{Keeper}
use Rattle.shares_text.specs.declared.contexts.Use.{Use}
use Rattle.shares_text.specs.declared.verdict.Verdict.{Verdict}
use Rattle.shares_text.specs.declared.verdict.Verdict.TheVariants as verdict
use Rattle.shares_text.specs.Computed.{IsPairBy, AreKeepersBy}

-- all of one task
abbrev pub is_of_one : List Use → (t : ℕ) → Bool
is_of_one uses t = list_all (λ u. u.task == t) uses

-- one is a store
abbrev pub has_store : List Use → Bool
has_store uses = list_any (λ u. u.stores) uses

-- the set has the tasks of these uses
abbrev pub AreTasksOf : List Use → (members : ℕ) → Type 0
AreTasksOf uses members = (t : ℕ) → t < 32 → is_member members t ≡ list_any (λ u. u.task == t) uses

-- and the resources that are held at each
abbrev pub AreCommon : List Use → (members : ℕ) → Type 0
AreCommon uses members = (r : ℕ) → is_member members r ≡ (ltb r ceiling_count && list_all (λ u. is_member u.held r) uses)

-- no resource is
abbrev pub HaveNoCommon : List Use → Type 0
HaveNoCommon uses = AreCommon uses 0

-- users from the highest priority down
abbrev pub AreOrderedBy : List TaskDecl → List ℕ → List Use → List Keeper → Type 0
AreOrderedBy tasks ceilings uses list = (users : ℕ) × AreTasksOf uses users × AreKeepersBy tasks ceilings users uses None list

-- one use is of this task, and one of another
pub record AreOfTwo (uses : List Use) : Type 0 where
  pub one : ℕ
  pub some : list_any (λ u. u.task == one) uses ≡ true
  pub other : is_of_one uses one ≡ false

-- of any uses
abbrev pub IsVerdictBy : List TaskDecl → List ℕ → List Use → Verdict → Type 0
IsVerdictBy tasks ceilings uses verdict.Unused = uses ≡ []
IsVerdictBy tasks ceilings uses (verdict.One t) = (list_any (λ u. u.task == t) uses ≡ true) × (is_of_one uses t ≡ true)
IsVerdictBy tasks ceilings uses (verdict.Reads members) = AreOfTwo uses × (has_store uses ≡ false) × AreTasksOf uses members
IsVerdictBy tasks ceilings uses (verdict.Guarded members) = AreOfTwo uses × (has_store uses ≡ true) × AreCommon uses members × (members ≢ 0)
IsVerdictBy tasks ceilings uses (verdict.Open p) = AreOfTwo uses × (has_store uses ≡ true) × HaveNoCommon uses × IsPairBy tasks uses (Some p)
IsVerdictBy tasks ceilings uses (verdict.Ordered list) =
    AreOfTwo uses × (has_store uses ≡ true) × HaveNoCommon uses × IsPairBy tasks uses None × AreOrderedBy tasks ceilings uses list
