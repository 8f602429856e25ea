-- What follows from levels and ceilings.
use Rattle.std.proofs.Common.{◌≡◌, ℕ, ◌<◌, ◌≤◌, ◌⊎◌, ⊎_elim, false, List, [], ◌∷◌, length, get_or, ap, arith, IsTrue}
use Rattle.std.specs.Prelude.{◌==◌, nat_le, Contains, slice_index}
use Rattle.std.proofs.lemmas.Bool.{eq-eqb, ne_eqb}
use Rattle.std.proofs.lemmas.List.Folds.{list_any_none, list_any_at}
use Rattle.std.proofs.lemmas.List.Elements.{All-weaker, All-contains}
use Rattle.std.proofs.lemmas.List.Sums.{count_by-le-length}
use Rattle.sloth_base.specs.declared.config.TaskDecl.{TaskDecl}
use Rattle.sloth_base.specs.declared.config.Config.{Config}
use Rattle.sloth_base.specs.ConfigRange.{InRange, IsTask, scheduler_number}
use Rattle.prio_levels.specs.Levels.{lists, ceiling, AreCeilings, AreTaskLevels}
use Rattle.sloth_base.specs.PriorityLevels.{level_among}
use Rattle.prio_levels.proofs.Counting.{level-lt, level-positive}
use Rattle.prio_levels.proofs.Greatest.{greatest_covers, greatest_none}

-- a resource of a task
abbrev pub IsListed : Config → ℕ → Type 0
IsListed config r = (r < length config.resources) ⊎ ((r ≡ scheduler_number) × IsTrue config.res_scheduler)

lists_no : (config : Config) (r : ℕ) → length config.resources ≤ r → r < scheduler_number → (task : TaskDecl) → IsTask config task → lists r task ≡ false
lists_no config r h k task t =
    list_any_none (λ n. n == r) task.resources
    (All-weaker (IsListed config) (λ n. (n == r) ≡ false) (λ n l. ne_eqb n r (λ e. ⊎_elim (λ b. omega (arith, b, e)) (λ b. let q = b.0 in omega (arith, q, e)) l)) task.resources t.resources)

pub no_resource : (config : Config) → InRange config → (r : ℕ) → length config.resources ≤ r → r < scheduler_number → ceiling config.tasks r ≡ 0
no_resource config range r h k =
    greatest_none (lists r) (λ t. level_among config.tasks t.priority) config.tasks (All-weaker (IsTask config) (λ t. lists r t ≡ false) (lists_no config r h k) config.tasks range.tasks)

pub within : (tasks : List TaskDecl) (levels : List ℕ) → AreTaskLevels tasks levels → (t : ℕ) → t < length tasks → (0 < slice_index levels t) × (slice_index levels t ≤ length tasks)
within [] levels levels_are t h = absurd (omega arith)
within (d ∷ rest) levels levels_are t h =
    let tasks = d ∷ rest in
    let a = levels_are.of_task t d h in
    let p = level-positive tasks t d h in
    let n = count_by-le-length (λ s. nat_le s.priority (get_or tasks t d).priority) tasks in
    (omega (arith, a, p), omega (arith, a, n))

module _ (config : Config) (levels ceilings : List ℕ) (range : InRange config) (levels_are : AreTaskLevels config.tasks levels) where
  pub ordered : (s t : ℕ) (d : TaskDecl) → s < length config.tasks → t < length config.tasks → (get_or config.tasks s d).priority < (get_or config.tasks t d).priority
      → slice_index levels s < slice_index levels t
  ordered s t d h k l =
      let a = levels_are.of_task s d h in
      let b = levels_are.of_task t d k in
      let m = level-lt config.tasks t d k (get_or config.tasks s d).priority l in
      omega (arith, a, b, m)

  pub covers : AreCeilings config.tasks ceilings → (t r : ℕ) (d : TaskDecl) → t < length config.tasks → Contains (get_or config.tasks t d).resources r
      → slice_index levels t ≤ slice_index ceilings r
  covers are t r d h c =
      let task = get_or config.tasks t d in
      let a = levels_are.of_task t d h in
      let listed = All-contains (IsListed config) task.resources r (range.tasks t d h).resources c in
      let few = range.few_resources in
      ⊎_elim
      (λ b. let below : r < scheduler_number = omega (arith, b, few) in
      let e = are.listed r below in
      let m = greatest_covers (lists r) (λ s. level_among config.tasks s.priority) config.tasks 0 t d h
      (list_any_at (λ n. n == r) task.resources c.0 r c.1 (eq-eqb (get_or task.resources c.0 r) r c.2)) in
      omega (arith, a, e, m))
      (λ b. let s = are.scheduler in
      let n = count_by-le-length (λ s. nat_le s.priority task.priority) config.tasks in
      let q : slice_index ceilings r ≡ slice_index ceilings 32 = ap (slice_index ceilings) b.0 in
      omega (arith, a, s, n, q))
      listed
