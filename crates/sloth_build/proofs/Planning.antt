-- What is built has levels and a map.
use Rattle.std.proofs.Common.{◌≡◌, ◌≤◌, ◌<◌, ℕ, zero, suc, List, [], ◌∷◌, length, get_or, refl, ⊎_elim, arith}
use Rattle.std.specs.Prelude.{slice_index}
use Rattle.std.proofs.lemmas.Bool.{cases_lt}
use Rattle.sloth_base.specs.declared.app.App.{App}
use Rattle.sloth_base.specs.declared.config.Config.{Config}
use Rattle.sloth_base.specs.declared.limits.Bounds.{Bounds}
use Rattle.sloth_base.specs.declared.limits.Levels.{Levels}
use Rattle.sloth_base.specs.Limits.{task_limit, level_count}
use Rattle.sloth_region.specs.declared.region.Map.{Map}
use Rattle.prio_levels.specs.Levels.{AreLevels}
use Rattle.mem_map.specs.Planned.{IsPlanned}
use Rattle.sloth_build.specs.Gathered.{MayBuild, MayGenerate}

beyond : (xs : List ℕ) (i : ℕ) → length xs ≤ i → get_or xs i 0 ≡ 0
beyond [] zero h = refl
beyond [] (suc i) h = refl
beyond (x ∷ xs) zero h = absurd (omega (arith, h))
beyond (x ∷ xs) (suc i) h = beyond xs i (omega (arith, h))

small_levels : (config : Config) (levels : Levels) → length config.tasks ≤ task_limit → length levels.task ≡ task_limit → AreLevels config levels
    → ((t : ℕ) → t < length config.tasks → (0 < slice_index levels.task t) × (slice_index levels.task t ≤ levels.top)) → (t : ℕ) → slice_index levels.task t < level_count
small_levels config levels few long are within t =
    let top = are.top in
    ⊎_elim
    (λ (l : t < length config.tasks). let w = (within t l).1 in omega (arith, w, top, few))
    (λ (g : length config.tasks ≤ t).
    ⊎_elim
    (λ (l : t < task_limit). let z = are.tasks.no_task t g l in omega (arith, z))
    (λ (h : task_limit ≤ t). let z = beyond levels.task t (omega (arith, long, h)) in omega (arith, z))
    (cases_lt t task_limit))
    (cases_lt t (length config.tasks))

pub may_generate : (config : Config) (app : App) (bounds : Bounds) → MayBuild config app bounds → (levels : Levels) (map : Map) → AreLevels config levels
    → length levels.task ≡ task_limit → ((t : ℕ) → t < length config.tasks → (0 < slice_index levels.task t) × (slice_index levels.task t ≤ levels.top))
    → IsPlanned config app bounds map → MayGenerate config app levels map
may_generate config app bounds may levels map leveled long within planned =
    let few = may.well_formed.in_range.configuration.few_tasks in
    let top = leveled.top in
    record {
      well_formed = may.well_formed;
      named = may.named;
      are_levels = leveled;
      small = (omega (arith, top, few), small_levels config levels few long leveled within);
      bounds = bounds;
      are_bounds = may.are_bounds;
      planned = planned;
    }
