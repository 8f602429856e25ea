-- The stacks of an image: one for all basic tasks, one for each extended task, and each task's part of its stack.
use Rattle.std.specs.Prelude.{ℕ, zero, suc, ◌+◌, ◌*◌, ◌%◌, ◌<◌, ◌≤◌, ◌≡◌, ◌≢◌, ◌⊎◌, ◌==◌, true, List, [], ◌∷◌, ◌++◌, cond, length, get_or, All}
use Rattle.sloth_base.specs.Named.{declaration}
use Rattle.sloth_base.specs.declared.app.App.{App}
use Rattle.sloth_base.specs.declared.config.Config.{Config}
use Rattle.sloth_base.specs.declared.config.TaskDecl.{TaskDecl}
use Rattle.sloth_base.specs.declared.limits.Bounds.{Bounds}
use Rattle.sloth_region.specs.declared.region.Extent.{Extent}
use Rattle.sloth_region.specs.declared.region.Map.{Map}
use Rattle.sloth_region.specs.Region.{aligned, IsBelow}
use Rattle.stack_bounds.specs.Bounds.{IsBasic, MayBePreempted, MayMeet, bytes_of}
use Rattle.mem_map.specs.StackParts.{is_extended, own_before, first_own, stack_number, no_extent}
use Rattle.mem_map.specs.Zones.{data_zone, stack_of, all_stacks}
use Rattle.mem_map.specs.Run.{room_for, run}

-- ---- lengths

-- the shared stack, to the next multiple of 16
abbrev pub shared_length : Bounds → ℕ
shared_length bounds = aligned bounds.shared 16

-- the lengths of the stacks of the tasks before this one: that of the shared one, if some task is basic, and those of the extended tasks
abbrev pub lengths_before : List TaskDecl → Bounds → ℕ → List ℕ
lengths_before tasks bounds zero = cond (first_own tasks == 1) (shared_length bounds ∷ []) []
lengths_before tasks bounds (suc t) = lengths_before tasks bounds t ++ cond (is_extended tasks t) (bytes_of bounds t ∷ []) []

-- the same lengths, and what they are for
pub record AreStackLengths (tasks : List TaskDecl) (bounds : Bounds) (end : ℕ) (lengths : List ℕ) : Type 0 where
  pub is : lengths ≡ lengths_before tasks bounds end
  pub count : length lengths ≡ first_own tasks + own_before tasks end
  pub shared : 0 < first_own tasks → get_or lengths 0 0 ≡ shared_length bounds
  pub own : (t : ℕ) → t < end → is_extended tasks t ≡ true → get_or lengths (first_own tasks + own_before tasks t) 0 ≡ bytes_of bounds t
  pub some : All (λ len. 1 ≤ len) lengths
  pub room : room_for 16 lengths ≤ 269854 + 8587 * end

-- ---- parts

-- the stacks and the tops of the tasks before this one
pub record AreStacksBefore (tasks : List TaskDecl) (all : List Extent) (offsets : List ℕ) (end : ℕ) (stacks : List Extent) (tops : List ℕ) : Type 0 where
  pub stacks_count : length stacks ≡ end
  pub tops_count : length tops ≡ end
  pub stack : (t : ℕ) → t < end → get_or stacks t no_extent ≡ get_or all (stack_number tasks t) no_extent
  pub top : (t : ℕ) → t < end
      → get_or tops t 0 + get_or offsets t 0 ≡ (get_or all (stack_number tasks t) no_extent).base + (get_or all (stack_number tasks t) no_extent).len

-- ---- what a map has of stacks

-- the address behind a task's part of its stack
abbrev pub top_of : Map → ℕ → ℕ
top_of map t = get_or map.tops t 0

-- the address behind the zone of data
abbrev pub address_behind_data : Map → ℕ
address_behind_data map = (data_zone map).base + (data_zone map).len

-- the parts of two tasks have no address in common
abbrev pub PartsApart : Bounds → Map → (t u : ℕ) → Type 0
PartsApart bounds map t u = (top_of map t + bytes_of bounds u ≤ top_of map u) ⊎ (top_of map u + bytes_of bounds t ≤ top_of map t)

-- All basic tasks have one stack, and each extended task one of its own. A task has its bytes below its top, and tasks that may have
-- something there at once have parts that are apart: of two basic ones, that of the task that may be entered over the other lies below.
pub record HasStacks (config : Config) (app : App) (bounds : Bounds) (map : Map) : Type 0 where
  pub count : length map.stacks ≡ length config.tasks
  pub tops : length map.tops ≡ length config.tasks
  pub shared : (t u : ℕ) → IsBasic config t → IsBasic config u → stack_of map t ≡ stack_of map u
  pub shared_long : (t : ℕ) → IsBasic config t → (stack_of map t).len ≡ shared_length bounds
  pub own_long : (t : ℕ) → t < length config.tasks → (declaration config t).extended ≡ true → (stack_of map t).len ≡ bytes_of bounds t
  pub own : (t u : ℕ) → t < length config.tasks → u < length config.tasks → t ≢ u → (declaration config t).extended ≡ true
      → IsBelow (stack_of map t) (stack_of map u) ⊎ IsBelow (stack_of map u) (stack_of map t)
  pub aligned : All (λ e. e.base % 16 ≡ 0) map.stacks
  -- they stand one behind the other, each at the least multiple of 16 behind the data and the stacks before it
  pub placed : all_stacks map ≡ run 16 (address_behind_data map) (lengths_before config.tasks bounds (length config.tasks))
  pub number : (t : ℕ) → t < length config.tasks → stack_of map t ≡ get_or (all_stacks map) (stack_number config.tasks t) no_extent
  -- the stacks are the extents behind that of the data, and there is no other
  pub among : (t : ℕ) → t < length config.tasks → (k : ℕ) × (k < length (all_stacks map)) × (stack_of map t ≡ get_or (all_stacks map) k no_extent)
  pub no_other : (k : ℕ) → k < length (all_stacks map) → (t : ℕ) × (t < length config.tasks) × (stack_of map t ≡ get_or (all_stacks map) k no_extent)
  pub above : (t : ℕ) → t < length config.tasks → (stack_of map t).base + bytes_of bounds t ≤ top_of map t
  pub within : (t : ℕ) → t < length config.tasks → top_of map t ≤ (stack_of map t).base + (stack_of map t).len
  pub whole : (t : ℕ) → t < length config.tasks → top_of map t % 4 ≡ 0
  pub apart : (t u : ℕ) → t < length config.tasks → u < length config.tasks → t ≢ u → MayMeet config app t u → PartsApart bounds map t u
  pub nested : (t u : ℕ) → IsBasic config t → IsBasic config u → MayBePreempted config app u
      → (declaration config u).priority < (declaration config t).priority → top_of map t + bytes_of bounds u ≤ top_of map u
