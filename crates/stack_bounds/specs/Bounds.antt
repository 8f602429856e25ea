-- The bytes of stack that tasks may need: each for itself, and the basic tasks together on one stack.
use Rattle.std.specs.Prelude.{ℕ, ◌+◌, ◌*◌, ◌%◌, ◌<◌, ◌≤◌, ◌≡◌, ◌⊎◌, true, false, List, [], ◌∷◌, length, get_or, All}
use Rattle.sloth_base.specs.declared.config.Config.{Config}
use Rattle.sloth_base.specs.declared.app.App.{App}
use Rattle.sloth_base.specs.declared.limits.Bounds.{Bounds}
use Rattle.sloth_base.specs.declared.service.Service.TheVariants as service
use Rattle.sloth_base.specs.Named.{declaration, function, IsBodyOf}
use Rattle.code_rules.specs.Code.{IsItem, service_op, HasCall, IsCalledBy, TaskReaches}

-- a size summed over a list
abbrev pub total : (ℕ → ℕ) → List ℕ → ℕ
total size [] = 0
total size (x ∷ xs) = size x + total size xs

-- some list of this kind has the size, and none has a greater one
pub record IsGreatest (Kind : List ℕ → Type 0) (size : List ℕ → ℕ) (greatest : ℕ) : Type 0 where
  pub some : (list : List ℕ) × Kind list × (size list ≡ greatest)
  pub none_greater : (list : List ℕ) → Kind list → size list ≤ greatest

-- ---- a task's own stack

-- the bytes of a context, 32 words: where a task goes on, what was below it, and its registers
abbrev pub context_bytes : ℕ
context_bytes = 128

-- the bytes of a function's frame
abbrev pub frame_bytes : App → ℕ → ℕ
frame_bytes app f = 4 * (function app f).frame_words

-- the bytes of a call of a function: the return address and the frame
abbrev pub call_bytes : App → ℕ → ℕ
call_bytes app f = 4 + frame_bytes app f

-- a chain of calls: function f calls the first of these, and each of them calls the next
abbrev pub CallsInTurn : App → ℕ → List ℕ → Type 0
CallsInTurn app f [] = Unit {0}
CallsInTurn app f (g ∷ chain) = HasCall app f g × CallsInTurn app g chain

-- the bytes in use where a body has called by this chain: its frame, the calls, and one context
abbrev pub used_bytes : App → (body : ℕ) → (chain : List ℕ) → ℕ
used_bytes app body chain = frame_bytes app body + total (call_bytes app) chain + context_bytes

-- ---- the one stack of all basic tasks

-- a basic task: it has no events, so it never waits
abbrev pub IsBasic : Config → ℕ → Type 0
IsBasic config t = (t < length config.tasks) × ((declaration config t).extended ≡ false)

-- the task reaches a Schedule
abbrev pub ReachesSchedule : App → ℕ → Type 0
ReachesSchedule app t = (f : ℕ) × (i : ℕ) × (object : ℕ) × (mask : ℕ) × TaskReaches app t f × IsItem app f i (service_op service.Schedule object mask)

-- a basic task that another may preempt: its scheduling is FULL, or it reaches a Schedule
abbrev pub MayBePreempted : Config → App → ℕ → Type 0
MayBePreempted config app t = ((declaration config t).non ≡ false) ⊎ ReachesSchedule app t

-- Basic tasks on one stack, each above the one before it: the priorities rise, and each task but the last may be preempted.
abbrev pub AreStacked : Config → App → List ℕ → Type 0
AreStacked config app [] = Unit {0}
AreStacked config app (t ∷ []) = IsBasic config t
AreStacked config app (t ∷ u ∷ tasks) =
    IsBasic config t × MayBePreempted config app t × ((declaration config t).priority < (declaration config u).priority)
    × AreStacked config app (u ∷ tasks)

-- Two tasks may have something on their stacks at once: an extended one with any other, and a basic one with another of lower priority
-- that may be preempted.
pub data MayMeet (config : Config) (app : App) (t u : ℕ) : Type 0 where
  waits : (declaration config t).extended ≡ true → MayMeet config app t u
  meets_waiting : (declaration config u).extended ≡ true → MayMeet config app t u
  is_over : MayBePreempted config app u → (declaration config u).priority < (declaration config t).priority → MayMeet config app t u
  is_under : MayBePreempted config app t → (declaration config t).priority < (declaration config u).priority → MayMeet config app t u

-- the bytes of these tasks together
abbrev pub stacked_bytes : Bounds → List ℕ → ℕ
stacked_bytes bounds tasks = total (λ t. get_or bounds.bytes t 0) tasks

-- ---- bounds

-- no task needs more than its bytes: the frame of the function that it is in, a return address and a frame for each caller, and a context
abbrev pub HaveStackRoom : Config → App → Bounds → Type 0
HaveStackRoom config app bounds = (t f : ℕ) (callers : List ℕ) → t < length config.tasks → IsCalledBy app t f callers
    → context_bytes + frame_bytes app f + total (call_bytes app) callers ≤ get_or bounds.bytes t 0

-- whole words, and at most those of 63 calls with a body and a context
abbrev pub IsLength : ℕ → Type 0
IsLength bytes = (bytes ≤ 8572) × (bytes % 4 ≡ 0)

-- the bounds of all tasks, and the shared one: 0 where there is no basic task
pub record AreBounds (config : Config) (app : App) (bounds : Bounds) : Type 0 where
  pub count : length bounds.bytes ≡ length config.tasks
  pub bytes : (t body : ℕ) → IsBodyOf app t body → IsGreatest (CallsInTurn app body) (used_bytes app body) (get_or bounds.bytes t 0)
  pub shared : IsGreatest (AreStacked config app) (stacked_bytes bounds) bounds.shared
  pub lengths : All IsLength bounds.bytes
  pub room : HaveStackRoom config app bounds

-- ---- parts of the shared stack

-- the bytes of a task
abbrev pub bytes_of : Bounds → ℕ → ℕ
bytes_of bounds t = get_or bounds.bytes t 0

-- the bytes from the end of a task's part to the end of its stack
abbrev pub offset_of : List ℕ → ℕ → ℕ
offset_of offsets t = get_or offsets t 0

-- Each basic task has a part of the shared stack, in whole words. It lies below those of the basic tasks of lower priority that may be preempted.
pub record AreParts (config : Config) (app : App) (bounds : Bounds) (offsets : List ℕ) : Type 0 where
  pub count : length offsets ≡ length config.tasks
  pub own : (t : ℕ) → (declaration config t).extended ≡ true → offset_of offsets t ≡ 0
  pub inside : (t : ℕ) → IsBasic config t → offset_of offsets t + bytes_of bounds t ≤ bounds.shared
  pub below : (t u : ℕ) → IsBasic config t → IsBasic config u → MayBePreempted config app u
      → (declaration config u).priority < (declaration config t).priority → offset_of offsets u + bytes_of bounds u ≤ offset_of offsets t
  pub words : (t : ℕ) → offset_of offsets t % 4 ≡ 0
  pub small : bounds.shared ≤ 269824
