-- The states of tasks in their places.
use Rattle.std.proofs.Common.{◌≡◌, ◌∙◌, ℕ, suc, ◌+◌, ◌-◌, ◌<◌, List, [], ◌∷◌, ◌++◌, map, length, replicate, set, get_or, ap, sym, arith, append_assoc, append-nil}
use Rattle.std.specs.List.{range_with_len}
use Rattle.std.proofs.lemmas.List.FromFn.{length-map-range_with_len, map-range_with_len_more, get_or-map-range_with_len}
use Rattle.std.proofs.lemmas.List.{get_or_append_left}
use Rattle.std.proofs.Math.Seq.{set-append_seam}
use Rattle.sloth_base.specs.Limits.{task_limit}
use Rattle.rv32_instr.specs.Memory.{Memory}
use Rattle.osek_scheduler.specs.declared.state.TaskState.{TaskState}
use Rattle.osek_scheduler.specs.declared.state.TaskState.TheVariants as mode
use Rattle.sloth_inspect.specs.States.{state_in, states_in}

-- one place more of so many that is used
pub one_more_of : {X : Type 0} (f : ℕ → X) (d : X) (limit place : ℕ) → place < limit
    → set (map f (range_with_len 0 place) ++ replicate (limit - place) d) place (f place) ≡ map f (range_with_len 0 (place + 1)) ++ replicate (limit - (place + 1)) d
one_more_of {X} f d limit place below =
    let known : List X = map f (range_with_len 0 place) in
    let rest : List X = replicate (limit - (place + 1)) d in
    let size : length known ≡ place = length-map-range_with_len f 0 place in
    let left : limit - place ≡ suc (limit - (place + 1)) = omega arith in
    ap (λ n. set (known ++ replicate n d) place (f place)) left
    ∙ ap (λ n. set (known ++ (d ∷ rest)) n (f place)) (sym size)
    ∙ set-append_seam known d rest (f place)
    ∙ sym (append_assoc known (f place ∷ []) rest)
    ∙ ap (λ xs. xs ++ rest) (sym (map-range_with_len_more f 0 place place (omega arith)))

-- all places are used
pub all_places : {X : Type 0} (f : ℕ → X) (d : X) (limit place : ℕ) → place ≡ limit
    → map f (range_with_len 0 place) ++ replicate (limit - place) d ≡ map f (range_with_len 0 limit)
all_places {X} f d limit place all =
    let none : limit - place ≡ 0 = omega (arith, all) in
    ap (λ n. map f (range_with_len 0 place) ++ replicate n d) none ∙ append-nil (map f (range_with_len 0 place)) ∙ ap (λ n. map f (range_with_len 0 n)) all

-- one place more that is used
pub one_place_more : {X : Type 0} (f : ℕ → X) (d : X) (task : ℕ) → task < task_limit
    → set (map f (range_with_len 0 task) ++ replicate (task_limit - task) d) task (f task) ≡ map f (range_with_len 0 (task + 1)) ++ replicate (task_limit - (task + 1)) d
one_place_more f d task below = one_more_of f d task_limit task below

-- one task more
pub one_more : (memory : Memory) (task : ℕ) → task < task_limit → set (states_in memory task) task (state_in memory task) ≡ states_in memory (task + 1)
one_more memory task below = one_place_more (state_in memory) mode.Suspended task below

-- the state in each place that is used
pub state_at_place : (memory : Memory) (tasks task : ℕ) (d : TaskState) → task < tasks → get_or (states_in memory tasks) task d ≡ state_in memory task
state_at_place memory tasks task d below =
    let size : length (map (state_in memory) (range_with_len 0 tasks)) ≡ tasks = length-map-range_with_len (state_in memory) 0 tasks in
    get_or_append_left (map (state_in memory) (range_with_len 0 tasks)) (replicate (task_limit - tasks) mode.Suspended) d task (omega (arith, size, below))
    ∙ get_or-map-range_with_len (state_in memory) 0 tasks task task d below (omega arith)
