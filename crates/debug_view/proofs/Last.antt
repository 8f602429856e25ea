-- The states that are shown last, count by count.
use Rattle.std.proofs.Common.{◌≡◌, ◌<◌, ◌≤◌, ◌+◌, ℕ, zero, suc, List, Option, Some, None, Bool, true, false, if◌then◌else◌, refl, ◌∙◌, ap, subst, arith, length}
use Rattle.std.specs.Prelude.{filter, get_or}
use Rattle.std.specs.Option.{option_or}
use Rattle.sloth_base.specs.Owners.{owners_in}
use Rattle.sloth_base.specs.declared.app.App.{App}
use Rattle.sloth_base.specs.declared.config.Config.{Config}
use Rattle.sloth_base.specs.declared.service.Arrival.{Arrival}
use Rattle.sloth_base.specs.declared.image.Image.{Image}
use Rattle.rv32_instr.specs.Memory.{memory_of}
use Rattle.rv32_machine.specs.Run.{state_with_arrivals}
use Rattle.osek_scheduler.specs.State.{System, task, opening}
use Rattle.osek_scheduler.specs.Runs.{AreStepsTo}
use Rattle.osek_scheduler.specs.declared.state.TaskState.{TaskState}
use Rattle.sim_induction.specs.Sound.{AreComing, events_of, stands_before}
use Rattle.sim_laws.specs.TaskStates.{HasTaskStates}
use Rattle.sloth_inspect.proofs.Places.{state_at_place}
use Rattle.sloth_runner.specs.TaskStates.{AreLastStates, IsLast, image_states, task_states, running_task}
use Rattle.sloth_runner.specs.declared.task_states.Seen.{Seen}
use Rattle.sloth_runner.proofs.RunStates.{last-behind}
use Rattle.debug_view.specs.ShownRun.{run_of}
use Rattle.debug_view.specs.States.{state_at, open_at}
use Rattle.debug_view.proofs.Running.{reaches_to_end}
use Rattle.debug_view.specs.ShownStates.{seen_at, shown_seen}

-- what is seen of a count that finds interrupts open, and else what was seen before
seen-more : (image : Image) (A : List Arrival) (k : ℕ) (open_before : Option ℕ) (b : Bool)
    → option_or (if b then Some (record { count = k; tasks = task_states image (state_at image A k); running = running_task (state_at image A k) }) else None) (shown_seen image A open_before)
    ≡ shown_seen image A (if b then Some k else open_before)
seen-more image A k open_before true = refl
seen-more image A k open_before false = refl

none-before : (image : Image) (A : List Arrival) → IsLast image A 0 None
none-before image A count state from below after = absurd (omega arith)

pub last_is_shown : (image : Image) (A : List Arrival) (k : ℕ) → k ≤ (run_of image A).end → IsLast image A (k + 1) (shown_seen image A ((run_of image A).look k).open_count)
unfolding open_at
last_is_shown image A zero within =
    let r = reaches_to_end image A zero within in
    let L : Option Seen → Type 0 = IsLast image A (zero + 1) in
    subst L (seen-more image A zero None (state_at image A zero).core.mie)
    (last-behind image A zero r.0 (state_at image A zero) image (image_states image zero (state_at image A zero)) None r.1 (none-before image A) refl r.2 refl)
last_is_shown image A (suc k) within =
    let r = reaches_to_end image A (suc k) within in
    let before : IsLast image A (k + 1) (shown_seen image A (open_at image A k)) = last_is_shown image A k (omega arith) in
    let one : k + 1 ≡ suc k = omega arith in
    let B : ℕ → Type 0 = λ n. IsLast image A n (shown_seen image A (open_at image A k)) in
    let L : Option Seen → Type 0 = IsLast image A (suc k + 1) in
    subst L (seen-more image A (suc k) (open_at image A k) (state_at image A (suc k)).core.mie)
    (last-behind image A (suc k) r.0 (state_at image A (suc k)) image (image_states image (suc k) (state_at image A (suc k))) (shown_seen image A (open_at image A k)) r.1
    (subst B one before) refl r.2 refl)

-- the state of a task that is shown
pub shown_state : (config : Config) (app : App) (image : Image) → HasTaskStates config app image → length image.tasks ≡ length config.tasks
    → (A : List Arrival) (n k count : ℕ) (s : System) → AreComing (owners_in config) A → k ≤ (run_of image A).end
    → ((run_of image A).look k).open_count ≡ Some count → count < n
    → AreStepsTo config app (filter (stands_before count) (events_of image A n)) (opening config app) s
    → (t : ℕ) (unused : TaskState) → t < length config.tasks → get_or ((run_of image A).states count) t unused ≡ (task s t).state
shown_state config app image shows same A n k count s come within here below steps t unused own =
    let L : Option ℕ → Type 0 = λ o. IsLast image A (k + 1) (shown_seen image A o) in
    let last : AreLastStates image A (k + 1) (seen_at image A count) = subst L here (last_is_shown image A k within) in
    let memory = memory_of (state_with_arrivals A count last.state).core in
    let told = shows.each A n count last.state s come below last.after last.enabled steps in
    let among : t < length image.tasks = omega (arith, own, same) in
    ap (λ (states : List TaskState). get_or states t unused) last.tasks
    ∙ state_at_place memory (length image.tasks) t unused among ∙ told.task_states t own
