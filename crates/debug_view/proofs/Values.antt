-- The values of formulas over memory and controller.
use Rattle.std.proofs.Common.{◌≡◌, ℕ, ◌<◌, ◌==◌, Bool, true, false, cond, refl, ap, ◌∙◌}
use Rattle.std.specs.Prelude.{slice_index, if◌then◌else◌}
use Rattle.sloth_base.specs.Limits.{task_limit}
use Rattle.sloth_region.specs.Layout.{active, alarm_left, enabled_byte, wait}
use Rattle.rv32_instr.specs.Memory.{Memory}
use Rattle.rv32_instr.specs.Ram.{word_at}
use Rattle.osek_scheduler.specs.Priority.{is_active}
use Rattle.osek_scheduler.specs.declared.state.TaskState.{TaskState}
use Rattle.osek_scheduler.specs.declared.state.TaskState.TheVariants as mode
use Rattle.sloth_inspect.specs.States.{state_in}
use Rattle.orti_text.specs.Formulas.{Formula, value}
use Rattle.orti_text.specs.Values.{byte, entered_formula, wait_formula, where_in_use, word}
use Rattle.orti_text.proofs.ByState.{enabled_value, word_value}
use Rattle.debug_view.specs.RightValues.{awaited_events}

-- the state that three tests tell
abbrev told : (x y z : Bool) (mask : ℕ) → TaskState
told x y z mask = if x then mode.Active else if y then (if z then mode.Ready else mode.Suspended) else mode.Waiting mask

waits : (x y z : Bool) (mask : ℕ) → cond (cond x 1 0 == 0) (cond (cond y 1 0 == 0) mask 0) 0 ≡ awaited_events (told x y z mask)
waits true y z mask = refl
waits false true true mask = refl
waits false true false mask = refl
waits false false z mask = refl

enters : (x y z : Bool) (mask : ℕ) → ◌≡◌ {A = ℕ} (cond (cond x 1 0 == 0) 0 1) (cond (is_active (told x y z mask)) 1 0)
enters true y z mask = refl
enters false true true mask = refl
enters false true false mask = refl
enters false false z mask = refl

module _ (m : Memory) (t : ℕ) where
  pub wait_value : t < task_limit → value m (wait_formula t) ≡ awaited_events (state_in m t)
  unfolding state_in
  wait_value l =
      let P : ℕ → ℕ → ℕ → ℕ = λ x y w. cond (cond (x == 1) 1 0 == 0) (cond (cond (y == 1) 1 0 == 0) w 0) 0 in
      ap (λ x. P x (value m (byte (enabled_byte t))) (value m (word (wait t)))) (word_value m (active t))
      ∙ ap (λ y. P (word_at m.ram (active t)) y (value m (word (wait t)))) (enabled_value m t l)
      ∙ ap (λ w. P (word_at m.ram (active t)) (slice_index m.lines.enabled t) w) (word_value m (wait t))
      ∙ waits (word_at m.ram (active t) == 1) (slice_index m.lines.enabled t == 1) (slice_index m.lines.pending t == 1) (word_at m.ram (wait t))

  pub entered_value : value m (entered_formula t) ≡ cond (is_active (state_in m t)) 1 0
  unfolding state_in
  entered_value =
      ap (λ x. cond (cond (x == 1) 1 0 == 0) 0 1) (word_value m (active t))
      ∙ enters (word_at m.ram (active t) == 1) (slice_index m.lines.enabled t == 1) (slice_index m.lines.pending t == 1) (word_at m.ram (wait t))

in_use : (x : Bool) (n : ℕ) → cond (cond x 1 0 == 0) n 0 ≡ cond x 0 n
in_use true n = refl
in_use false n = refl

pub in_use_value : (m : Memory) (a : ℕ) (f : Formula) → value m (where_in_use a f) ≡ cond (word_at m.ram (alarm_left a) == 0) 0 (value m f)
in_use_value m a f =
    ap (λ left. cond (cond (left == 0) 1 0 == 0) (value m f) 0) (word_value m (alarm_left a)) ∙ in_use (word_at m.ram (alarm_left a) == 0) (value m f)
