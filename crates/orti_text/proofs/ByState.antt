-- What a formula by state gives.
use Rattle.std.proofs.Common.{◌≡◌, ◌∙◌, ℕ, ◌+◌, ◌-◌, ◌<◌, ◌==◌, Bool, true, false, cond, arith, refl, ap}
use Rattle.std.specs.Prelude.{nat_lt, slice_index}
use Rattle.std.proofs.lemmas.Bool.{le-ltb, lt-ltb}
use Rattle.sloth_base.specs.Lines.{Lines, controller_byte}
use Rattle.sloth_base.specs.Limits.{task_limit}
use Rattle.sloth_base.specs.MemoryMap.{controller_base, memory_base}
use Rattle.sloth_region.specs.Layout.{active, enabled_byte, pending_byte, wait}
use Rattle.rv32_instr.specs.Memory.{Memory}
use Rattle.rv32_instr.specs.Ram.{word_at}
use Rattle.osek_scheduler.specs.declared.state.TaskState.TheVariants as mode
use Rattle.sloth_inspect.specs.States.{state_in}
use Rattle.orti_text.specs.ByState.{ValuesByState, formula_of_state}
use Rattle.orti_text.specs.Formulas.{Formula, value}
use Rattle.orti_text.specs.Values.{byte, word}

-- ---- places

pub word_value : (m : Memory) (offset : ℕ) → value m (word offset) ≡ word_at m.ram offset
word_value m offset = let e : memory_base + offset - memory_base ≡ offset = omega arith in ap (word_at m.ram) e

pending_at : (lines : Lines) (t : ℕ) → t < task_limit → controller_byte lines t ≡ slice_index lines.pending t
unfolding controller_byte
pending_at lines t h = let a : nat_lt t 32 ≡ true = lt-ltb t 32 (omega (arith, h)) in rw a refl

enabled_at : (lines : Lines) (t : ℕ) → t < task_limit → controller_byte lines (32 + t) ≡ slice_index lines.enabled t
unfolding controller_byte
enabled_at lines t h =
    let a : nat_lt (32 + t) 32 ≡ false = le-ltb (32 + t) 32 (omega arith) in
    let b : nat_lt (32 + t) 64 ≡ true = lt-ltb (32 + t) 64 (omega (arith, h)) in
    let e : 32 + t - 32 ≡ t = omega arith in
    rw (a, b) (ap (slice_index lines.enabled) e)

pub pending_value : (m : Memory) (t : ℕ) → t < task_limit → value m (byte (pending_byte t)) ≡ slice_index m.lines.pending t
pending_value m t h =
    let e : controller_base + t - controller_base ≡ t = omega arith in ap (controller_byte m.lines) e ∙ pending_at m.lines t h

pub enabled_value : (m : Memory) (t : ℕ) → t < task_limit → value m (byte (enabled_byte t)) ≡ slice_index m.lines.enabled t
enabled_value m t h =
    let e : controller_base + (32 + t) - controller_base ≡ 32 + t = omega arith in ap (controller_byte m.lines) e ∙ enabled_at m.lines t h

-- ---- the four states

module _ (m : Memory) (t : ℕ) (a r s w : Formula) where
  -- what three tests choose
  abbrev chosen : Bool → Bool → Bool → ℕ
  chosen x y z =
      cond (cond x 1 0 == 0) (cond (cond y 1 0 == 0) (value m w) (cond (cond z 1 0 == 0) (value m s) (value m r))) (value m a)

  by_tests : (x y z : Bool) (mask : ℕ)
      → chosen x y z ≡ value m (formula_of_state (cond x mode.Active (cond y (cond z mode.Ready mode.Suspended) (mode.Waiting mask))) a r s w)
  by_tests true y z mask = refl
  by_tests false true true mask = refl
  by_tests false true false mask = refl
  by_tests false false z mask = refl

  in_state : chosen (word_at m.ram (active t) == 1) (slice_index m.lines.enabled t == 1) (slice_index m.lines.pending t == 1)
      ≡ value m (formula_of_state (state_in m t) a r s w)
  unfolding state_in
  in_state =
      by_tests (word_at m.ram (active t) == 1) (slice_index m.lines.enabled t == 1) (slice_index m.lines.pending t == 1) (word_at m.ram (wait t))

pub values_by_state : ValuesByState
values_by_state m t a r s w h =
    let P : ℕ → ℕ → ℕ → ℕ = λ x y z. chosen m t a r s w (x == 1) (y == 1) (z == 1) in
    ap (λ x. P x (value m (byte (enabled_byte t))) (value m (byte (pending_byte t)))) (word_value m (active t))
    ∙ ap (λ y. P (word_at m.ram (active t)) y (value m (byte (pending_byte t)))) (enabled_value m t h)
    ∙ ap (λ z. P (word_at m.ram (active t)) (slice_index m.lines.enabled t) z) (pending_value m t h)
    ∙ in_state m t a r s w
