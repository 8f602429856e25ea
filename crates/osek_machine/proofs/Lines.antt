-- Rows of the lines of tasks and counters.
use Rattle.std.proofs.Common.{◌≡◌, ◌∙◌, ℕ, ◌+◌, ◌-◌, ◌*◌, ◌%◌, ◌^◌, ◌<◌, ◌≤◌, ◌⊎◌, inl, inr, Bool, true, false, cond, length, sym, ap, subst, arith, bit_or}
use Rattle.std.specs.Prelude.{◌&&◌, ◌||◌, ltb}
use Rattle.std.specs.Int.{bit_at}
use Rattle.std.proofs.lemmas.Bool.{lt-ltb, le-ltb, le-leb, lt-leb, cases_lt}
use Rattle.std.proofs.Math.Bool.{or-false}
use Rattle.sloth_base.specs.declared.config.Config.{Config}
use Rattle.sloth_base.specs.Limits.{task_limit, counter_limit}
use Rattle.sloth_base.specs.Owners.{first_counter_line}
use Rattle.osek_scheduler.specs.State.{System, task, counter}
use Rattle.osek_scheduler.specs.Priority.{rank}
use Rattle.osek_scheduler.specs.Next.{is_ready}
use Rattle.osek_machine.specs.Above.{is_above, is_due_line, is_line_above}
use Rattle.osek_machine.proofs.Row.{Row, row_set, row_kept}

abbrev one_bit : Bool → ℕ
one_bit b = cond b 1 0

module _ (config : Config) (s : System) (t : ℕ) (few : length config.tasks ≤ task_limit) where
  abbrev test : ℕ → Bool
  test = is_line_above config s t

  -- no task has the line of a counter
  no_task : (v : ℕ) → first_counter_line ≤ v → is_above config s t v ≡ false
  no_task v ge = ap (λ b. b && (is_ready (task s v).state && ltb (rank config s t) (rank config s v))) (le-ltb v (length config.tasks) (omega (arith, ge, few)))

  -- no counter has one of the other lines
  no_counter_line : (v : ℕ) → v < task_limit → test v ≡ is_above config s t v
  no_counter_line v lt =
      ap (λ b. is_above config s t v || ((b && ltb (v - first_counter_line) (length config.counters)) && (counter s (v - first_counter_line)).due)) (lt-leb first_counter_line v lt)
      ∙ or-false (is_above config s t v)

  at_counter : (v : ℕ) → first_counter_line ≤ v → test v ≡ (ltb (v - first_counter_line) (length config.counters) && (counter s (v - first_counter_line)).due)
  at_counter v ge =
      ap (λ b. b || is_due_line config s v) (no_task v ge)
      ∙ ap (λ b. (b && ltb (v - first_counter_line) (length config.counters)) && (counter s (v - first_counter_line)).due) (le-leb first_counter_line v ge)

  counter_tested : (c : ℕ) → c < length config.counters → test (first_counter_line + c) ≡ (counter s c).due
  counter_tested c lt =
      let e : first_counter_line + c - first_counter_line ≡ c = omega arith in
      at_counter (first_counter_line + c) (omega arith)
      ∙ (ap (λ n. ltb n (length config.counters) && (counter s n).due) e ∙ ap (λ b. b && (counter s c).due) (lt-ltb c (length config.counters) lt))

  pub tasks_row : (row : ℕ) → ((v : ℕ) → bit_at row v ≡ cond (is_above config s t v) 1 0) → Row test first_counter_line row
  tasks_row row h v = h v ∙ by (cases_lt v first_counter_line)
    where
      by : (v < task_limit) ⊎ (first_counter_line ≤ v) → one_bit (is_above config s t v) ≡ one_bit (ltb v first_counter_line && test v)
      by (inl lt) = ap one_bit (sym (ap (λ b. b && test v) (lt-ltb v first_counter_line lt) ∙ no_counter_line v lt))
      by (inr ge) = ap one_bit (no_task v ge ∙ sym (ap (λ b. b && test v) (le-ltb v first_counter_line ge)))

  module _ (c row : ℕ) (h : Row test (first_counter_line + c) row) where
    onward : (new : ℕ) → Row test (first_counter_line + c + 1) new → Row test (first_counter_line + (c + 1)) new
    onward new r = let e : first_counter_line + c + 1 ≡ first_counter_line + (c + 1) = omega arith in subst (λ n. Row test n new) e r

    pub counter_set : length config.counters ≤ counter_limit → c < length config.counters → (counter s c).due ≡ true
        → Row test (first_counter_line + (c + 1)) (bit_or row (1 * 2 ^ (first_counter_line + c) % 2 ^ 32))
    counter_set small lt due =
        onward (bit_or row (1 * 2 ^ (first_counter_line + c) % 2 ^ 32)) (row_set test (first_counter_line + c) row h (omega (arith, small, lt)) (counter_tested c lt ∙ due))

    pub counter_kept : c < length config.counters → (counter s c).due ≡ false → Row test (first_counter_line + (c + 1)) row
    counter_kept lt due = onward row (row_kept test (first_counter_line + c) row h (counter_tested c lt ∙ due))

    -- behind the last counter the row has all lines
    pub whole_row : length config.counters ≤ c → (v : ℕ) → bit_at row v ≡ cond (test v) 1 0
    whole_row all v = h v ∙ by (cases_lt v (first_counter_line + c))
      where
        by : (v < task_limit + c) ⊎ (first_counter_line + c ≤ v) → one_bit (ltb v (first_counter_line + c) && test v) ≡ one_bit (test v)
        by (inl lt) = ap (λ b. one_bit (b && test v)) (lt-ltb v (first_counter_line + c) lt)
        by (inr ge) =
            let past = ap (λ b. b && (counter s (v - first_counter_line)).due) (le-ltb (v - first_counter_line) (length config.counters) (omega (arith, all, ge))) in
            ap (λ b. one_bit (b && test v)) (le-ltb v (first_counter_line + c) ge) ∙ sym (ap one_bit (at_counter v (omega (arith, ge)) ∙ past))
