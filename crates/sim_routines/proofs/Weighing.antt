-- The stretch of a service takes no more than its weight, whichever event it is.
use Rattle.std.proofs.Common.{◌≡◌, ℕ, suc, ◌+◌, ◌≤◌, List, Bool, true, false, cond, sym, subst, Option, Some, None, is_some}
use Rattle.std.specs.Prelude.{◌==◌, not, slice_index}
use Rattle.sloth_base.specs.declared.app.App.{App}
use Rattle.sloth_base.specs.declared.config.Config.{Config}
use Rattle.sloth_base.specs.declared.service.Event.TheVariants as event
use Rattle.sloth_base.specs.declared.service.Service.{Service}
use Rattle.sloth_base.specs.Machine.{State}
use Rattle.sloth_region.specs.Layout.{cur}
use Rattle.rv32_instr.specs.Ram.{word_at}
use Rattle.sim_induction.specs.Events.{call_counts, left_counts, stretch_counts}
use Rattle.osek_scheduler.specs.State.{System}
use Rattle.osek_scheduler.specs.Services.{ServiceOutcome, GoesOn, Leaves}
use Rattle.osek_scheduler.specs.Outcomes.{Decision, planned_system, shown_outcome, outcome_of, decision}
use Rattle.osek_scheduler.specs.Steps.{OsekStep}
use Rattle.osek_scheduler.proofs.AllPlans.{all_plans}
use Rattle.osek_scheduler.proofs.Outcomes.{on_tested, on_outcome}
use Rattle.sim_induction.specs.PieceLaws.{served_event}
use Rattle.sim_induction.proofs.Stretched.{shows_left}
use Rattle.sim_relation.specs.Build.{Build}
use Rattle.sim_routines.specs.Served.{IsServiceAnswer}

-- the caller goes on, or leaves
abbrev IsCall : ServiceOutcome → Type 0
IsCall (GoesOn status after) = Unit {0}
IsCall (Leaves after) = ⊥

abbrev IsLeft : ServiceOutcome → Type 0
IsLeft (GoesOn status after) = ⊥
IsLeft (Leaves after) = Unit {0}

shown_call : (answer : Option ℕ) (after : System) → is_some answer ≡ true → IsCall (shown_outcome answer after)
shown_call (Some status) after e = tt
shown_call None after e = absurd (cc)

shown_left : (answer : Option ℕ) (after : System) → not (is_some answer) ≡ true → IsLeft (shown_outcome answer after)
shown_left (Some status) after e = absurd (cc)
shown_left None after e = tt

goes_on : (t : ℕ) (s : System) (d : Decision) → all_plans (λ p. is_some p.answer) d ≡ true → IsCall (outcome_of t s d)
goes_on t s d all =
    on_outcome IsCall t s d
    (on_tested s (λ p. IsCall (shown_outcome p.answer (planned_system t p s))) (λ p. is_some p.answer) (λ p e. shown_call p.answer (planned_system t p s) e) d all)

leaves : (t : ℕ) (s : System) (d : Decision) → all_plans (λ p. not (is_some p.answer)) d ≡ true → IsLeft (outcome_of t s d)
leaves t s d all =
    on_outcome IsLeft t s d
    (on_tested s (λ p. IsLeft (shown_outcome p.answer (planned_system t p s))) (λ p. not (is_some p.answer)) (λ p e. shown_left p.answer (planned_system t p s) e) d all)

module _ (config : Config) (app : App) (t : ℕ) (served : Service) (most : ℕ) (s after : System) (status : ℕ) where
  abbrev what : Bool → Type 0
  what b = OsekStep config app (cond b (event.Call t served status) (event.Left t served)) s after

  abbrev fits : Bool → Type 0
  fits b = suc most ≤ stretch_counts config app s (cond b (event.Call t served status) (event.Left t served))

  call_fits : (b : Bool) → what b → suc most ≤ call_counts served → ((object mask : ℕ) → all_plans (λ p. is_some p.answer) (decision config served object mask t s) ≡ true) → fits b
  call_fits true step few all = few
  call_fits false step few all =
      let is = step.1.1 in
      absurd (subst IsCall is.is (goes_on t s (decision config served is.call.object is.call.mask t s) (all is.call.object is.call.mask)))

  left_fits : (b : Bool) → what b → suc most ≤ left_counts served → ((object mask : ℕ) → all_plans (λ p. not (is_some p.answer)) (decision config served object mask t s) ≡ true) → fits b
  left_fits true step few all =
      let is = step.1.1 in
      absurd (subst IsLeft is.is (leaves t s (decision config served is.call.object is.call.mask t s) (all is.call.object is.call.mask)))
  left_fits false step few all = few

  both_fit : (b : Bool) → suc most ≤ call_counts served → suc most ≤ left_counts served → fits b
  both_fit true call left = call
  both_fit false call left = left

module _ (b : Build) (t : ℕ) (served : Service) (most : ℕ) (s : System) (touched : List ℕ) (end : State) where
  -- of a service behind which its caller goes on
  pub call_within : suc most ≤ call_counts served → ((object mask : ℕ) → all_plans (λ p. is_some p.answer) (decision b.config served object mask t s) ≡ true)
      → IsServiceAnswer b s t served touched end → suc most ≤ stretch_counts b.config b.app s (served_event t served end)
  call_within few all answer =
      call_fits b.config b.app t served most s answer.after (slice_index end.core.registers 10) (t + 1 == word_at end.core.ram 0) answer.step_is few all

  -- of one with which its caller leaves
  pub left_within : suc most ≤ left_counts served → ((object mask : ℕ) → all_plans (λ p. not (is_some p.answer)) (decision b.config served object mask t s) ≡ true)
      → IsServiceAnswer b s t served touched end → suc most ≤ stretch_counts b.config b.app s (served_event t served end)
  left_within few all answer =
      left_fits b.config b.app t served most s answer.after (slice_index end.core.registers 10) (t + 1 == word_at end.core.ram 0) answer.step_is few all

  -- of one that may do either, where it takes no more than the less of the two
  pub either_within : suc most ≤ call_counts served → suc most ≤ left_counts served → suc most ≤ stretch_counts b.config b.app s (served_event t served end)
  either_within call left = both_fit b.config b.app t served most s s (slice_index end.core.registers 10) (t + 1 == word_at end.core.ram 0) call left

  -- of one whose caller does not run any more
  pub gone_within : (word_at end.core.ram cur ≡ t + 1 → ⊥) → suc most ≤ left_counts served → suc most ≤ stretch_counts b.config b.app s (served_event t served end)
  gone_within gone few = subst (λ what. suc most ≤ stretch_counts b.config b.app s what) (sym (shows_left t served end gone)) few
