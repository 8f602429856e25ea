-- What a task that works spends with an event is at most the weight of the item at which it stands.
use Rattle.std.proofs.Common.{◌≡◌, ◌∙◌, ℕ, ◌-◌, ◌≤◌, ◌⊎◌, List, [], ◌∷◌, true, false, cond, is_some, refl, sym, ap, subst, arith, inl, inr, Some}
use Rattle.std.proofs.lemmas.Bool.{cases_Bool}
use Rattle.std.proofs.lemmas.Option.{same_Some}
use Rattle.sloth_base.specs.declared.config.Config.{Config}
use Rattle.sloth_base.specs.declared.app.App.{App}
use Rattle.sloth_base.specs.declared.service.Event.{Event}
use Rattle.sloth_base.specs.declared.service.Event.TheVariants as event
use Rattle.sloth_base.specs.declared.service.Stamped.{Stamped}
use Rattle.sloth_base.specs.declared.service.Service.{Service}
use Rattle.sloth_base.specs.declared.service.Service.TheVariants as service
use Rattle.sloth_base.specs.Events.{admitted_line, is_boot, working_task}
use Rattle.sloth_base.specs.Named.{operation}
use Rattle.osek_scheduler.specs.State.{Frame, System, task}
use Rattle.osek_scheduler.specs.InTime.{is_admit}
use Rattle.osek_scheduler.specs.Steps.{OsekStep}
use Rattle.osek_scheduler.specs.Runs.{AreStepsTo}
use Rattle.osek_blocking.specs.Kept.{is_lower, lower_events}
use Rattle.osek_blocking.specs.Spent.{spent_counts}
use Rattle.osek_blocking.proofs.Stepping.{position_of}
use Rattle.bound_rules.specs.declared.bound.BodyWeights.{BodyWeights}
use Rattle.bound_rules.specs.Weights.{going_weight}
use Rattle.walk_sums.specs.Weights.{going_at}
use Rattle.sim_induction.specs.Events.{call_counts}
use Rattle.sim_induction.specs.Items.{served_counts, going_counts}
use Rattle.sim_induction.specs.Pace.{ItemSizes, next_size, next_size_of, paced_counts}
use Rattle.sim_induction.specs.Paced.{GoesInPace, ArePacedTo}
use Rattle.run_counts.specs.Spending.{WeighsItems}

-- what is in pace leads on
pub paced_leads : (config : Config) (app : App) (size : ItemSizes) (longest at : ℕ) (events : List Stamped) (s end : System) → ArePacedTo config app size longest at events s end
    → AreStepsTo config app events s end
paced_leads config app size longest at [] s end h = h
paced_leads config app size longest at (e ∷ events) s end h = (h.0, h.2, paced_leads config app size longest (cond (is_admit e) at e.stamp.at) events h.0 end h.3)

-- where no event is a lower task's nothing is spent on one
pub spent_none : (config : Config) (h at : ℕ) (events : List Stamped) → lower_events config h events ≡ 0 → spent_counts config h at events ≡ 0
spent_none config h at [] none = refl
spent_none config h at (e ∷ events) none = by (cases_Bool (is_lower config h (working_task e.event))) (spent_none config h (cond (is_admit e) at e.stamp.at) events)
  where
    by : (is_lower config h (working_task e.event) ≡ true) ⊎ (is_lower config h (working_task e.event) ≡ false)
        → (lower_events config h events ≡ 0 → spent_counts config h (cond (is_admit e) at e.stamp.at) events ≡ 0) → spent_counts config h at (e ∷ events) ≡ 0
    by (inl is) again = let one = ap {B = ℕ} (λ b. cond b 1 0) is in absurd (omega (arith, none, one))
    by (inr other) again =
        let front = ap (λ b. cond b (e.stamp.at - at) 0) other in
        let rest = again (omega (arith, none)) in
        omega (arith, front, rest)

-- a service that goes on takes no more than its item counts for it
call_few : (served : Service) → call_counts served ≤ served_counts served
call_few service.ChainTask = omega arith
call_few service.Schedule = omega arith
call_few served = omega arith

-- a task's work is no admission and no boot
works_facts : (what : Event) (t : ℕ) → working_task what ≡ Some t → (is_some (admitted_line what) ≡ false) × (is_boot what ≡ false)
works_facts (event.Run t func item result) u is = (refl, refl)
works_facts (event.Call t served status) u is = (refl, refl)
works_facts what u is = absurd cc

module _ (config : Config) (app : App) (size : ItemSizes) (longest : ℕ) (weights : List BodyWeights) (weighs : WeighsItems app size weights) where
  -- what an event of a task that works may take is within the weight of its item
  pub event_fits : (what : Event) (s next : System) (t : ℕ) → OsekStep config app what s next → working_task what ≡ Some t
      → paced_counts config app size longest s what ≤ going_at weights (position_of (task s t).frames)
  event_fits (event.Run t func item result) s next u step is =
      let at = step.1.at in
      let same : size func item ≡ size at.frame.func at.frame.item = ap (λ f. size f item) (sym step.1.in_function) ∙ ap (λ i. size at.frame.func i) (sym step.1.at_item) in
      let weight = weighs.item at.frame.func at.frame.item at.inside in
      let place : going_at weights (position_of (task s t).frames) ≡ going_weight weights at.frame.func at.frame.item = ap (λ (fs : List Frame). going_at weights (position_of fs)) at.frames in
      subst (λ v. paced_counts config app size longest s (event.Run t func item result) ≤ going_at weights (position_of (task s v).frames)) (same_Some t u is)
      (omega (arith, same, weight, place))
  event_fits (event.Call t served status) s next u step is =
      let call = step.1.1 in
      let at = call.at in
      let next_is : next_size_of size (task s t) ≡ size at.frame.func at.frame.item =
      ap {B = ℕ} (λ b. cond b 0 (next_size size (task s t).frames)) at.free ∙ ap (next_size size) at.frames in
      let weight = weighs.item at.frame.func at.frame.item at.inside in
      let counts : going_counts (operation app at.frame.func at.frame.item) ≡ served_counts served = ap going_counts at.next ∙ ap served_counts call.same in
      let few = call_few served in
      let place : going_at weights (position_of (task s t).frames) ≡ going_weight weights at.frame.func at.frame.item = ap (λ (fs : List Frame). going_at weights (position_of fs)) at.frames in
      subst (λ v. paced_counts config app size longest s (event.Call t served status) ≤ going_at weights (position_of (task s v).frames)) (same_Some t u is)
      (omega (arith, next_is, weight, counts, few, place))
  event_fits what s next u step is = absurd cc

  -- so what it spends is
  pub spends_at_most : (e : Stamped) (at : ℕ) (s next : System) (t : ℕ) → OsekStep config app e.event s next → working_task e.event ≡ Some t → GoesInPace config app size longest at s e
      → e.stamp.at - at ≤ going_at weights (position_of (task s t).frames)
  spends_at_most e at s next t step is goes =
      let facts = works_facts e.event t is in
      let soon = goes.ends facts.0 facts.1 in
      let fits = event_fits e.event s next t step is in
      omega (arith, soon, fits)
