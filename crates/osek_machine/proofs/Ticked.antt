-- A tick by changes is a tick.
use Rattle.std.proofs.Common.{◌≡◌, ◌∙◌, ℕ, suc, ◌+◌, ◌-◌, ◌<◌, ◌==◌, List, [], ◌∷◌, cond, length, get_or, refl, sym, ap, subst, arith}
use Rattle.std.proofs.lemmas.Bool.{cond_both}
use Rattle.std.proofs.lemmas.List.{length-set}
use Rattle.sloth_base.specs.declared.config.Action.{Action}
use Rattle.sloth_base.specs.declared.config.Action.TheVariants as action
use Rattle.sloth_base.specs.declared.config.AlarmDecl.{AlarmDecl}
use Rattle.sloth_base.specs.declared.config.Config.{Config}
use Rattle.sloth_base.specs.Named.{counter_declaration, undeclared_alarm, alarm_declaration}
use Rattle.osek_scheduler.specs.State.{System, task, alarm}
use Rattle.osek_scheduler.specs.Services.{if_suspended, with_left, acted_state, alarm_ticked_state, alarms_ticked_state, ticked_state, counted_on_state}
use Rattle.osek_scheduler.proofs.Outcomes.{by_suspended}
use Rattle.osek_scheduler.specs.declared.change.TaskChange.TheVariants as change
use Rattle.osek_machine.specs.Clocked.{NamesTask}
use Rattle.osek_scheduler.specs.Changes.{with_change}
use Rattle.osek_machine.specs.Ticks.{acted_system, alarm_ticked_system, alarms_ticked_system, ticked_system}
use Rattle.osek_machine.proofs.Follows.{events-set}

acted-same : (n : ℕ) (does : Action) (s : System) → length s.tasks ≡ n → NamesTask n does → acted_system does s ≡ acted_state does s
acted-same n (action.Activate t) s count lt = refl
acted-same n (action.Set t mask) s count lt =
    let inside : t < length s.tasks = subst (λ m. t < m) (sym count) lt in
    ap (λ (x : System). if_suspended (task s t).state s x) (sym (events-set s t mask inside))

acted-count : (does : Action) (s : System) → length (acted_system does s).tasks ≡ length s.tasks
acted-count (action.Activate t) s =
    by_suspended (task s t).state (with_change t change.Activate s) s (λ (x : System). length x.tasks ≡ length s.tasks) (λ _. length-set s.tasks t _) (λ _. refl)
acted-count (action.Set t mask) s =
    by_suspended (task s t).state s (with_change t (change.AddEvents mask) s) (λ (x : System). length x.tasks ≡ length s.tasks) (λ _. refl) (λ _. length-set s.tasks t _)

acted-alarms : (does : Action) (s : System) → length (acted_system does s).clock.alarms ≡ length s.clock.alarms
acted-alarms (action.Activate t) s =
    by_suspended (task s t).state (with_change t change.Activate s) s (λ (x : System). length x.clock.alarms ≡ length s.clock.alarms) (λ _. refl) (λ _. refl)
acted-alarms (action.Set t mask) s =
    by_suspended (task s t).state s (with_change t (change.AddEvents mask) s) (λ (x : System). length x.clock.alarms ≡ length s.clock.alarms) (λ _. refl) (λ _. refl)

module _ (n : ℕ) (does : Action) (a : ℕ) (s : System) where
  one-same : length s.tasks ≡ n → NamesTask n does → alarm_ticked_system does a s ≡ alarm_ticked_state does a s
  one-same count names =
      ap (λ (x : System). cond ((alarm s a).left == 1) x (with_left a ((alarm s a).left - 1) s)) (acted-same n does (with_left a (alarm s a).cycle s) count names)

  pub one-count : length (alarm_ticked_system does a s).tasks ≡ length s.tasks
  one-count =
      cond_both ((alarm s a).left == 1) (acted_system does (with_left a (alarm s a).cycle s)) (with_left a ((alarm s a).left - 1) s) (λ (x : System). length x.tasks ≡ length s.tasks)
      (λ _. acted-count does (with_left a (alarm s a).cycle s)) (λ _. refl)

  pub one-alarms : length (alarm_ticked_system does a s).clock.alarms ≡ length s.clock.alarms
  one-alarms =
      cond_both ((alarm s a).left == 1) (acted_system does (with_left a (alarm s a).cycle s)) (with_left a ((alarm s a).left - 1) s)
      (λ (x : System). length x.clock.alarms ≡ length s.clock.alarms)
      (λ _. acted-alarms does (with_left a (alarm s a).cycle s) ∙ length-set s.clock.alarms a _) (λ _. length-set s.clock.alarms a _)

all-same : (n c first : ℕ) (ds : List AlarmDecl) (s : System) → length s.tasks ≡ n → ((i : ℕ) → i < length ds → NamesTask n (get_or ds i undeclared_alarm).action)
    → alarms_ticked_system c first ds s ≡ alarms_ticked_state c first ds s
all-same n c first [] s count names = refl
all-same n c first (d ∷ ds) s count names =
    let next = cond (d.counter == c) (alarm_ticked_system d.action first s) s in
    all-same n c (first + 1) ds next
    (cond_both (d.counter == c) (alarm_ticked_system d.action first s) s (λ (x : System). length x.tasks ≡ n) (λ _. one-count n d.action first s ∙ count) (λ _. count))
    (λ i lt. names (suc i) (omega (arith, lt)))
    ∙ ap (λ (x : System). alarms_ticked_state c (first + 1) ds (cond (d.counter == c) x s)) (one-same n d.action first s count (names 0 (omega arith)))

pub ticked-same : (config : Config) (c : ℕ) (s : System) → length s.tasks ≡ length config.tasks
    → ((a : ℕ) → a < length config.alarms → NamesTask (length config.tasks) (alarm_declaration config a).action) → ticked_system config c s ≡ ticked_state config c s
ticked-same config c s count names =
    all-same (length config.tasks) c 0 config.alarms (counted_on_state c (counter_declaration config c).max s) count names
