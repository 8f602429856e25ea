-- Counters that are due: until their tick, and none in front of a service.
use Rattle.std.proofs.Common.{◌≡◌, ◌∙◌, ℕ, ◌<◌, ◌||◌, List, [], ◌∷◌, Bool, true, false, Some, length, refl, sym, ap, subst}
use Rattle.std.specs.List.{AllByRecursion}
use Rattle.std.proofs.lemmas.Bool.{false≢true, true≢false}
use Rattle.std.proofs.lemmas.List.{get_or-set_same}
use Rattle.sloth_base.specs.Options.{is_number}
use Rattle.sloth_base.specs.declared.config.Config.{Config}
use Rattle.sloth_base.specs.declared.app.App.{App}
use Rattle.sloth_base.specs.declared.service.Event.{Event}
use Rattle.sloth_base.specs.declared.service.Event.TheVariants as event
use Rattle.sloth_base.specs.declared.service.Service.{Service}
use Rattle.sloth_base.specs.Events.{served_task}
use Rattle.osek_scheduler.specs.InTime.{is_admit}
use Rattle.osek_scheduler.specs.Outcomes.{decision}
use Rattle.osek_scheduler.specs.Priority.{NoTicks}
use Rattle.osek_scheduler.specs.Services.{ServiceOutcome}
use Rattle.osek_scheduler.specs.declared.state.Counter.{Counter}
use Rattle.osek_scheduler.specs.State.{System, no_counter, counter}
use Rattle.osek_scheduler.specs.Steps.{OsekStep, IsServiceStep}
use Rattle.osek_scheduler.proofs.Going.{at_set}
use Rattle.osek_scheduler.proofs.Outcomes.{KeptByOthers, outcome_keeps_all}
use Rattle.osek_scheduler.proofs.ServiceStates.{IsAfter}
use Rattle.run_counts.specs.Stages.{Stage, end_of}
use Rattle.run_counts.specs.Rounds.{is_left}
use Rattle.run_counts.proofs.StepCases.{clock_behind}
use Rattle.response_laws.specs.Turns.{ticking_counter, is_counter}
use Rattle.response_laws.proofs.Linked.{Known, Linked, last_state}
use Rattle.response_laws.proofs.Steps.{tick_of_other}

-- what comes, and is no counter's arrival, is made
pub made_alone : (made arrives : Bool) → arrives ≡ false → (made || arrives) ≡ true → made ≡ true
made_alone true arrives none comes = refl
made_alone false true none comes = absurd (true≢false none)
made_alone false false none comes = comes

module _ (config : Config) (app : App) (c : ℕ) where
  abbrev pub IsOn : System → Type 0
  IsOn x = (counter x c).due ≡ true

  abbrev pub NoTick : Event → Type 0
  NoTick e = is_number c (ticking_counter e) ≡ false

  besides : KeptByOthers IsOn
  besides = record { activates = λ x t on. on; sets = λ x t events on. on; stores = λ x symbols on. on; sets_alarms = λ x a new on. on }

  answered : (t : ℕ) (served : Service) (s : System) (answer : ServiceOutcome) → IsOn s → IsServiceStep config app t served s answer → IsAfter IsOn answer
  answered t served s answer on h =
      subst (IsAfter IsOn) h.is (outcome_keeps_all IsOn besides t s (λ new. on) (decision config served h.call.object h.call.mask t s))

  -- a counter that is due stays so until its tick
  stays_on : (e : Event) (s next : System) → OsekStep config app e s next → NoTick e → IsOn s → IsOn next
  stays_on e s next step no_tick due =
      clock_behind config app NoTick IsOn s
      (record {
        apart = λ x tasks symbols fresh on. on;
        same = λ started _. due;
        serves = λ t served answer h on. answered t served s answer on h;
        dues = λ d _ on. at_set s.clock.counters d c (record (counter s d) { due = true }) no_counter (λ (k : Counter). k.due ≡ true) on (λ _. refl);
        ticks = λ d off on. tick_of_other config app c s d off ∙ on;
      })
      e next step no_tick

  pub on_along : (at : ℕ) (s : System) (xs : List Stage) → Linked at s xs → AllByRecursion (Known config app) xs → AllByRecursion (λ x. NoTick x.stamped.event) xs → IsOn s
      → IsOn (last_state s xs)
  on_along at s [] l k none due = due
  on_along at s (x ∷ xs) l k none due =
      on_along (end_of x) x.next xs l.2 k.1 none.1 (stays_on x.stamped.event x.found x.next k.0.step none.0 (subst IsOn (sym l.1) due))

  -- an arrival makes it due
  pub arrived : (x : Stage) → Known config app x → x.stamped.event ≡ event.Due c → IsOn x.next × (c < length config.counters)
  arrived x k is = by x.stamped.event k.step is
    where
      by : (e : Event) → OsekStep config app e x.found x.next → e ≡ event.Due c → IsOn x.next × (c < length config.counters)
      by e step same =
          let due = subst (λ v. OsekStep config app v x.found x.next) same step in (
            subst IsOn (sym due.2)
                (ap (λ (k : Counter). k.due)
                (get_or-set_same x.found.clock.counters c (record (counter x.found c) { due = true }) no_counter (subst (λ n. c < n) (sym k.valid.clock.counters) due.1))),
            due.1,
          )

-- an admission is no tick
no_tick_of : (c : ℕ) (e : Event) → is_admit (record { event = e; stamp = record { from = 0; at = 0 } }) ≡ true → is_number c (ticking_counter e) ≡ false
no_tick_of c (event.Tick d) is = absurd (false≢true is)
no_tick_of c e is = refl

module _ (config : Config) (app : App) where
  no_ticks_of : (c : ℕ) (xs : List Stage) → AllByRecursion (λ x. is_admit x.stamped ≡ true) xs → AllByRecursion (λ x. is_number c (ticking_counter x.stamped.event) ≡ false) xs
  no_ticks_of c [] admits = tt
  no_ticks_of c (x ∷ xs) admits = (no_tick_of c x.stamped.event admits.0, no_ticks_of c xs admits.1)

  -- of admissions behind which no counter is due none is a counter's
  pub calm_group : (at : ℕ) (s : System) (xs : List Stage) → Linked at s xs → AllByRecursion (Known config app) xs → AllByRecursion (λ x. is_admit x.stamped ≡ true) xs
      → NoTicks config (last_state s xs) → AllByRecursion (λ x. is_counter x.stamped.event ≡ false) xs
  calm_group at s [] l k admits calm = tt
  calm_group at s (x ∷ xs) l k admits calm = (by x.stamped.event refl, calm_group (end_of x) x.next xs l.2 k.1 admits.1 calm)
    where
      by : (e : Event) → x.stamped.event ≡ e → is_counter e ≡ false
      by (event.Due c) is =
          let due = arrived config app c x k.0 is in
          absurd (true≢false (sym (on_along config app c (end_of x) x.next xs l.2 k.1 (no_ticks_of c xs admits.1) due.0) ∙ calm c due.1))
      by e is = refl

  -- none is due in front of a service
  pub served_calm : (x : Stage) (t : ℕ) → OsekStep config app x.stamped.event x.found x.next → served_task x.stamped.event ≡ Some t → NoTicks config x.found
  served_calm x t = by x.stamped.event
    where
      by : (e : Event) → OsekStep config app e x.found x.next → served_task e ≡ Some t → NoTicks config x.found
      by (event.Call u served status) step is = step.1.1.top.no_ticks
      by (event.Left u served) step is = step.1.1.top.no_ticks
      by e step is = absurd cc

  pub left_calm : (x : Stage) (h : ℕ) → OsekStep config app x.stamped.event x.found x.next → is_left h x.stamped.event ≡ true → NoTicks config x.found
  left_calm x h = by x.stamped.event
    where
      by : (e : Event) → OsekStep config app e x.found x.next → is_left h e ≡ true → NoTicks config x.found
      by (event.Left u served) step is = step.1.1.top.no_ticks
      by e step is = absurd (false≢true is)
