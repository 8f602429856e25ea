-- What a tick of a counter keeps: each fact that its parts keep.
use Rattle.std.proofs.Common.{◌≡◌, ℕ, suc, ◌+◌, ◌-◌, ◌<◌, ◌==◌, List, [], ◌∷◌, cond, length, get_or, sym, subst, arith}
use Rattle.std.proofs.lemmas.Bool.{cond_both}
use Rattle.sloth_base.specs.declared.config.Action.{Action}
use Rattle.sloth_base.specs.declared.config.Action.TheVariants as action
use Rattle.sloth_base.specs.declared.config.AlarmDecl.{AlarmDecl}
use Rattle.sloth_base.specs.declared.config.Config.{Config}
use Rattle.sloth_base.specs.Named.{counter_declaration, undeclared_alarm, alarm_declaration}
use Rattle.osek_scheduler.specs.declared.state.Counter.{Counter}
use Rattle.osek_scheduler.specs.State.{System, task, with_counter, alarm}
use Rattle.osek_scheduler.specs.Services.{activated_state, set_events, with_left, acted_state, alarm_ticked_state, alarms_ticked_state, counted_on_state, ticked_state}
use Rattle.osek_scheduler.proofs.Outcomes.{by_suspended, KeptByOthers, sets_keep}

-- a fact that each part of a tick keeps: the counter counts on, an alarm counts, and a declared alarm does its action
pub record KeptByParts (config : Config) (P : System → Type 0) : Type 0 where
  pub counts : (s : System) (c : ℕ) → c < length config.counters → P s → P (counted_on_state c (counter_declaration config c).max s)
  pub leaves : (s : System) (a left : ℕ) → P s → P (with_left a left s)
  pub acts : (s : System) (a : ℕ) → a < length config.alarms → P s → P (acted_state (alarm_declaration config a).action s)

module _ (P : System → Type 0) where
  -- what an activation and a setting of events keep is kept by each action
  pub acted_keeps : ((s : System) (t : ℕ) → P s → P (activated_state s t)) → ((s : System) (t mask : ℕ) → P s → P (set_events t mask s))
      → (s : System) (does : Action) → P s → P (acted_state does s)
  acted_keeps activates sets s (action.Activate t) h = by_suspended (task s t).state (activated_state s t) s P (λ _. activates s t h) (λ _. h)
  acted_keeps activates sets s (action.Set t mask) h = by_suspended (task s t).state s (set_events t mask s) P (λ _. h) (λ _. sets s t mask h)

  -- what plans keep besides the change of their caller, and a change of a counter keeps, each part of a tick keeps
  pub parts_kept : (config : Config) → KeptByOthers P → ((s : System) (c : ℕ) (new : Counter) → P s → P (with_counter s c new)) → KeptByParts config P
  parts_kept config k counts = record {
    counts = λ s c lt h. counts s c _ h;
    leaves = λ s a left h. k.sets_alarms s a (record (alarm s a) { left = left }) h;
    acts = λ s a lt. acted_keeps k.activates (sets_keep P k) s (alarm_declaration config a).action;
  }

  -- all alarms, from one on
  all_alarms : (c first : ℕ) (ds : List AlarmDecl) (s : System)
      → ((i : ℕ) (x : System) → i < length ds → P x → P (alarm_ticked_state (get_or ds i undeclared_alarm).action (first + i) x)) → P s
      → P (alarms_ticked_state c first ds s)
  all_alarms c first [] s each h = h
  all_alarms c first (d ∷ ds) s each h =
      let here : first + 0 ≡ first = omega arith in
      all_alarms c (first + 1) ds (cond (d.counter == c) (alarm_ticked_state d.action first s) s)
      (λ i x lt p.
      let there : first + suc i ≡ first + 1 + i = omega arith in
      subst (λ n. P (alarm_ticked_state (get_or ds i undeclared_alarm).action n x)) there (each (suc i) x (omega (arith, lt)) p))
      (cond_both (d.counter == c) (alarm_ticked_state d.action first s) s P
      (λ _. subst (λ n. P (alarm_ticked_state d.action n s)) here (each 0 s (omega arith) h)) (λ _. h))

  pub ticked_keeps : (config : Config) → KeptByParts config P → (s : System) (c : ℕ) → c < length config.counters → P s → P (ticked_state config c s)
  ticked_keeps config k s c lt h =
      all_alarms c 0 config.alarms (counted_on_state c (counter_declaration config c).max s)
      (λ i x inside p.
      let at : 0 + i ≡ i = omega arith in
      let does = (alarm_declaration config i).action in
      subst (λ n. P (alarm_ticked_state does n x)) (sym at)
      (cond_both ((alarm x i).left == 1) (acted_state does (with_left i (alarm x i).cycle x)) (with_left i ((alarm x i).left - 1) x) P
      (λ _. k.acts (with_left i (alarm x i).cycle x) i inside (k.leaves x i (alarm x i).cycle p)) (λ _. k.leaves x i ((alarm x i).left - 1) p)))
      (k.counts s c lt h)
