-- No round is above its work exactly where the run keeps the `work` lines of the load.
use Rattle.std.proofs.Common.{◌≡◌, ◌∙◌, ◌<◌, ◌≤◌, ◌⊎◌, inl, inr, ℕ, zero, suc, Bool, true, false, cond, ⊎_elim, List, [], ◌∷◌, ◌++◌, length, Option, Some, None, refl, sym, ap, subst, arith, ltb}
use Rattle.std.specs.Prelude.{◌&&◌, ◌||◌, ◌==◌, IfSome}
use Rattle.std.proofs.lemmas.Bool.{false≢true, eqb-true, and_parts, cases_lt}
use Rattle.sloth_base.specs.declared.config.Config.{Config}
use Rattle.sloth_base.specs.declared.app.App.{App}
use Rattle.sloth_base.specs.declared.service.Event.{Event}
use Rattle.sloth_base.specs.declared.service.Event.TheVariants as event
use Rattle.sloth_base.specs.declared.service.Stamped.{Stamped}
use Rattle.load_text.specs.declared.load_line.Entry.{Entry}
use Rattle.load_text.specs.Loads.{work}
use Rattle.osek_scheduler.specs.State.{System, opening}
use Rattle.osek_scheduler.specs.Steps.{OsekStep}
use Rattle.osek_scheduler.specs.Runs.{AreStepsTo, OsekRun}
use Rattle.osek_scheduler.proofs.Leading.{follows_leads}
use Rattle.run_counts.specs.Stages.{Stage, own, is_entry, state_behind, end_of, stage, stages, run_stages}
use Rattle.run_counts.specs.Rounds.{goes_on_waiting, opens_round, round_of, total}
use Rattle.run_counts.proofs.Staged.{behind_is}
use Rattle.response_laws.specs.Works.{KeepsWork}
use Rattle.run_load.specs.Watched.{no_moments}
use Rattle.run_load.specs.Work.{above_limit, task_above, earlier, above_among}
use Rattle.run_load.specs.declared.work.Excess.{Excess}
use Rattle.run_load.proofs.Above.{within_of, none_of, each_of, of_each}

-- ---- tasks of which rounds begin

module _ (config : Config) (app : App) (t : ℕ) where
  entered_declared : (e : Event) (s next : System) → OsekStep config app e s next → is_entry t e ≡ true → t < length config.tasks
  entered_declared (event.Enter u) s next step e = subst (λ k. k < length config.tasks) (eqb-true u t e) step.1.declared
  entered_declared e s next step is = absurd (false≢true is)

  waiting_declared : (e : Event) (s next : System) → OsekStep config app e s next → goes_on_waiting t e ≡ true → t < length config.tasks
  waiting_declared (event.Call u served status) s next step e = subst (λ k. k < length config.tasks) (eqb-true u t (and_parts (u == t) _ e).0) step.1.1.top.declared
  waiting_declared e s next step is = absurd (false≢true is)

  opened_declared : (cuts : Bool) (e : Event) (s next : System) → OsekStep config app e s next → opens_round cuts t e ≡ true → t < length config.tasks
  opened_declared cuts e s next step o = by (is_entry t e) refl
    where
      by : (b : Bool) → is_entry t e ≡ b → t < length config.tasks
      by true is = entered_declared e s next step is
      by false other =
          waiting_declared e s next step (and_parts cuts (goes_on_waiting t e) (sym (ap (λ b. b || (cuts && goes_on_waiting t e)) other) ∙ o)).1

  staged_declared : (cuts : Bool) (events : List Stamped) (start : ℕ) (s end : System) → AreStepsTo config app events s end → (before behind : List Stage) (opens : Stage)
      → stages config app start s events ≡ before ++ opens ∷ behind → opens_round cuts t opens.stamped.event ≡ true → t < length config.tasks
  staged_declared cuts [] start s end leads [] behind opens is o = absurd cc
  staged_declared cuts [] start s end leads (b ∷ before) behind opens is o = absurd cc
  staged_declared cuts (e ∷ events) start s end leads [] behind opens is o =
      let same : stage config app start s e ≡ opens = cc in
      opened_declared cuts e.event s leads.0 leads.1 (ap (λ (x : Stage). opens_round cuts t x.stamped.event) same ∙ o)
  staged_declared cuts (e ∷ events) start s end leads (b ∷ before) behind opens is o =
      let rest : stages config app (end_of (stage config app start s e)) (state_behind config app e.event s) events ≡ before ++ opens ∷ behind = cc in
      staged_declared cuts events (end_of (stage config app start s e)) (state_behind config app e.event s) end
      (subst (λ (z : System). AreStepsTo config app events z end) (sym (behind_is config app e.event s leads.0 leads.1)) leads.2) before behind opens rest o

-- ---- the earliest of all tasks

none_of_both : (a b : Option Excess) → earlier a b ≡ None → (a ≡ None) × (b ≡ None)
none_of_both (Some a) (Some b) e = by (ltb b.place a.place) e
  where
    by : (c : Bool) → cond c (Some b) (Some a) ≡ None → (Some a ≡ None) × (Some b ≡ None)
    by true f = absurd cc
    by false f = absurd cc
none_of_both (Some a) None e = absurd cc
none_of_both None b e = (refl, e)

module _ (config : Config) (app : App) (load : List Entry) (cuts : ℕ → Bool) (events : List Stamped) where
  none_each : (count : ℕ) → above_among config app load cuts events count ≡ None → (t : ℕ) → t < count → task_above config app load cuts t events ≡ None
  none_each zero e t lt = absurd (let wrong : ⊥ = omega (arith, lt) in wrong)
  none_each (suc n) e t lt =
      let both = none_of_both (above_among config app load cuts events n) (task_above config app load cuts n events) e in
      ⊎_elim (λ less. none_each n both.0 t less)
      (λ most. let same : n ≡ t = omega (arith, lt, most) in subst (λ k. task_above config app load cuts k events ≡ None) same both.1) (cases_lt t n)

  each_none : (count : ℕ) → ((t : ℕ) → t < count → task_above config app load cuts t events ≡ None) → above_among config app load cuts events count ≡ None
  each_none zero all = refl
  each_none (suc n) all = ap (λ o. earlier o (task_above config app load cuts n events)) (each_none n (λ t lt. all t (omega (arith, lt)))) ∙ all n (omega arith)

  -- the rounds of one task
  abbrev RoundsKeep : (t : ℕ) → Option ℕ → Type 0
  RoundsKeep t o = IfSome o (λ counts. (before behind : List Stage) (opens : Stage) → run_stages config app events ≡ before ++ opens ∷ behind
      → opens_round (cuts t) t opens.stamped.event ≡ true → total (own config t) (round_of (cuts t) t behind) ≤ counts)

  keeps_task : (t : ℕ) (o : Option ℕ) → above_limit config app (cuts t) t events o ≡ None → RoundsKeep t o
  keeps_task t (Some limit) e = each_of config (cuts t) t limit (run_stages config app events) (within_of config (cuts t) t limit None 0 no_moments (run_stages config app events) tt e).1
  keeps_task t None e = tt

  task_keeps : (t : ℕ) (o : Option ℕ) → RoundsKeep t o → above_limit config app (cuts t) t events o ≡ None
  task_keeps t (Some limit) all = none_of config (cuts t) t limit None 0 no_moments (run_stages config app events) tt (of_each config (cuts t) t limit (run_stages config app events) all)
  task_keeps t None all = refl

  -- a task that is not declared has no rounds
  undeclared_keeps : OsekRun config app events → (t : ℕ) → length config.tasks ≤ t → (o : Option ℕ) → RoundsKeep t o
  undeclared_keeps run t most (Some limit) = λ before behind opens is o.
      let lt = staged_declared config app t (cuts t) events 0 (opening config app) run.0 (follows_leads config app [] (opening config app) events run.0 run.1) before behind opens is o in
      absurd (let wrong : ⊥ = omega (arith, lt, most) in wrong)
  undeclared_keeps run t most None = tt

  pub keeps-work : OsekRun config app events → above_among config app load cuts events (length config.tasks) ≡ None → KeepsWork config load cuts (run_stages config app events)
  keeps-work run e t = by (cases_lt t (length config.tasks))
    where
      by : (t < length config.tasks) ⊎ (length config.tasks ≤ t) → RoundsKeep t (work load t)
      by (inl less) = keeps_task t (work load t) (none_each (length config.tasks) e t less)
      by (inr most) = undeclared_keeps run t most (work load t)

  pub work-kept : KeepsWork config load cuts (run_stages config app events) → above_among config app load cuts events (length config.tasks) ≡ None
  work-kept keeps = each_none (length config.tasks) (λ t lt. task_keeps t (work load t) (keeps t))
