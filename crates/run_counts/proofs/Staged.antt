-- What holds of each stage of a run that keeps the pace.
use Rattle.std.proofs.Common.{◌≡◌, ◌∙◌, ◌≤◌, ◌⊎◌, ◌+◌, ◌-◌, ℕ, List, [], ◌∷◌, ◌++◌, cond, refl, sym, ap, subst, arith, inl, inr, is_some, append_assoc, true, false}
use Rattle.std.specs.List.{AllByRecursion}
use Rattle.std.proofs.lemmas.Bool.{cases_Bool, true≢false, false≢true}
use Rattle.sloth_base.specs.declared.config.Config.{Config}
use Rattle.sloth_base.specs.declared.app.App.{App}
use Rattle.sloth_base.specs.declared.service.Event.{Event}
use Rattle.sloth_base.specs.declared.service.Event.TheVariants as event
use Rattle.sloth_base.specs.declared.service.Stamped.{Stamped}
use Rattle.sloth_base.specs.Events.{admitted_line, is_boot}
use Rattle.osek_scheduler.specs.State.{System, opening}
use Rattle.osek_scheduler.specs.InTime.{is_admit}
use Rattle.osek_scheduler.specs.Steps.{OsekStep}
use Rattle.osek_scheduler.specs.Runs.{AreStepsTo, OsekRun}
use Rattle.osek_scheduler.proofs.Leading.{follows_leads, leads-append}
use Rattle.osek_scheduler.proofs.Next.{step_is}
use Rattle.osek_blocking.specs.Pace.{last_count}
use Rattle.sim_induction.specs.Pace.{ItemSizes}
use Rattle.sim_induction.specs.Paced.{GoesInPace, KeepsPace}
use Rattle.sim_induction.proofs.Pacing.{last-append}
use Rattle.run_counts.specs.Stages.{Stage, state_or, state_behind, end_of, stage, stages}
use Rattle.run_counts.specs.Laws.{IsWithinWeights, RunsKeepWeights}

-- a step leads to the state behind its event
pub behind_is : (config : Config) (app : App) (what : Event) (s next : System) → OsekStep config app what s next → state_behind config app what s ≡ next
unfolding state_behind
behind_is config app what s next step = ap (state_or s) (step_is config app s next what step)

-- nothing but the boot comes before it
pub booted_before : (config : Config) (app : App) (what : Event) (s next : System) → OsekStep config app what s next → is_boot what ≡ false → s.booted ≡ true
booted_before config app event.Boot s next step other = absurd (true≢false other)
booted_before config app event.Stray s next step other = absurd step
booted_before config app what s next step other = step.0

pub admits_later : (what : Event) → is_some (admitted_line what) ≡ true → is_boot what ≡ false
admits_later event.Boot is = absurd (false≢true is)
admits_later what is = refl

-- a fact on a stage, of an event that goes in pace behind those before it, and whose stage begins behind them
abbrev pub Tells : Config → App → ItemSizes → (longest : ℕ) → (Stage → Type 0) → Type 0
Tells config app size longest P =
    (before : List Stamped) (e : Stamped) (start : ℕ) (s next : System) → AreStepsTo config app before (opening config app) s → OsekStep config app e.event s next
    → GoesInPace config app size longest (last_count 0 before) s e → (s.booted ≡ true → last_count 0 before + 1 ≤ start) → P (stage config app start s e)

module _ (config : Config) (app : App) (size : ItemSizes) (longest n : ℕ) (events : List Stamped) (keeps : KeepsPace config app size longest n events) where
  -- behind boot the stage begins behind the events before it
  abbrev Begins : (before : List Stamped) → (start : ℕ) → System → Type 0
  Begins before start s = s.booted ≡ true → last_count 0 before + 1 ≤ start

  begins_behind : (before : List Stamped) (e : Stamped) (start : ℕ) (s next : System) → OsekStep config app e.event s next → Begins before start s
      → Begins (before ++ e ∷ []) (end_of (stage config app start s e)) next
  begins_behind before e start s next step begins later = by (cases_Bool (is_admit e))
    where
      last : last_count 0 (before ++ e ∷ []) ≡ cond (is_admit e) (last_count 0 before) e.stamp.at
      last = last-append 0 before (e ∷ [])

      by : (is_admit e ≡ true) ⊎ (is_admit e ≡ false) → last_count 0 (before ++ e ∷ []) + 1 ≤ cond (is_admit e) start (e.stamp.at + 1)
      by (inl is) =
          let near = begins (booted_before config app e.event s next step (admits_later e.event is)) in
          let same = last ∙ ap (λ b. cond b (last_count 0 before) e.stamp.at) is in
          let to = ap (λ b. cond b start (e.stamp.at + 1)) is in
          omega (arith, near, same, to)
      by (inr other) =
          let same = last ∙ ap (λ b. cond b (last_count 0 before) e.stamp.at) other in
          let to = ap (λ b. cond b start (e.stamp.at + 1)) other in
          omega (arith, same, to)

  module _ (P : Stage → Type 0) (tells : Tells config app size longest P) where
    staged : (before rest : List Stamped) (start : ℕ) (s end : System) → events ≡ before ++ rest → AreStepsTo config app before (opening config app) s
        → AreStepsTo config app rest s end → Begins before start s → AllByRecursion P (stages config app start s rest)
    staged before [] start s end is led leads begins = tt
    staged before (e ∷ rest) start s end is led leads begins = (
      tells before e start s leads.0 led leads.1 (keeps.each before rest e s is led) begins,
      subst (λ v. AllByRecursion P (stages config app (end_of (stage config app start s e)) v rest)) (sym (behind_is config app e.event s leads.0 leads.1))
          (staged (before ++ e ∷ []) rest (end_of (stage config app start s e)) leads.0 end (is ∙ sym (append_assoc before (e ∷ []) rest))
          (leads-append config app before (e ∷ []) (opening config app) s leads.0 led (leads.0, leads.1, refl)) leads.2
          (begins_behind before e start s leads.0 leads.1 begins)),
    )

    pub all_stages : OsekRun config app events → AllByRecursion P (stages config app 0 (opening config app) events)
    all_stages run =
        staged [] events 0 (opening config app) run.0 refl refl (follows_leads config app [] (opening config app) events run.0 run.1) (λ booted. absurd (false≢true booted))

pub keeps_weights : RunsKeepWeights
keeps_weights config app size longest n events run keeps =
    all_stages config app size longest n events keeps (IsWithinWeights config app size longest)
    (λ before e start s next led step goes begins other later.
    let soon = goes.ends other later in
    let spent = ap (λ b. cond b 0 (e.stamp.at + 1 - start)) other in
    let near = begins (booted_before config app e.event s next step later) in
    omega (arith, soon, spent, near))
    run
