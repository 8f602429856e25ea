-- A task that never comes responds within any number, since nothing makes it Ready.
use Rattle.std.proofs.Common.{◌≡◌, ◌∙◌, ℕ, List, ◌∷◌, ◌++◌, Bool, false, ap, subst}
use Rattle.std.specs.List.{AllByRecursion}
use Rattle.sloth_base.specs.declared.config.Config.{Config}
use Rattle.sloth_base.specs.declared.app.App.{App}
use Rattle.sloth_base.specs.declared.service.Arrival.{Arrival}
use Rattle.sloth_base.specs.declared.service.Stamped.{Stamped}
use Rattle.code_rules.specs.WellFormed.{WellFormed}
use Rattle.load_text.specs.declared.load_line.Entry.{Entry}
use Rattle.load_text.specs.Loads.{KeepDistances}
use Rattle.osek_scheduler.specs.State.{System, task, opening}
use Rattle.osek_scheduler.specs.InTime.{InTime}
use Rattle.osek_scheduler.specs.Runs.{AreStepsTo, OsekRun}
use Rattle.osek_blocking.specs.Blocking.{MakesReady}
use Rattle.run_counts.specs.Stages.{Stage, stage, stages, state_behind}
use Rattle.response_laws.specs.Never.{AreClosed, NoneComes}
use Rattle.response_laws.specs.Response.{RespondsWithin}
use Rattle.response_laws.proofs.Linked.{last_state, last_end, each_append, stages-append, leads_to, behind_is}
use Rattle.response_laws.proofs.Never.{others_never_come}
use Rattle.response_laws.proofs.Suspended.{awake}

module _ (config : Config) (app : App) (load : List Entry) (comes : ℕ → Bool) (n more h r : ℕ) (boot : Bool) (arrivals : List Arrival) (events : List Stamped)
    (wf : WellFormed config app) (osek : OsekRun config app events) (in_time : InTime config n arrivals events) (keeps : KeepDistances load arrivals)
    (closed : AreClosed config app load comes) (never : comes h ≡ false) where
  abbrev Sleeps : Stage → Type 0
  Sleeps x = NoneComes config app load comes x.found × NoneComes config app load comes x.next

  none_makes : (before behind : List Stamped) (made : Stamped) (found s : System) → events ≡ before ++ made ∷ behind → AreStepsTo config app before (opening config app) found
      → MakesReady config app h made.event found s → ⊥
  none_makes before behind made found s split leads makes = awake (task s h).state makes.behind ((subst (NoneComes config app load comes) next_is here.1).asleep h never)
    where
      past : List Stage
      past = stages config app 0 (opening config app) before

      making : Stage
      making = stage config app (last_end 0 past) (last_state (opening config app) past) made

      all : AllByRecursion Sleeps (past ++ stages config app (last_end 0 past) (last_state (opening config app) past) (made ∷ behind))
      all =
          subst (AllByRecursion Sleeps) (ap (stages config app 0 (opening config app)) split ∙ stages-append config app 0 (opening config app) before (made ∷ behind))
          (others_never_come config app load comes n arrivals events wf osek in_time keeps closed)

      here : Sleeps making
      here = (each_append Sleeps past (stages config app (last_end 0 past) (last_state (opening config app) past) (made ∷ behind)) all).1.0

      next_is : making.next ≡ s
      next_is = ap (state_behind config app made.event) (leads_to config app 0 (opening config app) found before leads) ∙ behind_is config app made.event found s makes.step

  pub never_responds : RespondsWithin config app n more h r boot events
  never_responds = record {
    some = λ before behind made found s split leads makes asked. absurd (none_makes before behind made found s split leads makes);
    leaves = λ before behind made found s edge split leads makes asked at room. absurd (none_makes before behind made found s split leads makes);
    pends = λ before front rest made e found s edge split leads makes asked at alone other. absurd (none_makes before (front ++ e ∷ rest) made found s split leads makes);
  }
