-- What each event of a run spans is within its stretch.
use Rattle.std.proofs.Common.{◌≡◌, ℕ, ◌+◌, ◌-◌, ◌<◌, ◌≤◌, List, [], ◌∷◌, ◌++◌, Bool, true, false, cond, max, refl, sym, ◌∙◌, subst, arith, append_assoc}
use Rattle.std.specs.List.{AllByRecursion}
use Rattle.std.proofs.Math.Nat.{max-le}
use Rattle.std.proofs.lemmas.Bool.{false≢true, eqb-true}
use Rattle.sloth_base.specs.Options.{is_number}
use Rattle.sloth_base.specs.Named.{declaration, function, body_of}
use Rattle.sloth_base.specs.declared.config.Config.{Config}
use Rattle.sloth_base.specs.declared.app.App.{App}
use Rattle.sloth_base.specs.declared.service.Event.{Event}
use Rattle.sloth_base.specs.declared.service.Event.TheVariants as event
use Rattle.sloth_base.specs.declared.service.Stamped.{Stamped}
use Rattle.code_lengths.specs.LongestPaths.{entry_path, tick_path}
use Rattle.osek_scheduler.specs.State.{System, task, opening}
use Rattle.osek_scheduler.specs.InTime.{is_admit}
use Rattle.osek_scheduler.specs.Runs.{AreStepsTo, OsekRun}
use Rattle.osek_scheduler.proofs.Leading.{follows_leads, leads-append}
use Rattle.sim_induction.specs.Events.{has_frames, enter_counts, stretch_counts}
use Rattle.sim_induction.specs.Weighed.{AreWithinWeights}
use Rattle.run_counts.specs.Stages.{Stage, spanned, is_entry, end_of, stage, stages, run_stages}
use Rattle.response_laws.specs.Turns.{ticking_counter, at_entry, at_tick}
use Rattle.response_laws.proofs.Linked.{behind_is}

module _ (config : Config) (app : App) where
  -- the event spans no more counts than its stretch takes; one without a stretch spans one
  abbrev pub IsSpannedWithin : Stage → Type 0
  IsSpannedWithin x = spanned x ≤ max 1 (stretch_counts config app x.found x.stamped.event)

  all_spanned : (events : List Stamped) → AreWithinWeights config app events → (before rest : List Stamped) (start : ℕ) (s end : System) → events ≡ before ++ rest
      → AreStepsTo config app before (opening config app) s → AreStepsTo config app rest s end → AllByRecursion IsSpannedWithin (stages config app start s rest)
  all_spanned events within before [] start s end is led leads = tt
  all_spanned events within before (e ∷ rest) start s end is led leads = (
    by (is_admit e) (within before rest e s is led),
    subst (λ v. AllByRecursion IsSpannedWithin (stages config app (end_of (stage config app start s e)) v rest)) (sym (behind_is config app e.event s leads.0 leads.1))
        (all_spanned events within (before ++ e ∷ []) rest (end_of (stage config app start s e)) leads.0 end (is ∙ sym (append_assoc before (e ∷ []) rest))
        (leads-append config app before (e ∷ []) (opening config app) s leads.0 led (leads.0, leads.1, refl)) leads.2),
  )
    where
      by : (b : Bool) → e.stamp.at < e.stamp.from + max 1 (stretch_counts config app s e.event)
          → cond b 0 (e.stamp.at + 1 - e.stamp.from) ≤ max 1 (stretch_counts config app s e.event)
      by true few = omega arith
      by false few = omega (arith, few)

  -- so does each event of a run
  pub run_spanned : (events : List Stamped) → OsekRun config app events → AreWithinWeights config app events → AllByRecursion IsSpannedWithin (run_stages config app events)
  run_spanned events run within =
      all_spanned events within [] events 0 (opening config app) run.0 refl refl (follows_leads config app [] (opening config app) events run.0 run.1)

  entry_some : (extended resumed : Bool) (words : ℕ) → 1 ≤ entry_path extended resumed words
  entry_some false resumed words = omega arith
  entry_some true false words = omega arith
  entry_some true true words = omega arith

  at_least_one : (a : ℕ) → 1 ≤ a → max 1 a ≤ a
  at_least_one a some = max-le some (omega arith)

  -- an entry
  pub entry_spanned : (t : ℕ) (x : Stage) → IsSpannedWithin x → at_entry t x ≡ true → spanned x ≤ enter_counts config app (has_frames (task x.found t).frames) t
  entry_spanned t x within is = by x.stamped.event is within
    where
      by : (e : Event) → is_entry t e ≡ true → spanned x ≤ max 1 (stretch_counts config app x.found e) → spanned x ≤ enter_counts config app (has_frames (task x.found t).frames) t
      by (event.Enter u) is le =
          subst (λ v. spanned x ≤ enter_counts config app (has_frames (task x.found v).frames) v) (eqb-true u t is)
          (let some = entry_some (declaration config u).extended true (function app (body_of app.funcs u)).frame_words in
          let more = at_least_one (enter_counts config app (has_frames (task x.found u).frames) u) (omega (arith, some)) in
          omega (arith, le, more))
      by e is le = absurd (false≢true is)

  -- a tick
  pub tick_spanned : (c : ℕ) (x : Stage) → IsSpannedWithin x → at_tick c x ≡ true → spanned x ≤ tick_path config c
  tick_spanned c x within is = by x.stamped.event is within
    where
      by : (e : Event) → is_number c (ticking_counter e) ≡ true → spanned x ≤ max 1 (stretch_counts config app x.found e) → spanned x ≤ tick_path config c
      by (event.Tick d) is le =
          subst (λ v. spanned x ≤ tick_path config v) (eqb-true d c is)
          (let more = at_least_one (tick_path config d) (omega arith) in omega (arith, le, more))
      by e is le = absurd (false≢true is)
