-- The tasks that come by a record are closed, as the law asks it.
use Rattle.std.proofs.Common.{◌≡◌, ℕ, ◌⊎◌, ◌==◌, ◌&&◌, ◌||◌, Bool, true, false, List, Option, Some, None, is_some, refl, arith, inl, inr}
use Rattle.std.proofs.lemmas.Bool.{false≢true, eqb-true}
use Rattle.sloth_base.specs.declared.config.Action.{Action}
use Rattle.sloth_base.specs.declared.config.Action.TheVariants as action
use Rattle.sloth_base.specs.declared.config.Config.{Config}
use Rattle.sloth_base.specs.declared.app.App.{App}
use Rattle.sloth_base.specs.declared.app.Op.{Op}
use Rattle.sloth_base.specs.declared.app.Op.TheVariants as op
use Rattle.sloth_base.specs.declared.service.Service.TheVariants as service
use Rattle.sloth_base.specs.Named.{alarm_declaration}
use Rattle.sloth_base.specs.Owners.{counter_line}
use Rattle.sloth_base.specs.ServiceCodes.{is_service}
use Rattle.load_text.specs.declared.load_line.Entry.{Entry}
use Rattle.load_text.specs.Loads.{distance}
use Rattle.osek_blocking.specs.Sections.{operation_at}
use Rattle.walk_sums.specs.declared.counted.Counted.TheVariants as counts
use Rattle.walk_sums.specs.Counted.{calls_for, is_ending_counted}
use Rattle.run_windows.specs.declared.costs.Costs.{Costs}
use Rattle.run_windows.specs.Costs.{comes}
use Rattle.run_costs.specs.CostsOf.{task_of}
use Rattle.run_costs.specs.CostsOf as costs_of
use Rattle.run_costs.specs.Coming
use Rattle.run_costs.specs.Coming.{MayActivate}
use Rattle.response_laws.specs.Expiries.{sets_alarm}
use Rattle.response_laws.specs.Made.{is_making}
use Rattle.response_laws.specs.Ticks.{activates}
use Rattle.response_laws.specs.Never.{Arrives, IsUsed, AreClosed}
use Rattle.run_costs.specs.RunCosts.{AreRunCosts}

-- an item that sets an alarm calls one of two services for it
pub calls_it : (a : ℕ) (o : Op) → sets_alarm a o ≡ true → (calls_for a service.SetRelAlarm o ≡ true) ⊎ (calls_for a service.SetAbsAlarm o ≡ true)
calls_it a (op.Serve call) e = by (is_service call.service service.SetRelAlarm) (is_service call.service service.SetAbsAlarm) (call.object == a) e
  where
    by : (r s o : Bool) → ((r || s) && o) ≡ true → ((r && o) ≡ true) ⊎ ((s && o) ≡ true)
    by true s o e = inl e
    by false s o e = inr e
calls_it a op.Return e = absurd (false≢true e)
calls_it a o e = absurd (false≢true e)

-- one that makes a task activates or chains it
counts_it : (t : ℕ) (o : Op) → is_making t o ≡ true → is_ending_counted (counts.Activations t) o ≡ true
counts_it t (op.Serve call) e = by (is_service call.service service.ActivateTask) (is_service call.service service.ChainTask) (call.object == t) e
  where
    by : (a c o : Bool) → ((a || c) && o) ≡ true → ((a && o) || (c && o)) ≡ true
    by true c true e = refl
    by true c false e = cc
    by false c o e = e
counts_it t op.Return e = absurd (false≢true e)
counts_it t o e = absurd (false≢true e)

some_if : (o : Option ℕ) → ((o ≡ None) → ⊥) → is_some o ≡ true
some_if None refuted = absurd (refuted refl)
some_if (Some d) refuted = refl

may : (config : Config) (load : List Entry) (a t : ℕ) → Arrives load (counter_line (alarm_declaration config a).counter)
    → activates t (alarm_declaration config a).action ≡ true → MayActivate config load a t
may config load a t arrives acts =
    let both = by (alarm_declaration config a).action acts in
    (some_if (distance load (counter_line (alarm_declaration config a).counter)) arrives, both.0, both.1)
  where
    by : (does : Action) → activates t does ≡ true → (costs_of.sets_events does ≡ false) × (task_of does ≡ t)
    by (action.Activate u) e = (refl, eqb-true u t e)
    by (action.Set u mask) e = absurd (false≢true e)

module _ (config : Config) (app : App) (load : List Entry) (costs : Costs) (are : AreRunCosts config app load costs) where
  used : (a : ℕ) → IsUsed config app (comes costs) a → Coming.IsUsed config app (comes costs) a
  used a (inl starts) = inl (omega (arith, starts))
  used a (inr (k, at, come, reach, sets)) = by (calls_it a (operation_at app at) sets)
    where
      by : (calls_for a service.SetRelAlarm (operation_at app at) ≡ true) ⊎ (calls_for a service.SetAbsAlarm (operation_at app at) ≡ true) → Coming.IsUsed config app (comes costs) a
      by (inl rel) = inr (inl (k, come.0, come.1, (at, reach, rel)))
      by (inr abs) = inr (inr (k, come.0, come.1, (at, reach, abs)))

  pub closed : AreClosed config app load (comes costs)
  closed = record {
    starts = λ t lt is. are.comes.closed t lt (inl is);
    arrives = λ t lt arrives. are.comes.closed t lt (inr (inl (some_if (distance load t) arrives)));
    named = λ k t at lt come reach makes. are.comes.closed t lt (inr (inr (inl (k, come.0, come.1, (at, reach, counts_it t (operation_at app at) makes)))));
    expires = λ a t alt lt arrives acts is. are.comes.closed t lt (inr (inr (inr (a, alt, may config load a t arrives acts, used a is))));
  }
