-- Each event leads from a sound state to a sound one.
use Rattle.std.proofs.Common.{◌≡◌, ◌∙◌, ℕ, ◌∷◌, Option, Some, None, refl, sym, ap, subst}
use Rattle.std.specs.Prelude.{Result, Ok, Err, OnOk, OnErr}
use Rattle.std.proofs.lemmas.Option.{none-some}
use Rattle.sloth_base.specs.declared.config.Config.{Config}
use Rattle.sloth_base.specs.declared.app.App.{App}
use Rattle.sloth_base.specs.declared.service.Event.{Event}
use Rattle.sloth_base.specs.declared.service.Event.TheVariants as event
use Rattle.osek_scheduler.specs.declared.state.TaskState.{TaskState}
use Rattle.osek_scheduler.specs.declared.state.TaskState.TheVariants as mode
use Rattle.osek_scheduler.specs.State.{System, task}
use Rattle.osek_scheduler.specs.Services.{if_suspended, activated_state}
use Rattle.osek_scheduler.specs.Steps.{OsekStep}
use Rattle.osek_scheduler.specs.Next.{next_state}
use Rattle.osek_scheduler.proofs.Next.{step_of, step_is}
use Rattle.osek_scheduler.specs.Valid.{AreDistinct}
use Rattle.osek_scheduler.proofs.ApartSteps.{step_apart}
use Rattle.osek_scheduler.proofs.Facts.{facts}
use Rattle.osek_scheduler.proofs.Steps.{step_valid}
use Rattle.osek_blocking.specs.NextEvents.{IsNoAdmission}
use Rattle.osek_machine.specs.Steps.{Advances, IsSound, Machine}
use Rattle.osek_blocking.proofs.Only.{settles}
use Rattle.osek_machine.proofs.Rooms.{not_among}

module _ (config : Config) (app : App) (s : System) (sound : IsSound config app s) where
  admitted-differ : (t : ℕ) (m : TaskState) → (task s t).state ≡ m → AreDistinct (if_suspended m (record (activated_state s t) { fresh = t ∷ s.fresh }) s).fresh
  admitted-differ t mode.Suspended e = (not_among sound t e, sound.distinct)
  admitted-differ t mode.Ready e = sound.distinct
  admitted-differ t mode.Active e = sound.distinct
  admitted-differ t (mode.Waiting mask) e = sound.distinct

  settled-differ : (e : Event) (next : System) → IsNoAdmission e → OsekStep config app e s next → AreDistinct next.fresh
  settled-differ e next own h = subst AreDistinct (sym (settles config app e s next own h)) tt

  fresh-differ : (e : Event) (next : System) → OsekStep config app e s next → AreDistinct next.fresh
  fresh-differ (event.Admit t) next h =
      subst (λ (x : System). AreDistinct x.fresh) (sym h.2) (admitted-differ t (task s t).state refl)
  fresh-differ (event.Due c) next h = subst (λ (x : System). AreDistinct x.fresh) (sym h.2) sound.distinct
  fresh-differ e next h = settled-differ e next refl h

  step-sound : (e : Event) (next : System) → OsekStep config app e s next → IsSound config app next
  step-sound e next h = record {
    well_formed = sound.well_formed;
    valid = step_valid config app e s next (facts config app sound.well_formed) h sound.valid;
    apart = step_apart config app e s next h sound.valid.count sound.apart;
    distinct = fresh-differ e next h;
  }

  -- the state is sound behind an event, and behind one that changes nothing
  pub sound-after : {A E : Type 0} (e : Event) (next : System) (r : Result A E) → Advances (next_state config app e s) s next r → IsSound config app next
  sound-after e next (Ok x) h = step-sound e next (step_of config app s next e h)
  sound-after e next (Err x) h = subst (IsSound config app) (sym h.1) sound

-- what two states lead to alike
pub alike : {A E : Type 0} {m n : Option System} (old new : System) (r : Result A E) → m ≡ n → Advances n old new r → Advances m old new r
alike old new (Ok x) e h = e ∙ h
alike old new (Err x) e h = (e ∙ h.0, h.1)

module _ (inside now : Machine) (view : inside ≡ now) (e : Event) where
  abbrev Steps : System → Machine → Type 0
  Steps next m = OsekStep m.config m.app e m.system next

  abbrev Goes : {A E : Type 0} → System → Result A E → Type 0
  Goes next r = Advances (next_state inside.config inside.app e inside.system) inside.system next r

  pub steps-ok : {A E : Type 0} (next : System) (r : Result A E) → Goes next r → OnOk r (OsekStep now.config now.app e now.system next)
  steps-ok next (Ok x) h = subst (Steps next) view (step_of inside.config inside.app inside.system next e h)
  steps-ok next (Err x) h = tt

  pub steps-err : {A E : Type 0} (next : System) (r : Result A E) → Goes next r → OnErr r ((other : System) → OsekStep now.config now.app e now.system other → ⊥)
  steps-err next (Ok x) h = tt
  steps-err next (Err x) h = λ other step.
      none-some other (sym h.0 ∙ step_is inside.config inside.app inside.system other e (subst (Steps other) (sym view) step))

  pub steps-same : {A E : Type 0} (next : System) (r : Result A E) → Goes next r → OnErr r ((record inside { system = next }) ≡ now)
  steps-same next (Ok x) h = tt
  steps-same next (Err x) h = ap (λ (s : System). record inside { system = s }) h.1 ∙ view
