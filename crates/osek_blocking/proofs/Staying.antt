-- What a change that one task makes, and a tick, leaves: how many tasks there are, and which of the others are Ready.
use Rattle.std.proofs.Common.{◌≡◌, ℕ, ◌<◌, length, refl, ◌∙◌, subst}
use Rattle.std.specs.Prelude.{◌≢◌}
use Rattle.std.proofs.lemmas.List.{length-set}
use Rattle.sloth_base.specs.declared.config.Config.{Config}
use Rattle.sloth_base.specs.declared.service.Service.{Service}
use Rattle.osek_scheduler.specs.declared.state.TaskState.TheVariants as mode
use Rattle.osek_scheduler.specs.State.{Task, System, task, with_task}
use Rattle.osek_scheduler.specs.Services.{activated_state, with_events, ticked_state}
use Rattle.osek_scheduler.proofs.ServiceStates.{IsAfter}
use Rattle.osek_scheduler.specs.Outcomes.{decision, outcome}
use Rattle.osek_scheduler.proofs.Outcomes.{KeptByOthers, outcome_keeps_all}
use Rattle.osek_scheduler.proofs.Ticking.{parts_kept, ticked_keeps}
use Rattle.osek_scheduler.proofs.Apart.{at_task}

-- as many tasks, and each that is Ready and not c stays so
pub record Stays (c : ℕ) (s next : System) : Type 0 where
  pub count : length next.tasks ≡ length s.tasks
  pub ready : (u : ℕ) → u ≢ c → (task s u).state ≡ mode.Ready → (task next u).state ≡ mode.Ready

abbrev IsReady : Task → Type 0
IsReady k = k.state ≡ mode.Ready

module _ (c : ℕ) where
  then : (s middle next : System) → Stays c s middle → Stays c middle next → Stays c s next
  then s middle next f g = record { count = g.count ∙ f.count; ready = λ u n e. g.ready u n (f.ready u n e) }

  pub own : (s : System) (new : Task) → Stays c s (with_task s c new)
  own s new = record { count = length-set s.tasks c new; ready = λ u n e. at_task s c u new IsReady e (λ same. absurd (n same)) }

  pub readied : (s : System) (t : ℕ) → Stays c s (activated_state s t)
  readied s t = record {
    count = length-set s.tasks t (record (task s t) { state = mode.Ready });
    ready = λ u n e. at_task s t u (record (task s t) { state = mode.Ready }) IsReady e (λ _. refl);
  }

  eventful : (s : System) (t events : ℕ) → Stays c s (with_events s t events)
  eventful s t events = record {
    count = length-set s.tasks t (record (task s t) { events = events });
    ready = λ u n e. at_task s t u (record (task s t) { events = events }) IsReady e (λ same. subst (λ x. (task s x).state ≡ mode.Ready) same e);
  }

  stays_besides : (s : System) → KeptByOthers (Stays c s)
  stays_besides s = record {
    activates = λ x t h. then s x (activated_state x t) h (readied x t);
    sets = λ x t events h. then s x (with_events x t events) h (eventful x t events);
    stores = λ x symbols h. record { count = h.count; ready = h.ready };
    sets_alarms = λ x a new h. record { count = h.count; ready = h.ready };
  }

  pub outcome_stays : (config : Config) (served : Service) (object mask : ℕ) (s : System) → IsAfter (Stays c s) (outcome config served object mask c s)
  outcome_stays config served object mask s = outcome_keeps_all (Stays c s) (stays_besides s) c s (own s) (decision config served object mask c s)

  pub tick_stays : (config : Config) (s : System) (d : ℕ) → d < length config.counters → Stays c s (ticked_state config d s)
  tick_stays config s d lt =
      ticked_keeps (Stays c s) config
      (parts_kept (Stays c s) config (stays_besides s) (λ x e new h. record { count = h.count; ready = h.ready })) s d lt
      (record { count = refl; ready = λ u n r. r })
