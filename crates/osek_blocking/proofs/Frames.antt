-- What each service leaves of the frames of the tasks, and of what they owe: those of all others as they were, and its caller's behind it.
-- A tick leaves them all.
use Rattle.std.proofs.Common.{◌≡◌, ℕ, ◌<◌, ◌⊎◌, [], ◌∷◌, true, false, ◌&&◌, not, Bool, length, Option, Some, None, refl, sym, ap, ◌∙◌, subst, inl, inr}
use Rattle.std.specs.Prelude.{◌≢◌}
use Rattle.std.proofs.lemmas.Bool.{false≢true, and_parts, not-true}
use Rattle.std.proofs.lemmas.List.{get_or-set_same}
use Rattle.sloth_base.specs.declared.config.Config.{Config}
use Rattle.sloth_base.specs.declared.service.Service.{Service}
use Rattle.sloth_base.specs.declared.service.Service.TheVariants as service
use Rattle.sloth_base.specs.ServiceCodes.{is_service}
use Rattle.sloth_base.proofs.Services.{same_service}
use Rattle.osek_scheduler.specs.declared.change.TaskChange.{TaskChange}
use Rattle.osek_scheduler.specs.declared.change.TaskChange.TheVariants as change
use Rattle.osek_scheduler.specs.declared.change.Plan.{Plan}
use Rattle.osek_scheduler.specs.declared.state.TaskState.TheVariants as mode
use Rattle.osek_scheduler.specs.State.{Task, System, sleeping_task, task, with_task}
use Rattle.osek_scheduler.specs.Services.{activated_state, with_events, moved_frames, ServiceOutcome, GoesOn, Leaves, ticked_state}
use Rattle.osek_scheduler.specs.Changes.{changed_task, with_change}
use Rattle.osek_scheduler.specs.Outcomes.{planned_system, shown_outcome, decision, outcome}
use Rattle.osek_scheduler.specs.Steps.{admitted_state}
use Rattle.osek_scheduler.proofs.Outcomes.{by_suspended, on_tested, on_outcome, KeptByOthers, others_keep}
use Rattle.osek_scheduler.proofs.Ticking.{parts_kept, ticked_keeps}
use Rattle.osek_scheduler.proofs.Apart.{at_task}

-- the frames are the same, what is owed, and what is held
pub record SameFrames (old new : Task) : Type 0 where
  pub frames : new.frames ≡ old.frames
  pub owed : new.owed ≡ old.owed
  pub held : new.held ≡ old.held

pub same_frames : (k : Task) → SameFrames k k
same_frames k = record { frames = refl; owed = refl; held = refl }

joined : (a b c : Task) → SameFrames a b → SameFrames b c → SameFrames a c
joined a b c f g = record { frames = g.frames ∙ f.frames; owed = g.owed ∙ f.owed; held = g.held ∙ f.held }

-- those of every task but c
abbrev pub KeepsOthers : ℕ → System → System → Type 0
KeepsOthers c s next = (u : ℕ) → u ≢ c → SameFrames (task s u) (task next u)

-- those of every task
abbrev pub KeepsFrames : System → System → Type 0
KeepsFrames s next = (u : ℕ) → SameFrames (task s u) (task next u)

-- ---- changes

pub own : (c : ℕ) (s : System) (new : Task) → KeepsOthers c s (with_task s c new)
own c s new u n = at_task s c u new (SameFrames (task s u)) (same_frames (task s u)) (λ e. absurd (n e))

-- a record that differs in neither
alike : (s : System) (t : ℕ) (change : Task → Task) → ((k : Task) → SameFrames k (change k)) → KeepsFrames s (with_task s t (change (task s t)))
alike s t change h u =
    at_task s t u (change (task s t)) (SameFrames (task s u)) (same_frames (task s u))
    (λ e. let P : ℕ → Type 0 = λ x. SameFrames (task s u) (change (task s x)) in subst P e (h (task s u)))

readied : (s : System) (t : ℕ) → KeepsFrames s (activated_state s t)
readied s t = alike s t (λ k. record k { state = mode.Ready }) (λ k. record { frames = refl; owed = refl; held = refl })

eventful : (s : System) (t events : ℕ) → KeepsFrames s (with_events s t events)
eventful s t events = alike s t (λ k. record k { events = events }) (λ k. record { frames = refl; owed = refl; held = refl })

pub admitted_keeps : (s : System) (t : ℕ) → KeepsFrames s (admitted_state t s)
admitted_keeps s t =
    by_suspended (task s t).state (record (activated_state s t) { fresh = t ∷ s.fresh }) s (KeepsFrames s) (λ _. readied s t)
    (λ _ u. same_frames (task s u))

frames_besides : (s : System) → KeptByOthers (KeepsFrames s)
frames_besides s = record {
  activates = λ x t h u. joined _ _ _ (h u) (readied x t u);
  sets = λ x t events h u. joined _ _ _ (h u) (eventful x t events u);
  stores = λ x symbols h. h;
  sets_alarms = λ x a new h. h;
}

pub ticked_frames : (config : Config) (s : System) (c : ℕ) → c < length config.counters → KeepsFrames s (ticked_state config c s)
ticked_frames config s c lt =
    ticked_keeps (KeepsFrames s) config (parts_kept (KeepsFrames s) config (frames_besides s) (λ x d new h. h)) s c lt (λ u. same_frames (task s u))

-- ---- a change of the caller, and what is done besides

-- task k stands as `new`, and is Active only where that is
record StandsAs (new k : Task) : Type 0 where
  frames : k.frames ≡ new.frames
  owed : k.owed ≡ new.owed
  held : k.held ≡ new.held
  active : k.state ≡ mode.Active → new.state ≡ mode.Active

-- changes of a caller that goes on
abbrev is_onward : TaskChange → Bool
is_onward (change.Answer status) = true
is_onward (change.AnswerWith value) = true
is_onward (change.Take resource) = true
is_onward change.Release = true
is_onward (change.ClearEvents mask) = true
is_onward _ = false

onward : (d : TaskChange) (k : Task) → is_onward d ≡ true → (changed_task d k).frames ≡ moved_frames k.frames
onward (change.Answer status) k e = refl
onward (change.AnswerWith value) k e = refl
onward (change.Take resource) k e = refl
onward change.Release k e = refl
onward (change.ClearEvents mask) k e = refl
onward d k e = absurd (false≢true e)

-- changes of a caller that leaves
abbrev is_departure : Service → TaskChange → Bool
is_departure served change.End = true
is_departure served (change.Wait mask) = is_service served service.WaitEvent
is_departure served _ = false

module _ (c : ℕ) (s : System) where
  -- the caller's record became this one; other tasks may have become Ready or got events
  record Changed (new : Task) (after : System) : Type 0 where
    others : KeepsOthers c s after
    caller : c < length s.tasks → StandsAs new (task after c)

  -- a change of one task's state or events keeps that
  kept : (new : Task) (x next : System) → Changed new x → KeepsFrames x next
      → ((task next c).state ≡ mode.Active → (task x c).state ≡ mode.Active) → Changed new next
  kept new x next h same active = record {
    others = λ u n. joined _ _ _ (h.others u n) (same u);
    caller = λ lt.
        let old = h.caller lt in
        record { frames = (same c).frames ∙ old.frames; owed = (same c).owed ∙ old.owed; held = (same c).held ∙ old.held; active = λ a. old.active (active a) };
  }

  kept_besides : (new : Task) → KeptByOthers (Changed new)
  kept_besides new = record {
    activates = λ x t h.
        kept new x (activated_state x t) h (readied x t)
        (at_task x t c (record (task x t) { state = mode.Ready }) (λ k. k.state ≡ mode.Active → (task x c).state ≡ mode.Active) (λ a. a) (λ _ a. absurd cc));
    sets = λ x t events h.
        kept new x (with_events x t events) h (eventful x t events)
        (at_task x t c (record (task x t) { events = events }) (λ k. k.state ≡ mode.Active → (task x c).state ≡ mode.Active) (λ a. a)
        (λ e a. let P : ℕ → Type 0 = λ v. (task x v).state ≡ mode.Active in subst P (sym e) a));
    stores = λ x symbols h. record { others = h.others; caller = h.caller };
    sets_alarms = λ x a new h. record { others = h.others; caller = h.caller };
  }

  changed : (p : Plan) → Changed (changed_task p.change (task s c)) (planned_system c p s)
  changed p =
      let new = changed_task p.change (task s c) in
      others_keep (Changed new) (kept_besides new) p.other (with_change c p.change s)
      (record {
        others = own c s new;
        caller = λ lt. subst (StandsAs new) (sym (get_or-set_same s.tasks c new sleeping_task lt)) (record { frames = refl; owed = refl; held = refl; active = λ a. a });
      })

  -- ---- services

  -- the caller goes on behind its service, and owes a `back` behind a Schedule
  pub record GoesBehind (served : Service) (after : System) : Type 0 where
    pub others : KeepsOthers c s after
    pub frames : c < length s.tasks → (task after c).frames ≡ moved_frames (task s c).frames
    pub owes : c < length s.tasks → served ≡ service.Schedule → (task after c).owed ≡ true
    pub goes : served ≢ service.TerminateTask

  -- it leaves with no frames, or behind a WaitEvent
  abbrev DepartureFrames : Service → Task → Type 0
  DepartureFrames served new = (new.frames ≡ []) ⊎ ((new.frames ≡ moved_frames (task s c).frames) × (served ≡ service.WaitEvent))

  pub record LeavesFrames (served : Service) (after : System) : Type 0 where
    pub others : KeepsOthers c s after
    pub gone : c < length s.tasks → (task after c).state ≢ mode.Active
    pub frames : c < length s.tasks → DepartureFrames served (task after c)
    pub held : c < length s.tasks → (task after c).held ≡ (task s c).held

  abbrev pub Served : Service → ServiceOutcome → Type 0
  Served served (GoesOn status after) = GoesBehind served after
  Served served (Leaves after) = LeavesFrames served after

  departure : (served : Service) (d : TaskChange) → is_departure served d ≡ true
      → ((changed_task d (task s c)).state ≢ mode.Active) × DepartureFrames served (changed_task d (task s c)) × ((changed_task d (task s c)).held ≡ (task s c).held)
  departure served change.End e = ((λ a. cc), inl refl, refl)
  departure served (change.Wait mask) e = ((λ a. cc), inr (refl, same_service served service.WaitEvent e), refl)
  departure served d e = absurd (false≢true e)

  abbrev is_fitting : Service → Option ℕ → TaskChange → Bool
  is_fitting served (Some status) d = is_onward d && not (is_service served service.TerminateTask)
  is_fitting served None d = is_departure served d

  by_plan : (served : Service) → served ≢ service.Schedule → (p : Plan) (answer : Option ℕ) → is_fitting served answer p.change ≡ true
      → Served served (shown_outcome answer (planned_system c p s))
  by_plan served other p (Some status) e =
      let both = and_parts (is_onward p.change) (not (is_service served service.TerminateTask)) e in
      record {
        others = (changed p).others;
        frames = λ lt. ((changed p).caller lt).frames ∙ onward p.change (task s c) both.0;
        owes = λ lt is. absurd (other is);
        goes = λ is. absurd (false≢true (sym (not-true _ both.1) ∙ ap (λ x. is_service x service.TerminateTask) is));
      }
  by_plan served other p None e =
      let d = departure served p.change e in
      record {
        others = (changed p).others;
        gone = λ lt a. d.0 (((changed p).caller lt).active a);
        frames = λ lt. left (changed_task p.change (task s c)) (task (planned_system c p s) c) (((changed p).caller lt).frames) d.1;
        held = λ lt. ((changed p).caller lt).held ∙ d.2;
      }
    where
      left : (new k : Task) → k.frames ≡ new.frames → DepartureFrames served new → DepartureFrames served k
      left new k is (inl none) = inl (is ∙ none)
      left new k is (inr waits) = inr (is ∙ waits.0, waits.1)

  pub served_frames : (config : Config) (served : Service) (object mask : ℕ) → Served served (outcome config served object mask c s)
  served_frames config service.Schedule object mask =
      let new = changed_task change.Pause (task s c) in
      record {
        others = own c s new;
        frames = λ lt. ap (λ k. k.frames) (get_or-set_same s.tasks c new sleeping_task lt);
        owes = λ lt _. ap (λ k. k.owed) (get_or-set_same s.tasks c new sleeping_task lt);
        goes = λ e. cc;
      }
  served_frames config served object mask =
      on_outcome (Served served) c s (decision config served object mask c s)
      (on_tested s (λ p. Served served (shown_outcome p.answer (planned_system c p s))) (λ p. is_fitting served p.answer p.change)
      (λ p e. by_plan served (λ is. cc) p p.answer e) (decision config served object mask c s) refl)
