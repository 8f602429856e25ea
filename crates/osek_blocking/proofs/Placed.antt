-- What an event does to where the tasks stand, that an event of a task does this, and that each stands where a walk of it leads.
use Rattle.std.proofs.Common.{◌≡◌, ℕ, ◌<◌, ◌==◌, ◌&&◌, ◌⊎◌, Bool, List, [], ◌∷◌, true, false, cond, length, None, refl, sym, ap, ◌∙◌, subst, inl, inr, is_some}
use Rattle.std.specs.Prelude.{◌≢◌}
use Rattle.std.proofs.lemmas.Bool.{cases_eq, false≢true, and_parts, eq-eqb}
use Rattle.std.proofs.lemmas.Option.{same_Some}
use Rattle.std.proofs.lemmas.List.{get_or-set_same}
use Rattle.sloth_base.specs.declared.config.Config.{Config}
use Rattle.sloth_base.specs.declared.app.App.{App}
use Rattle.sloth_base.specs.declared.service.Event.{Event}
use Rattle.sloth_base.specs.declared.service.Event.TheVariants as event
use Rattle.sloth_base.specs.declared.service.Service.{Service}
use Rattle.sloth_base.specs.declared.service.Service.TheVariants as service
use Rattle.sloth_base.specs.Named.{function, declaration, body_of}
use Rattle.sloth_base.specs.Options.{is_number}
use Rattle.sloth_base.specs.ServiceCodes.{is_service}
use Rattle.sloth_base.proofs.Services.{same_service}
use Rattle.sloth_base.specs.declared.app.Op.TheVariants as op
use Rattle.call_graph.proofs.Itself.{body_is}
use Rattle.sloth_base.specs.Status.{E_OS_LIMIT}
use Rattle.sloth_base.specs.Events.{named_task}
use Rattle.osek_scheduler.specs.declared.change.TaskChange.TheVariants as change
use Rattle.osek_scheduler.specs.declared.change.Other.TheVariants as other
use Rattle.osek_scheduler.specs.declared.state.TaskState.TheVariants as mode
use Rattle.osek_scheduler.specs.State.{Frame, Task, System, sleeping_task, task, with_task, opening}
use Rattle.osek_scheduler.specs.Services.{started_task, moved_frames, ServiceOutcome, GoesOn, Leaves}
use Rattle.osek_scheduler.specs.Outcomes.{plan, planned_system, IfSuspended, outcome_of, status_decision, leave_decision, outcome}
use Rattle.osek_scheduler.specs.Steps.{OsekStep, IsServiceStep, IsItemStep}
use Rattle.osek_scheduler.specs.Valid.{IsCalledFrom, IsValid}
use Rattle.osek_scheduler.proofs.Facts.{Facts}
use Rattle.osek_scheduler.proofs.Going.{running}
use Rattle.osek_scheduler.proofs.Stacks.{has_body, in_body_alone}
use Rattle.osek_scheduler.proofs.Steps.{asleep_at}
use Rattle.osek_blocking.specs.Walks.{first_position, chains_itself, IsPositionStep}
use Rattle.osek_blocking.proofs.Reached.{IsReached, reached_next, reached_first}
use Rattle.osek_blocking.proofs.Frames.{KeepsOthers, KeepsFrames, own, admitted_keeps, Served, served_frames}
use Rattle.osek_blocking.proofs.Stepping.{position_of, StepsOn, runs, serves}

module _ (app : App) where
  -- a task with frames stands where a walk of it leads
  abbrev pub IsPlaced : ℕ → List Frame → Type 0
  IsPlaced t frames = (frames ≡ []) ⊎ IsReached app t (position_of frames)

  abbrev pub Placed : System → Type 0
  Placed s = (u : ℕ) → IsPlaced u (task s u).frames

-- ---- events

-- the running task goes one step on
pub record Advances (app : App) (t : ℕ) (s next : System) : Type 0 where
  pub others : KeepsOthers t s next
  pub steps : StepsOn app (task s t).frames (task next t).frames ((task next t).owed ≡ true)

-- the task leaves
pub record Departs (app : App) (t : ℕ) (s next : System) : Type 0 where
  pub others : KeepsOthers t s next
  pub gone : (task next t).state ≢ mode.Active
  pub frames : ((task next t).frames ≡ []) ⊎ IsPositionStep app (position_of (task s t).frames) (position_of (task next t).frames)
  pub held : (task next t).held ≡ (task s t).held

-- the task is entered
pub record Begins (app : App) (t : ℕ) (s next : System) : Type 0 where
  pub others : KeepsOthers t s next
  pub frames : (position_of (task next t).frames ≡ first_position app t) ⊎ ((task next t).frames ≡ (task s t).frames)

-- the task comes back
pub record Returns (t : ℕ) (s next : System) : Type 0 where
  pub others : KeepsOthers t s next
  pub frames : (task next t).frames ≡ (task s t).frames

-- what each event does to the frames
abbrev pub FrameEffect : App → System → System → Event → Type 0
FrameEffect app s next (event.Enter t) = Begins app t s next
FrameEffect app s next (event.Run t func item result) = Advances app t s next
FrameEffect app s next (event.Call t served status) = Advances app t s next
FrameEffect app s next (event.Left t served) = Departs app t s next
FrameEffect app s next (event.Back t) = Returns t s next
FrameEffect app s next _ = KeepsFrames s next

module _ (config : Config) (app : App) (w : Facts config app) (s next : System) (v : IsValid config app s) where
  at_least : (t : ℕ) → t < length config.tasks → t < length s.tasks
  at_least t lt = subst (λ n. t < n) (sym v.count) lt

  here : (t : ℕ) (new : Task) → t < length config.tasks → task (with_task s t new) t ≡ new
  here t new lt = get_or-set_same s.tasks t new sleeping_task (at_least t lt)

  enters : (t : ℕ) → OsekStep config app (event.Enter t) s next → Begins app t s next
  enters t h =
      subst (Begins app t s) (sym h.4)
      (record { others = own t s new; frames = subst Fine (sym (here t new h.1.declared)) (by (task s t).frames) })
    where
      new : Task
      new = record (started_task app t (task s t).frames (task s t)) { state = mode.Active; raised = (declaration config t).non }

      Fine : Task → Type 0
      Fine k = (position_of k.frames ≡ first_position app t) ⊎ (k.frames ≡ (task s t).frames)

      by : (fs : List Frame) → (position_of (started_task app t fs (task s t)).frames ≡ first_position app t) ⊎ ((started_task app t fs (task s t)).frames ≡ (task s t).frames)
      by [] = inl refl
      by (frame ∷ outer) = inr refl

  executes : (t func item result : ℕ) → IsItemStep config app t func item result s next → Advances app t s next
  executes t func item result h =
      subst (Advances app t s) (sym h.is)
      (record {
        others = own t s new;
        steps = subst (λ (k : Task). StepsOn app (task s t).frames k.frames (k.owed ≡ true)) (sym (here t new h.top.declared))
            (subst (λ fs. StepsOn app fs h.meant.frames ((task s t).owed ≡ true)) (sym h.at.frames) never);
      })
    where
      new : Task
      new = record (task s t) { registers = h.meant.registers; frames = h.meant.frames }

      never : StepsOn app (h.at.frame ∷ h.at.outer) h.meant.frames ((task s t).owed ≡ true)
      never =
          let r = running config app s t h.operation v h.top.declared h.at in
          let k = runs app (task s t).registers h.at.frame h.at.outer s.symbols h.operation h.meant r.item h.means in
          record { walks = k.walks; counts = k.counts; schedules = λ e. absurd (k.schedules e) }

  module _ (t : ℕ) (served : Service) (after : System) where
    calls : (status : ℕ) → IsServiceStep config app t served s (GoesOn status after) → Advances app t s after
    calls status h =
        let r = running config app s t _ v h.top.declared h.at in
        let g = subst (Served t s served) h.is (served_frames t s config served h.call.object h.call.mask) in
        let there = at_least t h.top.declared in
        let step = serves app (task s t).registers h.at.frame h.at.outer s.symbols h.call ((task after t).owed ≡ true) r.item
        (λ e. g.goes (sym h.same ∙ e)) (other_chained (chains_itself (function app h.at.frame.func) (op.Serve h.call)) refl)
        (λ e. g.owes there (sym h.same ∙ e)) in
        record {
          others = g.others;
          steps = subst (λ new. StepsOn app (task s t).frames new ((task after t).owed ≡ true)) (sym (g.frames there ∙ ap moved_frames h.at.frames))
              (subst (λ old. StepsOn app old (moved_frames (h.at.frame ∷ h.at.outer)) ((task after t).owed ≡ true)) (sym h.at.frames) step);
        }
      where
        -- a ChainTask of its caller leaves
        left_first : (b : Bool) (x : System) (y : ServiceOutcome) → b ≡ true → cond b (Leaves x) y ≡ GoesOn status after → ⊥
        left_first true x y e is = cc
        left_first false x y e is = false≢true e

        not_itself : h.call.service ≡ service.ChainTask → h.call.object ≡ t → ⊥
        not_itself chains object =
            let chained = subst (λ x. outcome config x h.call.object h.call.mask t s ≡ GoesOn status after) (sym h.same ∙ chains) h.is in
            left_first (t == t) (planned_system t (plan None change.End (other.Activate t)) s)
            (outcome_of t s (IfSuspended t (leave_decision change.End (other.Activate t)) (status_decision E_OS_LIMIT))) (eq-eqb t t refl)
            (subst (λ n. outcome config service.ChainTask n h.call.mask t s ≡ GoesOn status after) object chained)

        other_chained : (b : Bool) → chains_itself (function app h.at.frame.func) (op.Serve h.call) ≡ b → b ≡ false
        other_chained false e = refl
        other_chained true e =
            let f = h.at.frame.func in
            let both = and_parts (is_service h.call.service service.ChainTask) (is_number h.call.object (function app f).task) e in
            let of_task = body_is h.call.object (function app f).task both.1 in
            let r = running config app s t _ v h.top.declared h.at in
            let alone = in_body_alone config app w t f h.at.outer r.called h.call.object of_task in
            let own : f ≡ body_of app.funcs t = subst (IsCalledFrom app t f) alone r.called in
            let body = has_body config app w t h.top.declared in
            absurd (not_itself (same_service h.call.service service.ChainTask both.0)
            (same_Some h.call.object t (sym of_task ∙ ap (λ x. (function app x).task) own ∙ body.1)))

    quits : IsServiceStep config app t served s (Leaves after) → Departs app t s after
    quits h =
        let g = subst (Served t s served) h.is (served_frames t s config served h.call.object h.call.mask) in
        let there = at_least t h.top.declared in
        record { others = g.others; gone = g.gone there; frames = by (g.frames there); held = g.held there }
      where
        by : ((task after t).frames ≡ []) ⊎ (((task after t).frames ≡ moved_frames (task s t).frames) × (served ≡ service.WaitEvent))
            → ((task after t).frames ≡ []) ⊎ IsPositionStep app (position_of (task s t).frames) (position_of (task after t).frames)
        by (inl e) = inl e
        by (inr e) =
            let r = running config app s t _ v h.top.declared h.at in
            let not_ended : h.call.service ≢ service.TerminateTask = λ k. differ (sym e.1 ∙ sym h.same ∙ k) in
            let step = serves app (task s t).registers h.at.frame h.at.outer s.symbols h.call (Unit {0}) r.item not_ended
            (ap (λ x. is_service x service.ChainTask && is_number h.call.object (function app h.at.frame.func).task) (h.same ∙ e.1)) (λ _. tt) in
            inr (subst (λ new. IsPositionStep app (position_of (task s t).frames) (position_of new)) (sym (e.0 ∙ ap moved_frames h.at.frames))
            (subst (λ old. IsPositionStep app (position_of old) (position_of (moved_frames (h.at.frame ∷ h.at.outer)))) (sym h.at.frames) step.walks))
          where
            differ : service.WaitEvent ≡ service.TerminateTask → ⊥
            differ k = cc

  pub task_frames : (e : Event) → OsekStep config app e s next → is_some (named_task e) ≡ true → FrameEffect app s next e
  task_frames (event.Admit t) h named = subst (KeepsFrames s) (sym h.2) (admitted_keeps s t)
  task_frames (event.Enter t) h named = enters t h
  task_frames (event.Run t func item result) h named = executes t func item result h.1
  task_frames (event.Call t served status) h named = subst (Advances app t s) (sym h.1.2) (settled_advances t h.1.0 (calls t served h.1.0 status h.1.1))
    where
      settled_advances : (t : ℕ) (after : System) → Advances app t s after → Advances app t s (record after { fresh = [] })
      settled_advances t after a = record { others = a.others; steps = a.steps }
  task_frames (event.Left t served) h named = subst (Departs app t s) (sym h.1.2) (settled_departs t h.1.0 (quits t served h.1.0 h.1.1))
    where
      settled_departs : (t : ℕ) (after : System) → Departs app t s after → Departs app t s (record after { fresh = [] })
      settled_departs t after a = record { others = a.others; gone = a.gone; frames = a.frames; held = a.held }
  task_frames (event.Back t) h named =
      subst (Returns t s) (sym h.4)
      (record { others = own t s new; frames = ap (λ k. k.frames) (here t new h.1.declared) })
    where
      new : Task
      new = record (task s t) { owed = false; raised = (declaration config t).non }
  task_frames e h named = absurd (false≢true named)

-- ---- each stands where a walk leads

module _ (config : Config) (app : App) where
  still_placed : (s next : System) → Placed app s → KeepsFrames s next → Placed app next
  still_placed s next p q u = subst (IsPlaced app u) (sym (q u).frames) (p u)

  split : (s next : System) (t : ℕ) → Placed app s → KeepsOthers t s next → IsPlaced app t (task next t).frames → Placed app next
  split s next t p q own u = by (cases_eq u t)
    where
      by : (u ≡ t) ⊎ (u ≡ t → ⊥) → IsPlaced app u (task next u).frames
      by (inl e) = subst (λ x. IsPlaced app x (task next x).frames) (sym e) own
      by (inr n) = subst (IsPlaced app u) (sym (q u n).frames) (p u)

  stepped : (t : ℕ) (old new : List Frame) → IsPlaced app t old → IsPositionStep app (position_of old) (position_of new) → IsPlaced app t new
  stepped t old new (inl e) step = absurd (subst (λ fs. IsPositionStep app (position_of fs) (position_of new)) e step)
  stepped t old new (inr r) step = inr (reached_next app t (position_of old) (position_of new) r step)

  departed : (t : ℕ) (old new : List Frame) → IsPlaced app t old → (new ≡ []) ⊎ IsPositionStep app (position_of old) (position_of new) → IsPlaced app t new
  departed t old new p (inl e) = inl e
  departed t old new p (inr step) = stepped t old new p step

  begun : (t : ℕ) (old new : List Frame) → IsPlaced app t old → (position_of new ≡ first_position app t) ⊎ (new ≡ old) → IsPlaced app t new
  begun t old new p (inl e) = inr (subst (IsReached app t) (sym e) (reached_first app t))
  begun t old new p (inr e) = subst (IsPlaced app t) (sym e) p

  pub step_placed : (s next : System) (e : Event) → FrameEffect app s next e → Placed app s → Placed app next
  step_placed s next (event.Enter t) f p = split s next t p f.others (begun t _ _ (p t) f.frames)
  step_placed s next (event.Run t func item result) f p = split s next t p f.others (stepped t _ _ (p t) f.steps.walks)
  step_placed s next (event.Call t served status) f p = split s next t p f.others (stepped t _ _ (p t) f.steps.walks)
  step_placed s next (event.Left t served) f p = split s next t p f.others (departed t _ _ (p t) f.frames)
  step_placed s next (event.Back t) f p = split s next t p f.others (subst (IsPlaced app t) (sym f.frames) (p t))
  step_placed s next e f p = still_placed s next p f

  pub opening_placed : Placed app (opening config app)
  opening_placed u = inl (ap (λ k. k.frames) (asleep_at config.tasks u))
