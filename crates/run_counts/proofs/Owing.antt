-- What a task owes behind an event: a way back behind its own Schedule alone.
use Rattle.std.proofs.Common.{◌≡◌, ◌∙◌, ℕ, ◌<◌, ◌≤◌, List, [], ◌∷◌, Bool, true, false, cond, refl, sym, ap, subst, arith}
use Rattle.std.proofs.lemmas.Bool.{false≢true}
use Rattle.std.proofs.lemmas.List.{get_or-set_same}
use Rattle.sloth_base.specs.declared.config.Config.{Config}
use Rattle.sloth_base.specs.declared.app.App.{App}
use Rattle.sloth_base.specs.declared.service.Event.TheVariants as event
use Rattle.sloth_base.specs.declared.service.Service.{Service}
use Rattle.sloth_base.specs.declared.service.Service.TheVariants as service
use Rattle.sloth_base.specs.Named.{declaration}
use Rattle.osek_scheduler.specs.declared.change.TaskChange.{TaskChange}
use Rattle.osek_scheduler.specs.declared.change.TaskChange.TheVariants as change
use Rattle.osek_scheduler.specs.declared.change.Plan.{Plan}
use Rattle.osek_scheduler.specs.declared.state.TaskState.TheVariants as mode
use Rattle.osek_scheduler.specs.State.{Frame, Task, System, sleeping_task, task, with_task}
use Rattle.osek_scheduler.specs.Services.{started_task}
use Rattle.osek_scheduler.specs.Changes.{changed_task, with_change}
use Rattle.osek_scheduler.specs.Outcomes.{planned_system, shown_outcome, decision, outcome}
use Rattle.osek_scheduler.specs.Steps.{OsekStep}
use Rattle.osek_scheduler.specs.Valid.{InState, IsValid}
use Rattle.osek_scheduler.proofs.Apart.{at_task}
use Rattle.osek_scheduler.proofs.Outcomes.{on_tested, on_outcome, KeptByOthers, others_keep, shown_after}
use Rattle.osek_scheduler.proofs.ServiceStates.{IsAfter}

-- what a task owes in counts: the way back from Schedule
abbrev pub debt : (t : ℕ) → System → ℕ
debt t s = cond (task s t).owed 4 0

pub at_most_four : (b : Bool) → cond b 4 0 ≤ 4
at_most_four true = omega arith
at_most_four false = omega arith

-- the changes that leave what is owed
abbrev is_calm : TaskChange → Bool
is_calm change.Pause = false
is_calm (change.ComeBack non) = false
is_calm _ = true

calm_owes : (c : TaskChange) (k : Task) → is_calm c ≡ true → (changed_task c k).owed ≡ k.owed
calm_owes change.Pause k e = absurd (false≢true e)
calm_owes (change.ComeBack non) k e = absurd (false≢true e)
calm_owes c k e = refl

module _ (u : ℕ) (b : Bool) where
  abbrev Owes : System → Type 0
  Owes s = (task s u).owed ≡ b

  -- a task in the place of one that owes the same
  placed : (s : System) (t : ℕ) (new : Task) → new.owed ≡ (task s t).owed → Owes s → Owes (with_task s t new)
  placed s t new same h =
      at_task s t u new (λ k. k.owed ≡ b) h (λ e. same ∙ (let P : ℕ → Type 0 = λ v. (task s v).owed ≡ b in subst P e h))

  kept_owing : KeptByOthers Owes
  kept_owing = record {
    activates = λ x t h. placed x t (record (task x t) { state = mode.Ready }) refl h;
    sets = λ x t events h. placed x t (record (task x t) { events = events }) refl h;
    stores = λ x symbols h. h;
    sets_alarms = λ x a new h. h;
  }

  plan_owes : (t : ℕ) (s : System) (p : Plan) → is_calm p.change ≡ true → Owes s → Owes (planned_system t p s)
  plan_owes t s p calm h =
      others_keep Owes kept_owing p.other (with_change t p.change s) (placed s t (changed_task p.change (task s t)) (calm_owes p.change (task s t) calm) h)

  service_owes : (config : Config) (served : Service) (object mask t : ℕ) (s : System) → (served ≡ service.Schedule → ⊥) → Owes s
      → IsAfter Owes (outcome config served object mask t s)
  service_owes config service.Schedule object mask t s other h = absurd (other refl)
  service_owes config served object mask t s other h =
      on_outcome (IsAfter Owes) t s (decision config served object mask t s)
      (on_tested s (λ p. IsAfter Owes (shown_outcome p.answer (planned_system t p s))) (λ p. is_calm p.change)
      (λ p calm. shown_after Owes p.answer (planned_system t p s) (plan_owes t s p calm h)) (decision config served object mask t s) refl)

-- what it takes where a task calls it: the way back from Schedule
abbrev pub pause : Service → ℕ
pause service.Schedule = 4
pause served = 0

module _ (config : Config) (app : App) where
  pub entered_owes : (t u : ℕ) (s next : System) → OsekStep config app (event.Enter u) s next → (task next t).owed ≡ (task s t).owed
  entered_owes t u s next h =
      subst (λ x. (task x t).owed ≡ (task s t).owed) (sym h.4)
      (placed t (task s t).owed s u (record (started_task app u (task s u).frames (task s u)) { state = mode.Active; raised = (declaration config u).non })
      (by (task s u).frames) refl)
    where
      by : (fs : List Frame) → (started_task app u fs (task s u)).owed ≡ (task s u).owed
      by [] = refl
      by (frame ∷ outer) = refl

  pub ran_owes : (u func item result : ℕ) (s next : System) → OsekStep config app (event.Run u func item result) s next → (task next u).owed ≡ false
  ran_owes u func item result s next h =
      subst (λ x. (task x u).owed ≡ false) (sym h.1.is)
      (placed u false s u (record (task s u) { registers = h.1.meant.registers; frames = h.1.meant.frames }) refl h.1.at.free)

  pub came_back_owes : (u : ℕ) (s next : System) → IsValid config app s → OsekStep config app (event.Back u) s next → (task next u).owed ≡ false
  came_back_owes u s next v h =
      subst (λ x. (task x u).owed ≡ false) (sym h.4)
      (ap (λ k. k.owed) (get_or-set_same s.tasks u (record (task s u) { owed = false; raised = (declaration config u).non }) sleeping_task
      (subst (λ n. u < n) (sym v.count) h.1.declared)))

  -- behind a call of another service than Schedule nothing is owed
  pub called_owes : (u : ℕ) (served : Service) (status : ℕ) (s next : System) → OsekStep config app (event.Call u served status) s next
      → (served ≡ service.Schedule → ⊥) → (task next u).owed ≡ false
  called_owes u served status s next h other =
      subst (λ x. (task x u).owed ≡ false) (sym h.1.2)
      (subst (IsAfter (λ x. (task x u).owed ≡ false)) h.1.1.is
      (service_owes u false config served h.1.1.call.object h.1.1.call.mask u s other h.1.1.at.free))

  pub called_debt : (u : ℕ) (served : Service) (status : ℕ) (s next : System) → OsekStep config app (event.Call u served status) s next
      → debt u next ≤ pause served
  called_debt u service.Schedule status s next h = at_most_four (task next u).owed
  called_debt u served status s next h =
      let none : debt u next ≡ 0 = ap (λ b. cond b 4 0) (called_owes u served status s next h (λ e. cc)) in
      omega (arith, none)

  -- a task that is Ready owes nothing
  pub ready_owes : (u : ℕ) (s next : System) → IsValid config app s → OsekStep config app (event.Enter u) s next → (task s u).owed ≡ false
  ready_owes u s next v h =
      let own = v.each u h.1.declared in
      (subst (InState config u (task s u)) h.2 own.in_state).0.not_owed
