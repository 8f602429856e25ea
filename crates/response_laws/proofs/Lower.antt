-- In a busy period lower tasks do no more than the rest of one raised section, and one service in front of it.
use Rattle.std.proofs.Common.{◌≡◌, ℕ, ◌<◌, ◌≤◌, ◌⊎◌, ◌==◌, ◌&&◌, cond, ◌++◌, List, [], ◌∷◌, Bool, true, false, refl, sym, ap, ◌∙◌, subst, arith, inl, inr, is_some}
use Rattle.std.specs.List.{AllByRecursion}
use Rattle.std.proofs.lemmas.Bool.{cases_Bool, false≢true, true_from_ne_false, eq-eqb}
use Rattle.sloth_base.specs.declared.config.Config.{Config}
use Rattle.sloth_base.specs.declared.app.App.{App}
use Rattle.sloth_base.specs.declared.service.Event.{Event}
use Rattle.sloth_base.specs.declared.service.Event.TheVariants as event
use Rattle.sloth_base.specs.declared.service.Service.{Service}
use Rattle.sloth_base.specs.declared.service.Service.TheVariants as service
use Rattle.sloth_base.specs.ServiceCodes.{is_service}
use Rattle.osek_scheduler.specs.declared.state.TaskState.TheVariants as mode
use Rattle.std.specs.Prelude.{max, map}
use Rattle.std.proofs.lemmas.List.{get_or-set_same}
use Rattle.sloth_base.specs.Named.{declaration}
use Rattle.osek_scheduler.specs.State.{Frame, Task, System, sleeping_task, task}
use Rattle.osek_scheduler.specs.Priority.{ceiling, greatest, highest_priority}
use Rattle.osek_scheduler.specs.InTime.{is_admit}
use Rattle.osek_scheduler.specs.Services.{started_task, GoesOn, Leaves}
use Rattle.osek_scheduler.specs.Steps.{OsekStep, IsServiceStep}
use Rattle.osek_scheduler.specs.Apart.{priority_of, static_priority}
use Rattle.osek_scheduler.proofs.Apart.{at_task}
use Rattle.osek_blocking.specs.Blocking.{IsRaisedTo}
use Rattle.osek_blocking.proofs.Effects.{Effect}
use Rattle.osek_blocking.proofs.Once.{Blocks}
use Rattle.run_counts.specs.Stages.{Stage, end_of}
use Rattle.response_laws.specs.Turns.{is_other_event, is_other}
use Rattle.osek_scheduler.specs.State.{opening}
use Rattle.osek_scheduler.specs.Valid.{InState, IsValid}
use Rattle.osek_scheduler.proofs.Facts.{facts}
use Rattle.osek_scheduler.proofs.Leading.{follows_leads}
use Rattle.osek_scheduler.proofs.Steps.{opening_valid}
use Rattle.osek_blocking.proofs.Ordering.{opening_ordered}
use Rattle.run_counts.specs.Stages.{is_turn, run_stages}
use Rattle.response_laws.specs.Sums.{count}
use Rattle.response_laws.specs.Starts.{IsRaisedTurn, InSection, may_raise, OpensSection, AreOfSection, IsAlone, AreOfOne, Comes, with_one, with_section, PeriodsStartSo}
use Rattle.response_laws.proofs.Linked.{last_state, last_end, linked_front, linked_behind, each_append, stages_linked, stages_known}
use Rattle.response_laws.proofs.Linked.{Known, Linked}
use Rattle.run_counts.proofs.States.{not_suspended}
use Rattle.run_counts.proofs.StepCases.{Outside, boot_event, idle_event, arrival_event, tick_event, outside_of}
use Rattle.response_laws.proofs.Raising.{called_no_higher}
use Rattle.response_laws.proofs.Starting.{IsBusy}
use Rattle.response_laws.proofs.Settled.{Lower, from_same, only_mover}
use Rattle.response_laws.proofs.Blocking.{admitted_no_other, lower_of, effect_of, ordered_next, started_next, pressed_next, behind_one}

module _ (config : Config) (app : App) (h : ℕ) where
  -- the other event behind which task b blocks comes in a turn of it, in which it was raised, or may raise it
  abbrev RaisedBy : Event → System → (b : ℕ) → Type 0
  RaisedBy e s b = ((is_turn b e ≡ true) × IsRaisedTo config s b h) ⊎ (may_raise config b e ≡ true)

  raised_before : (t b : ℕ) (s next : System) → t ≡ b → priority_of config t (task next t) ≤ priority_of config t (task s t) → IsRaisedTo config next b h
      → IsRaisedTo config s b h
  raised_before t b s next same le up =
      let P : ℕ → Type 0 = λ v. priority_of config v (task next v) ≤ priority_of config v (task s v) in
      let less = subst P same le in
      omega (arith, less, up)

  -- a lower task that holds nothing and has no internal resource is not raised
  raised_alone : (t : ℕ) (own : Task) → own.held ≡ [] → own.raised ≡ false → {now : ℕ} → priority_of config t own ≡ now → static_priority config h ≤ now → Lower config app h t
      → ⊥
  raised_alone t own none off is up low =
      let held = ap (λ l. max (static_priority config t) (max (greatest (map (ceiling config) l)) (cond own.raised (highest_priority config) 0))) none in
      let raised = ap (λ c. max (static_priority config t) (max 0 (cond c (highest_priority config) 0))) off in
      omega (arith, held, raised, is, up, low)

  -- a lower task that is raised behind its entry or its way back, and holds nothing, is not preemptable
  raises_whole : (next : System) (t b : ℕ) (new : Task) → b ≡ t → Lower config app h t → task next t ≡ new → new.held ≡ []
      → new.raised ≡ (declaration config t).non → Blocks config h next b → ((t == b) && (declaration config b).non) ≡ true
  raises_whole next t b new same lower is held raised blocks =
      subst (λ u. ((t == u) && (declaration config u).non) ≡ true) (sym same)
      (ap (λ c. c && (declaration config t).non) (eq-eqb t t refl)
      ∙ true_from_ne_false (declaration config t).non
      (λ off.
      let P : ℕ → Type 0 = λ u. IsRaisedTo config next u h in
      raised_alone t new held (raised ∙ off) (ap (priority_of config t) (sym is)) (subst P same blocks.raised) lower))

  -- an event of no task raises none
  none_outside : (e : Event) (s next : System) → IsValid config app s → is_other_event config h e ≡ true → (b : ℕ) → Blocks config h s b
      → Outside config s next e → ⊥
  none_outside e s next v other b before (boot_event is off gives) = not_suspended (task s b).state before.active (v.asleep off b)
  none_outside e s next v other b before (idle_event none ticks gives) = none b before.declared (inr before.active)
  none_outside e s next v other b before (arrival_event line is) = false≢true (sym (admitted_no_other config h e (ap is_some is)) ∙ other)
  none_outside e s next v other b before (tick_event c is) = false≢true (sym (ap (is_other_event config h) is) ∙ other)

  raised_by : (e : Event) (s next : System) → OsekStep config app e s next → Effect config s next e → IsValid config app s → is_other_event config h e ≡ true
      → (b : ℕ) → Blocks config h next b → RaisedBy e s b
  raised_by (event.Enter t) s next step f v other b blocks =
      inr (raises_whole next t b new (only_mover config app h s next [] t f.moves (lower_of config app h t other) b blocks) (lower_of config app h t other)
      (ap (λ (x : System). task x t) step.4 ∙ get_or-set_same s.tasks t new sleeping_task (subst (λ n. t < n) (sym v.count) step.1.declared))
      (started_held (task s t).frames (task s t) ∙ (subst (InState config t (task s t)) step.2 (v.each t step.1.declared).in_state).0.holds) refl blocks)
    where
      new : Task
      new = record (started_task app t (task s t).frames (task s t)) { state = mode.Active; raised = (declaration config t).non }

      started_held : (fs : List Frame) (own : Task) → (started_task app t fs own).held ≡ own.held
      started_held [] own = refl
      started_held (frame ∷ outer) own = refl
  raised_by (event.Back t) s next step f v other b blocks =
      inr (raises_whole next t b new (only_mover config app h s next [] t f.moves (lower_of config app h t other) b blocks) (lower_of config app h t other)
      (ap (λ (x : System). task x t) step.4 ∙ get_or-set_same s.tasks t new sleeping_task (subst (λ n. t < n) (sym v.count) step.1.declared))
      ((subst (InState config t (task s t)) step.2 (v.each t step.1.declared).in_state).2 step.3) refl blocks)
    where
      new : Task
      new = record (task s t) { owed = false; raised = (declaration config t).non }
  raised_by (event.Run t func item result) s next step f v other b blocks =
      let same : t ≡ b = sym (only_mover config app h s next [] t f.moves (lower_of config app h t other) b blocks) in
      let new = record (task s t) { registers = step.1.meant.registers; frames = step.1.meant.frames } in
      let le = subst (λ (x : System). priority_of config t (task x t) ≤ priority_of config t (task s t)) (sym step.1.is)
      (at_task s t t new (λ k. priority_of config t k ≤ priority_of config t (task s t)) (omega arith) (λ _. omega arith)) in
      inl (eq-eqb t b same, raised_before t b s next same le blocks.raised)
  raised_by (event.Call t served status) s next step f v other b blocks = by (is_service served service.GetResource) refl
    where
      same : t ≡ b
      same = sym (only_mover config app h s next s.fresh t f.moves (lower_of config app h t other) b blocks)

      by : (g : Bool) → is_service served service.GetResource ≡ g → ((((t == b) ≡ true) × IsRaisedTo config s b h) ⊎ (((t == b) && g) ≡ true))
      by true is = inr (ap (λ c. c && true) (eq-eqb t b same))
      by false is =
          let le = subst (λ (x : System). priority_of config t (task x t) ≤ priority_of config t (task s t)) (sym step.1.2)
          (called_no_higher config t s app served (GoesOn status step.1.0) step.1.1 is) in
          inl (eq-eqb t b same, raised_before t b s next same le blocks.raised)
  raised_by (event.Left t served) s next step f v other b blocks = by (is_service served service.GetResource) refl
    where
      same : t ≡ b
      same = sym (only_mover config app h s next s.fresh t f.moves (lower_of config app h t other) b blocks)

      goes_on : (status : ℕ) (x y : System) → GoesOn status x ≡ Leaves y → ⊥
      goes_on status x y e = cc

      never : (served : Service) → IsServiceStep config app t served s (Leaves step.1.0) → is_service served service.GetResource ≡ true → ⊥
      never service.GetResource h is = goes_on _ _ step.1.0 h.is
      never served h is = absurd (false≢true is)

      by : (g : Bool) → is_service served service.GetResource ≡ g → RaisedBy (event.Left t served) s b
      by true is = absurd (never served step.1.1 is)
      by false is =
          let le = subst (λ (x : System). priority_of config t (task x t) ≤ priority_of config t (task s t)) (sym step.1.2)
          (called_no_higher config t s app served (Leaves step.1.0) step.1.1 is) in
          inl (eq-eqb t b same, raised_before t b s next same le blocks.raised)
  raised_by e s next step f v other b blocks =
      absurd (none_outside e s next v other b (from_same config app h s next b (f.same b) blocks) (outside_of config app e s next step refl refl))

  opens_section : (x : Stage) → Known config app x → (b : ℕ) → Blocks config h x.next b → is_other config h x ≡ true
      → IsRaisedTurn config h b x ⊎ (may_raise config b x.stamped.event ≡ true)
  opens_section x k b blocks other = by (raised_by x.stamped.event x.found x.next k.step (effect_of config app h x k) k.valid other b blocks)
    where
      by : RaisedBy x.stamped.event x.found b → IsRaisedTurn config h b x ⊎ (may_raise config b x.stamped.event ≡ true)
      by (inl (turn, raised)) = inl (record { turn = turn; raised = raised })
      by (inr may) = inr may

  -- an admission is no other event
  pub admit_is_none : (x : Stage) → is_admit x.stamped ≡ true → is_other config h x ≡ false
  admit_is_none x is = admitted_no_other config h x.stamped.event is

  -- a stage that is no admission, and those behind it
  opened : (x : Stage) (xs : List Stage) → is_admit x.stamped ≡ false → Known config app x → Linked (end_of x) x.next xs → AllByRecursion (Known config app) xs
      → AllByRecursion (IsBusy config h) xs → Comes config h (x ∷ xs)
  opened x xs other k l ks busy = by (behind_one config app h (end_of x) x.next xs l ks busy (started_next config app h x k) (ordered_next config app h x k) (pressed_next config app h x k other))
    where
      by : (count (is_other config h) xs ≤ 0) ⊎ ((b : ℕ) × Blocks config h x.next b × InSection config h b xs) → Comes config h (x ∷ xs)
      by (inl none) = with_one (subst (λ a. IsAlone config h a (AreOfOne config h xs) xs) (sym other) none)
      by (inr (b, blocks, section)) =
          with_section b (blocks.declared, blocks.lower)
          (subst (λ a. OpensSection config h b a (AreOfSection config h b xs) x xs) (sym other)
          ((λ is. opens_section x k b blocks is), section))

  in_front : (x : Stage) (xs : List Stage) → Known config app x → Linked (end_of x) x.next xs → AllByRecursion (Known config app) xs
      → AllByRecursion (IsBusy config h) xs → Comes config h xs → Comes config h (x ∷ xs)
  in_front x xs k l ks busy rest = by (cases_Bool (is_admit x.stamped)) rest
    where
      by : (is_admit x.stamped ≡ true) ⊎ (is_admit x.stamped ≡ false) → Comes config h xs → Comes config h (x ∷ xs)
      by (inr other) more = opened x xs other k l ks busy
      by (inl is) (with_one one) = with_one (subst (λ a. IsAlone config h a (AreOfOne config h xs) xs) (sym is) one)
      by (inl is) (with_section b lower section) =
          with_section b lower (subst (λ a. OpensSection config h b a (AreOfSection config h b xs) x xs) (sym is) section)

  comes_behind : (at : ℕ) (s : System) (xs : List Stage) → Linked at s xs → AllByRecursion (Known config app) xs → AllByRecursion (IsBusy config h) xs → Comes config h xs
  comes_behind at s [] l k busy = with_one tt
  comes_behind at s (x ∷ xs) l k busy = in_front x xs k.0 l.2 k.1 busy.1 (comes_behind (end_of x) x.next xs l.2 k.1 busy.1)

pub periods_start_so : PeriodsStartSo
periods_start_so config app events h once wf run first period busy =
    in_front config app h first period ks.0 links ks.1 busy.busy (comes_behind config app h (end_of first) first.next period links ks.1 busy.busy)
  where
    known : AllByRecursion (Known config app) (run_stages config app events)
    known =
        stages_known config app (facts config app wf) 0 (opening config app) run.0 events (opening_ordered config app) (opening_valid config app)
        (follows_leads config app [] (opening config app) events run.0 run.1)

    ks : AllByRecursion (Known config app) (first ∷ period)
    ks =
        (each_append (Known config app) (first ∷ period) busy.behind
        (each_append (Known config app) busy.before ((first ∷ period) ++ busy.behind) (subst (AllByRecursion (Known config app)) busy.part known)).1).0

    links : Linked (end_of first) first.next period
    links =
        (linked_front (last_end 0 busy.before) (last_state (opening config app) busy.before) (first ∷ period) busy.behind
        (linked_behind 0 (opening config app) busy.before ((first ∷ period) ++ busy.behind)
        (subst (Linked 0 (opening config app)) busy.part (stages_linked config app 0 (opening config app) events)))).2
