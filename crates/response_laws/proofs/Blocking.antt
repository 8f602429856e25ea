-- Behind an event that is no admission, in states that are not quiet, lower tasks have one raised section at most, of the task that blocks.
use Rattle.std.proofs.Common.{◌≡◌, ℕ, ◌<◌, ◌≤◌, ◌⊎◌, ◌==◌, not, cond, List, [], ◌∷◌, true, false, length, refl, sym, ap, ◌∙◌, subst, arith, inl, inr, is_some, Some}
use Rattle.std.specs.List.{AllByRecursion}
use Rattle.std.proofs.lemmas.Bool.{cases_lt, cases_Bool, false≢true, true≢false, leb-false, not-true, eq-eqb, eqb-true}
use Rattle.sloth_base.specs.Options.{is_number}
use Rattle.sloth_base.specs.declared.config.Config.{Config}
use Rattle.sloth_base.specs.declared.app.App.{App}
use Rattle.sloth_base.specs.declared.service.Event.{Event}
use Rattle.sloth_base.specs.declared.service.Event.TheVariants as event
use Rattle.sloth_base.specs.Events.{admitted_line, served_task}
use Rattle.osek_scheduler.specs.State.{System, task}
use Rattle.osek_scheduler.specs.InTime.{is_admit}
use Rattle.osek_scheduler.specs.Steps.{OsekStep}
use Rattle.osek_scheduler.specs.Apart.{priority_of, static_priority, IsActive}
use Rattle.osek_blocking.specs.Blocking.{IsRaisedTo}
use Rattle.osek_blocking.proofs.Effects.{Ordered, Moves, Effect}
use Rattle.osek_blocking.proofs.Ordering.{effect, step_ordered}
use Rattle.osek_blocking.proofs.Once.{Blocks, BlocksAlone, blocker}
use Rattle.run_counts.specs.Stages.{Stage, end_of}
use Rattle.response_laws.specs.Sums.{is_over}
use Rattle.osek_blocking.specs.Sections.{IsLower}
use Rattle.run_counts.specs.Stages.{turn_task}
use Rattle.response_laws.specs.Turns.{is_other_event, is_other}
use Rattle.response_laws.specs.Busy.{is_quiet}
use Rattle.osek_scheduler.specs.Priority.{is_active}
use Rattle.osek_scheduler.proofs.Tests.{Decides-is_active}
use Rattle.run_counts.specs.Stages.{is_turn}
use Rattle.run_counts.proofs.StepCases.{Outside, boot_event, idle_event, arrival_event, tick_event, outside_of}
use Rattle.run_counts.proofs.TaskCases.{TaskCase, entry_case, work_case, service_case, rest_case, task_case}
use Rattle.response_laws.specs.Sums.{count}
use Rattle.response_laws.specs.Starts.{IsRaisedTurn, InSection}
use Rattle.response_laws.proofs.Attributed.{IsDeclared, declared_by_step}
use Rattle.response_laws.proofs.Linked.{Known, Linked}
use Rattle.response_laws.proofs.Booted.{HasStarted, has_started}
use Rattle.response_laws.proofs.Starting.{IsBusy}
use Rattle.response_laws.proofs.Settled.{Lower, IsUnsettled, quiet_if, settled_quiet, top_raised, call_raised, no_lower_entry, no_new, settles, unsettled_before}

-- the event is a service of a task that is not raised to h
pub record IsLowService (config : Config) (h : ℕ) (x : Stage) : Type 0 where
  pub caller : ℕ
  pub serves : served_task x.stamped.event ≡ Some caller
  pub active : IsActive x.found caller
  pub low : priority_of config caller (task x.found caller) < static_priority config h

-- the caller of a service is the task in whose turn that comes
caller_is : (t : ℕ) (e : Event) → is_number t (turn_task e) ≡ true → is_some (served_task e) ≡ true → served_task e ≡ Some t
caller_is t (event.Call u served status) is serves = ap Some (eqb-true u t is)
caller_is t (event.Left u served) is serves = ap Some (eqb-true u t is)
caller_is t e is serves = absurd (false≢true serves)

-- an admission is no other event
pub admitted_no_other : (config : Config) (h : ℕ) (e : Event) → is_some (admitted_line e) ≡ true → is_other_event config h e ≡ false
admitted_no_other config h (event.Admit t) is = refl
admitted_no_other config h (event.Due c) is = refl
admitted_no_other config h e is = absurd (false≢true is)

module _ (config : Config) (app : App) (h : ℕ) where
  -- ---- other events

  pub lower_of : (t : ℕ) → not (is_over config h t) ≡ true → Lower config app h t
  lower_of t is = leb-false (static_priority config h) (static_priority config t) (not-true (is_over config h t) is)

  -- an event of lower task t, which is raised or calls a service
  record Opens (e : Event) (s next : System) : Type 0 where
    mover : ℕ
    lower : Lower config app h mover
    others : List ℕ
    moves : Moves config others mover s next
    turn : is_number mover (turn_task e) ≡ true
    active : IsActive s mover
    how : IsRaisedTo config s mover h ⊎ (is_some (served_task e) ≡ true)

  same_number : (t : ℕ) → (t == t) ≡ true
  same_number t = eq-eqb t t refl

  opening_of : (e : Event) (s next : System) (t : ℕ) (others : List ℕ) → Lower config app h t → Moves config others t s next → is_number t (turn_task e) ≡ true → IsActive s t
      → IsRaisedTo config s t h ⊎ (is_some (served_task e) ≡ true) → Opens e s next
  opening_of e s next t others lower moves turn active how =
      record { mover = t; lower = lower; others = others; moves = moves; turn = turn; active = active; how = how }

  -- an event of no task is no other one behind the start, where not all is quiet
  none_outside : (e : Event) (s next : System) → is_quiet config h s ≡ false → HasStarted s → is_other_event config h e ≡ true → Outside config s next e → ⊥
  none_outside e s next busy on other (boot_event is off gives) = true≢false (sym on ∙ off)
  none_outside e s next busy on other (idle_event none ticks gives) = true≢false (sym (quiet_if config app h s (λ u lt over due. none u lt due) ticks) ∙ busy)
  none_outside e s next busy on other (arrival_event line is) = false≢true (sym (admitted_no_other config h e (ap is_some is)) ∙ other)
  none_outside e s next busy on other (tick_event c is) = false≢true (sym (ap (is_other_event config h) is) ∙ other)

  opens : (e : Event) (s next : System) → OsekStep config app e s next → Effect config s next e → is_quiet config h s ≡ false → HasStarted s
      → is_other_event config h e ≡ true → Opens e s next
  opens (event.Enter t) s next step f busy on other = absurd (no_lower_entry config app h s t f.moves.top f.was busy (lower_of t other))
  opens (event.Run t func item result) s next step f busy on other =
      opening_of (event.Run t func item result) s next t [] (lower_of t other) f.moves (same_number t) f.was (inl (top_raised config app h s t f.moves.top f.was busy))
  opens (event.Back t) s next step f busy on other =
      opening_of (event.Back t) s next t [] (lower_of t other) f.moves (same_number t) f.was (inl (top_raised config app h s t f.moves.top f.was busy))
  opens (event.Call t served status) s next step f busy on other =
      opening_of (event.Call t served status) s next t s.fresh (lower_of t other) f.moves (same_number t) f.was (inr refl)
  opens (event.Left t served) s next step f busy on other =
      opening_of (event.Left t served) s next t s.fresh (lower_of t other) f.moves (same_number t) f.was (inr refl)
  opens e s next step f busy on other = absurd (none_outside e s next busy on other (outside_of config app e s next step refl refl))

  -- in a settled state it is raised
  raised_of : (e : Event) (s next : System) → Effect config s next e → is_quiet config h s ≡ false → (IsUnsettled config app h s → ⊥) → (t : ℕ) → Lower config app h t
      → is_number t (turn_task e) ≡ true → IsRaisedTo config s t h
  raised_of e s next f busy settled t lower is = by (task_case config s next t e f)
    where
      by : TaskCase config s next t e → IsRaisedTo config s t h
      by (work_case turn out calls f) = top_raised config app h s t f.moves.top f.was busy
      by (service_case turn out calls f) = call_raised config app h s t f.moves.top f.was settled
      by (entry_case entry away f) = absurd (true≢false (sym is ∙ away))
      by (rest_case away out same ready) = absurd (true≢false (sym is ∙ away))

  -- ---- the stages of a period

  -- the state is settled, if it is not quiet
  abbrev pub Pressed : System → Type 0
  Pressed s = is_quiet config h s ≡ false → IsUnsettled config app h s → ⊥

  module _ (x : Stage) (k : Known config app x) where
    pub effect_of : Effect config x.found x.next x.stamped.event
    effect_of = effect config app x.found x.next k.ordered x.stamped.event k.step

    pub ordered_next : Ordered config x.next
    ordered_next = step_ordered config app x.found x.next k.ordered x.stamped.event k.step

    pub started_next : HasStarted x.next
    started_next = has_started config app x.stamped.event x.found x.next k.step

    pub pressed_next : is_admit x.stamped ≡ false → Pressed x.next
    pressed_next other busy unsettled =
        true≢false (sym (settled_quiet config app h x.next (settles config app h x.found x.next x.stamped.event effect_of other) unsettled) ∙ busy)

    pressed_on : (IsUnsettled config app h x.found → ⊥) → Pressed x.next
    pressed_on settled = by (cases_Bool (is_admit x.stamped))
      where
        by : (is_admit x.stamped ≡ true) ⊎ (is_admit x.stamped ≡ false) → Pressed x.next
        by (inl admits) = λ busy unsettled. settled (unsettled_before config app h x.found x.next x.stamped.event k.step effect_of ordered_next admits unsettled)
        by (inr other) = pressed_next other

    -- in a state that is not quiet another event comes in a turn of a lower task that is raised, or is a service of one that is not
    pub raised_or_served : is_quiet config h x.found ≡ false → HasStarted x.found → is_other config h x ≡ true
        → ((b : ℕ) × IsLower config h b × IsRaisedTurn config h b x) ⊎ IsLowService config h x
    raised_or_served busy on other = by (opens x.stamped.event x.found x.next k.step effect_of busy on other)
      where
        by : Opens x.stamped.event x.found x.next → ((b : ℕ) × IsLower config h b × IsRaisedTurn config h b x) ⊎ IsLowService config h x
        by o = which o.how (cases_lt (priority_of config o.mover (task x.found o.mover)) (static_priority config h))
          where
            up : IsRaisedTo config x.found o.mover h → ((b : ℕ) × IsLower config h b × IsRaisedTurn config h b x) ⊎ IsLowService config h x
            up raised = inl (o.mover, (o.moves.top.declared, o.lower), record { turn = o.turn; raised = raised })

            which : IsRaisedTo config x.found o.mover h ⊎ (is_some (served_task x.stamped.event) ≡ true)
                → (priority_of config o.mover (task x.found o.mover) < static_priority config h) ⊎ (static_priority config h ≤ priority_of config o.mover (task x.found o.mover))
                → ((b : ℕ) × IsLower config h b × IsRaisedTurn config h b x) ⊎ IsLowService config h x
            which (inl raised) how = up raised
            which (inr served) (inr raised) = up raised
            which (inr served) (inl low) =
                inr (record { caller = o.mover; serves = caller_is o.mover x.stamped.event o.turn served; active = o.active; low = low })

    late_one : (b : ℕ) → is_quiet config h x.found ≡ false → (IsUnsettled config app h x.found → ⊥) → HasStarted x.found → BlocksAlone config h x.found b
        → is_other config h x ≡ true → IsRaisedTurn config h b x
    late_one b busy settled on alone other =
        let o = opens x.stamped.event x.found x.next k.step effect_of busy on other in
        let up = raised_of x.stamped.event x.found x.next effect_of busy settled o.mover o.lower o.turn in
        let same = alone o.mover (record { declared = o.moves.top.declared; active = o.active; lower = o.lower; raised = up }) in
        record {
          turn = subst (λ v. is_number v (turn_task x.stamped.event) ≡ true) same o.turn;
          raised = subst (λ v. IsRaisedTo config x.found v h) same up;
        }

  pub late : (b at : ℕ) (s : System) (xs : List Stage) → Linked at s xs → AllByRecursion (Known config app) xs → AllByRecursion (IsBusy config h) xs → HasStarted s
      → BlocksAlone config h s b → Pressed s → InSection config h b xs
  late b at s [] l k busy on alone pressed = tt
  late b at s (x ∷ xs) l k busy on alone pressed =
      let settled : IsUnsettled config app h x.found → ⊥ = subst Pressed (sym l.1) pressed busy.0 in
      let here : BlocksAlone config h x.found b = subst (λ (y : System). BlocksAlone config h y b) (sym l.1) alone in
      let started : HasStarted x.found = subst HasStarted (sym l.1) on in
      let next : BlocksAlone config h x.next b = λ u blocks. here u (no_new config app h x.found x.next busy.0 settled x.stamped.event (effect_of x k.0) u blocks) in (
        late_one x k.0 b busy.0 settled started here,
        late b (end_of x) x.next xs l.2 k.1 busy.1 (started_next x k.0) next (pressed_on x k.0 settled),
      )

  -- ---- who blocks, or that none does

  pub blocks_or_not : (s : System) (b : ℕ) → Blocks config h s b ⊎ (Blocks config h s b → ⊥)
  blocks_or_not s b =
      by (cases_lt b (length config.tasks)) (cases_Bool (is_active (task s b).state)) (cases_lt (static_priority config b) (static_priority config h))
      (cases_lt (priority_of config b (task s b)) (static_priority config h))
    where
      by : (b < length config.tasks) ⊎ (length config.tasks ≤ b) → (is_active (task s b).state ≡ true) ⊎ (is_active (task s b).state ≡ false)
          → (static_priority config b < static_priority config h) ⊎ (static_priority config h ≤ static_priority config b)
          → (priority_of config b (task s b) < static_priority config h) ⊎ (static_priority config h ≤ priority_of config b (task s b))
          → Blocks config h s b ⊎ (Blocks config h s b → ⊥)
      by (inl lt) (inl active) (inl lower) (inr raised) =
          inl (record { declared = lt; active = (Decides-is_active (task s b).state).0 active; lower = lower; raised = raised })
      by (inr past) a l r = inr (λ k. let lt = k.declared in omega (arith, lt, past))
      by (inl lt) (inr idle) l r = inr (λ k. true≢false (sym ((Decides-is_active (task s b).state).1 k.active) ∙ idle))
      by (inl lt) (inl active) (inr above) r = inr (λ k. let below = k.lower in omega (arith, below, above))
      by (inl lt) (inl active) (inl lower) (inl less) = inr (λ k. let up = k.raised in omega (arith, up, less))

  -- a turn is of a task of the configuration
  turn_declared : (t : ℕ) (e : Event) → IsDeclared config e → is_turn t e ≡ true → t < length config.tasks
  turn_declared t (event.Run u func item result) d is = subst (λ v. v < length config.tasks) (eqb-true u t is) d
  turn_declared t (event.Call u served status) d is = subst (λ v. v < length config.tasks) (eqb-true u t is) d
  turn_declared t (event.Left u served) d is = subst (λ v. v < length config.tasks) (eqb-true u t is) d
  turn_declared t (event.Back u) d is = subst (λ v. v < length config.tasks) (eqb-true u t is) d
  turn_declared t e d is = absurd (false≢true is)

  -- a section of a task that is not there has no event
  pub no_section : (b : ℕ) (xs : List Stage) → length config.tasks ≤ b → AllByRecursion (Known config app) xs → InSection config h b xs → count (is_other config h) xs ≤ 0
  no_section b [] past k s = omega arith
  no_section b (x ∷ xs) past k s =
      let rest = no_section b xs past k.1 s.1 in
      let here = by (cases_Bool (is_other config h x)) in
      omega (arith, rest, here)
    where
      by : (is_other config h x ≡ true) ⊎ (is_other config h x ≡ false) → cond (is_other config h x) 1 0 ≤ 0
      by (inl is) =
          let lt = turn_declared b x.stamped.event (declared_by_step config app x.stamped.event x.found x.next k.0.step) (s.0 is).turn in
          absurd (omega (arith, lt, past))
      by (inr other) = let none = ap {B = ℕ} (λ v. cond v 1 0) other in omega (arith, none)

  -- behind an event that is no admission a section of the task that blocks follows, or nothing where none does
  pub behind_one : (at : ℕ) (s : System) (xs : List Stage) → Linked at s xs → AllByRecursion (Known config app) xs → AllByRecursion (IsBusy config h) xs → HasStarted s
      → Ordered config s → Pressed s → (count (is_other config h) xs ≤ 0) ⊎ ((b : ℕ) × Blocks config h s b × InSection config h b xs)
  behind_one at s xs l k busy on o pressed = by (blocks_or_not s (blocker config h s o).0)
    where
      by : Blocks config h s (blocker config h s o).0 ⊎ (Blocks config h s (blocker config h s o).0 → ⊥)
          → (count (is_other config h) xs ≤ 0) ⊎ ((b : ℕ) × Blocks config h s b × InSection config h b xs)
      by (inl blocks) = inr ((blocker config h s o).0, blocks, late (blocker config h s o).0 at s xs l k busy on (blocker config h s o).1 pressed)
      by (inr none) =
          inl (no_section (length config.tasks) xs (omega arith) k
          (late (length config.tasks) at s xs l k busy on
          (λ u blocks. absurd (none (subst (Blocks config h s) ((blocker config h s o).1 u blocks) blocks))) pressed))
