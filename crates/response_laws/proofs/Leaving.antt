-- Where a preemptable task leaves, nothing of its level is due but what was admitted meanwhile.
use Rattle.std.proofs.Common.{◌≡◌, ℕ, ◌<◌, ◌≤◌, ◌⊎◌, ◌==◌, ◌&&◌, not, cond, max, map, List, [], ◌∷◌, Bool, true, false, length, refl, sym, ap, ◌∙◌, subst, arith, inl, inr, is_some}
use Rattle.std.specs.List.{AllByRecursion}
use Rattle.std.proofs.lemmas.Bool.{false≢true, true≢false, true_from_ne_false, leb-true, not_from_false, and_from, eqb-true, eqb-false}
use Rattle.sloth_base.specs.declared.config.Config.{Config}
use Rattle.sloth_base.specs.declared.app.App.{App}
use Rattle.sloth_base.specs.declared.service.Event.{Event}
use Rattle.sloth_base.specs.declared.service.Event.TheVariants as event
use Rattle.sloth_base.specs.Events.{admitted_line}
use Rattle.code_rules.specs.Code.{is_in}
use Rattle.osek_scheduler.specs.declared.state.Counter.{Counter}
use Rattle.osek_scheduler.specs.declared.state.TaskState.{TaskState}
use Rattle.osek_scheduler.specs.declared.state.TaskState.TheVariants as mode
use Rattle.osek_scheduler.specs.State.{Task, System, task, no_counter, counter}
use Rattle.osek_scheduler.specs.InTime.{is_admit}
use Rattle.osek_scheduler.specs.Next.{is_due}
use Rattle.osek_scheduler.specs.Priority.{ceiling, greatest, highest_priority, IsDue, NoTicks, IsTop}
use Rattle.osek_scheduler.specs.Steps.{OsekStep}
use Rattle.osek_scheduler.specs.Valid.{InState}
use Rattle.osek_scheduler.specs.Apart.{priority_of, static_priority, IsActive}
use Rattle.osek_scheduler.proofs.Apart.{at_least_static, rank_active}
use Rattle.osek_scheduler.proofs.Facts.{Facts}
use Rattle.osek_scheduler.proofs.Going.{at_set}
use Rattle.osek_scheduler.proofs.Steps.{step_valid}
use Rattle.osek_scheduler.proofs.Tests.{Decides-is_due, Decides-no_ticks}
use Rattle.osek_blocking.proofs.Effects.{Ordered, Effect}
use Rattle.osek_blocking.proofs.Ordering.{effect, step_ordered}
use Rattle.osek_blocking.proofs.Once.{Blocks}
use Rattle.osek_blocking.proofs.FrameEffects.{frame_effect}
use Rattle.run_counts.specs.Stages.{Stage, end_of, is_turn, is_entry}
use Rattle.run_counts.specs.Rounds.{is_left}
use Rattle.response_laws.specs.Sums.{count, is_over}
use Rattle.response_laws.specs.Turns.{is_other_event, is_other}
use Rattle.response_laws.specs.Busy.{is_quiet_but, LeavesFirst}
use Rattle.response_laws.specs.Response.{EntersOnce}
use Rattle.run_counts.proofs.States.{not_ready}
use Rattle.response_laws.proofs.Linked.{Known, Linked}
use Rattle.response_laws.proofs.Settled.{all_so, rank_due, admit_active, admit_ticks, settles, from_same}
use Rattle.response_laws.proofs.Blocking.{late, no_section, pressed_next, started_next}
use Rattle.response_laws.proofs.Lower.{admit_is_none}
use Rattle.response_laws.proofs.Starting.{IsBusy, over_itself}
use Rattle.response_laws.proofs.Steps.{turn_active, stays_inactive, active_declared}

module _ (config : Config) (app : App) (w : Facts config app) (h : ℕ) (cuts : ℕ → Bool) (once : EntersOnce config h cuts) where
  -- no task of at least the static priority of h is due but h, and those that are fresh; no counter is
  record IsUnsettledBut (s : System) : Type 0 where
    fresh : (u : ℕ) → u < length config.tasks → is_over config h u ≡ true → (u ≡ h → ⊥) → IsDue s u → is_in u s.fresh ≡ true
    no_ticks : NoTicks config s

  settled_quiet_but : (s : System) → s.fresh ≡ [] → IsUnsettledBut s → is_quiet_but config h s ≡ true
  settled_quiet_but s none unsettled =
      and_from _ _
      (all_so (length config.tasks) (λ t. not (is_over config h t && (not (t == h) && is_due s t)))
      (λ t lt. not_from_false _ (at t lt (is_over config h t) refl (t == h) refl (is_due s t) refl)))
      ((Decides-no_ticks config s).1 unsettled.no_ticks)
    where
      at : (t : ℕ) → t < length config.tasks → (o : Bool) → is_over config h t ≡ o → (e : Bool) → (t == h) ≡ e → (d : Bool) → is_due s t ≡ d
          → (o && (not e && d)) ≡ false
      at t lt false over e same d due = refl
      at t lt true over true same d due = refl
      at t lt true over false same false due = refl
      at t lt true over false same true due =
          absurd (false≢true (sym (ap (is_in t) none) ∙ unsettled.fresh t lt over (eqb-false t h same) ((Decides-is_due s t).0 due)))

  -- ---- where h leaves

  left_turn : (e : Event) → is_left h e ≡ true → is_turn h e ≡ true
  left_turn (event.Left u served) is = is
  left_turn e is = absurd (false≢true is)

  -- it holds nothing then, and so has its own priority
  own_priority : (x : Stage) → Known config app x → is_left h x.stamped.event ≡ true → priority_of config h (task x.found h) ≡ static_priority config h
  own_priority x k is =
      ap (λ l. max (static_priority config h) (max (greatest (map (ceiling config) l)) (cond (task x.found h).raised (highest_priority config) 0))) held
      ∙ ap (λ b. max (static_priority config h) (max 0 (cond b (highest_priority config) 0))) raised ∙ omega arith
    where
      active : IsActive x.found h
      active = turn_active config app h x k (left_turn x.stamped.event is)

      declared : h < length config.tasks
      declared = active_declared config x.found h k.valid.count active

      raised : (task x.found h).raised ≡ false
      raised =
          (subst (InState config h (task x.found h)) active (k.valid.each h declared).in_state).1
          ∙ ap (λ b. b && not (task x.found h).owed) once.preemptable

      rest_holds : (m : TaskState) (own : Task) → InState config h own m → (m ≡ mode.Active → ⊥) → own.held ≡ []
      rest_holds mode.Suspended own state n = state.0.holds
      rest_holds mode.Ready own state n = state.0.holds
      rest_holds mode.Active own state n = absurd (n refl)
      rest_holds (mode.Waiting mask) own state n = state.0.holds

      held : (task x.found h).held ≡ []
      held = by x.stamped.event k.step is
        where
          by : (e : Event) → OsekStep config app e x.found x.next → is_left h e ≡ true → (task x.found h).held ≡ []
          by (event.Left u served) step is =
              let f = frame_effect config app w x.found x.next k.valid (event.Left u served) step in
              let e = eqb-true u h is in
              let P : ℕ → Type 0 = λ t. (task x.next t).held ≡ (task x.found t).held in
              let Q : ℕ → Type 0 = λ t. (task x.next t).state ≡ mode.Active → ⊥ in
              sym (subst P e f.held)
              ∙ rest_holds (task x.next h).state (task x.next h)
              ((step_valid config app (event.Left u served) x.found x.next w step k.valid).each h declared).in_state (subst Q e f.gone)
          by e step is = absurd (false≢true is)

  left_unsettled : (x : Stage) → Known config app x → is_left h x.stamped.event ≡ true → IsUnsettledBut x.found
  left_unsettled x k is = by x.stamped.event k.step is
    where
      by : (e : Event) → OsekStep config app e x.found x.next → is_left h e ≡ true → IsUnsettledBut x.found
      by (event.Left u served) step same =
          let top : IsTop config x.found x.found.fresh h =
          subst (IsTop config x.found x.found.fresh) (eqb-true u h same) step.1.1.top in
          record { fresh = λ t lt over other due. out t lt over other due top; no_ticks = top.no_ticks }
        where
          out : (t : ℕ) → t < length config.tasks → is_over config h t ≡ true → (t ≡ h → ⊥) → IsDue x.found t → IsTop config x.found x.found.fresh h
              → is_in t x.found.fresh ≡ true
          out t lt over other due top =
              true_from_ne_false (is_in t x.found.fresh)
              (λ off.
              let le = top.is_greatest t lt due off in
              let more = rank_due config app h x.found t due in
              let own = rank_active config x.found h (turn_active config app h x k (left_turn x.stamped.event is)) in
              let priority = own_priority x k is in
              let above = leb-true (static_priority config h) (static_priority config t) over in
              other (once.alone t lt (omega (arith, le, more, own, priority, above))))
      by e step same = absurd (false≢true same)

  unsettled_before : (s next : System) (e : Event) → OsekStep config app e s next → Effect config s next e → Ordered config next
      → is_some (admitted_line e) ≡ true → IsUnsettledBut next → IsUnsettledBut s
  unsettled_before s next (event.Admit t) step f o admits unsettled = record {
    fresh = λ u lt over other due. at u lt over other due;
    no_ticks = admit_ticks config app h s t (subst (NoTicks config) step.2 unsettled.no_ticks);
  }
    where
      at : (u : ℕ) → u < length config.tasks → is_over config h u ≡ true → (u ≡ h → ⊥) → IsDue s u → is_in u s.fresh ≡ true
      at u lt over other (inl ready) = sym (f.fresh u ready) ∙ unsettled.fresh u lt over other (inl (f.ready u ready))
      at u lt over other (inr active) =
          let now : IsActive next u = subst (λ (x : System). IsActive x u) (sym step.2) (admit_active config app h s t u active) in
          absurd (not_ready (task next u).state now (o.apart.fresh_ready u (unsettled.fresh u lt over other (inr now))))
  unsettled_before s next (event.Due c) step f o admits unsettled = record {
    fresh = λ u lt over other due.
        let now : IsDue next u = subst (λ (x : System). IsDue x u) (sym step.2) due in
        ap (λ (x : System). is_in u x.fresh) (sym step.2) ∙ unsettled.fresh u lt over other now;
    no_ticks = λ d lt.
        at_set s.clock.counters c d (record (counter s c) { due = true }) no_counter (λ (k : Counter). k.due ≡ false → (counter s d).due ≡ false)
        (λ e. e) (λ _ e. absurd (true≢false e)) (subst (λ (x : System). (counter x d).due ≡ false) step.2 (unsettled.no_ticks d lt));
  }
  unsettled_before s next event.Boot step f o admits unsettled = absurd (false≢true admits)
  unsettled_before s next e step f o admits unsettled = absurd (false≢true admits)

  -- ---- stages that begin with a leaving

  effect_of : (x : Stage) → Known config app x → Effect config x.found x.next x.stamped.event
  effect_of x k = effect config app x.found x.next k.ordered x.stamped.event k.step

  leaves_unsettled : (at : ℕ) (s : System) (xs : List Stage) → Linked at s xs → AllByRecursion (Known config app) xs → LeavesFirst h xs → IsUnsettledBut s
  leaves_unsettled at s [] l k leaves = absurd leaves
  leaves_unsettled at s (x ∷ xs) l k (inl is) = subst IsUnsettledBut l.1 (left_unsettled x k.0 is)
  leaves_unsettled at s (x ∷ xs) l k (inr (admits, leaves)) =
      let further = leaves_unsettled (end_of x) x.next xs l.2 k.1 leaves in
      subst IsUnsettledBut l.1
      (unsettled_before x.found x.next x.stamped.event k.0.step (effect_of x k.0)
      (step_ordered config app x.found x.next k.0.ordered x.stamped.event k.0.step) admits further)

  no_entry : (e : Event) → is_some (admitted_line e) ≡ true → is_entry h e ≡ false
  no_entry (event.Admit t) admits = refl
  no_entry (event.Due c) admits = refl
  no_entry e admits = absurd (false≢true admits)

  pub leaves_active : (at : ℕ) (s : System) (xs : List Stage) → Linked at s xs → AllByRecursion (Known config app) xs → LeavesFirst h xs → IsActive s h
  leaves_active at s [] l k leaves = absurd leaves
  leaves_active at s (x ∷ xs) l k (inl is) = subst (λ y. IsActive y h) l.1 (turn_active config app h x k.0 (left_turn x.stamped.event is))
  leaves_active at s (x ∷ xs) l k (inr (admits, leaves)) =
      let further = leaves_active (end_of x) x.next xs l.2 k.1 leaves in
      subst (λ y. IsActive y h) l.1 (stays_inactive config app h x k.0 (no_entry x.stamped.event admits) further)

  -- behind an event that is no admission they begin quietly but for h
  pub leaves_alone : (x : Stage) (at : ℕ) (xs : List Stage) → Known config app x → is_admit x.stamped ≡ false → Linked at x.next xs
      → AllByRecursion (Known config app) xs → LeavesFirst h xs → is_quiet_but config h x.next ≡ true
  leaves_alone x at xs k other l ks leaves =
      settled_quiet_but x.next (settles config app h x.found x.next x.stamped.event (effect_of x k) other) (leaves_unsettled at x.next xs l ks leaves)

  -- ---- lower tasks do nothing then

  no_blocks : (s : System) → Ordered config s → IsActive s h → (u : ℕ) → Blocks config h s u → ⊥
  no_blocks s o active u b = by (o.apart.apart h u (record { first = declared; second = b.declared; differ = differ }) active b.active)
    where
      declared : h < length config.tasks
      declared = active_declared config s h o.count active

      differ : h ≡ u → ⊥
      differ e = let less = b.lower in let same = ap (static_priority config) e in omega (arith, less, same)

      by : (priority_of config h (task s h) < static_priority config u) ⊎ (priority_of config u (task s u) < static_priority config h) → ⊥
      by (inl lt) = let less = b.lower in let own = at_least_static config h (task s h) in omega (arith, lt, less, own)
      by (inr lt) = let up = b.raised in omega (arith, lt, up)

  own_is_none : (x : Stage) → is_left h x.stamped.event ≡ true → is_other config h x ≡ false
  own_is_none x is = by x.stamped.event is
    where
      by : (e : Event) → is_left h e ≡ true → is_other_event config h e ≡ false
      by (event.Left u served) same = ap (λ v. not (is_over config h v)) (eqb-true u h same) ∙ ap not (over_itself config h)
      by e same = absurd (false≢true same)

  left_no_admit : (e : Event) → is_left h e ≡ true → is_some (admitted_line e) ≡ false
  left_no_admit (event.Left u served) is = refl
  left_no_admit event.Boot is = refl
  left_no_admit e is = absurd (false≢true is)

  none_behind : (x : Stage) → Known config app x → is_left h x.stamped.event ≡ true → (u : ℕ) → Blocks config h x.next u → ⊥
  none_behind x k is u b = by x.stamped.event k.step (effect_of x k) is
    where
      active : IsActive x.found h
      active = turn_active config app h x k (left_turn x.stamped.event is)

      by : (e : Event) → OsekStep config app e x.found x.next → Effect config x.found x.next e → is_left h e ≡ true → ⊥
      by (event.Left t served) step f same =
          no_blocks x.found k.ordered active u (from_same config app h x.found x.next u (f.moves.acts.calm u other) b)
        where
          other : u ≡ t → ⊥
          other e =
              let less = b.lower in
              let priority = ap (static_priority config) (e ∙ eqb-true t h same) in
              omega (arith, less, priority)
      by e step f same = absurd (false≢true same)

  pub none_lower : (x : Stage) (ys : List Stage) → Known config app x → Linked (end_of x) x.next ys → AllByRecursion (Known config app) ys
      → AllByRecursion (IsBusy config h) ys → LeavesFirst h (x ∷ ys) → count (is_other config h) (x ∷ ys) ≤ 0
  none_lower x ys k l ks busy (inl is) =
      let none = no_section config app h (length config.tasks) ys (omega arith) ks
      (late config app h (length config.tasks) (end_of x) x.next ys l ks busy (started_next config app h x k) (λ u b. absurd (none_behind x k is u b))
      (pressed_next config app h x k (left_no_admit x.stamped.event is))) in
      let here = ap {B = ℕ} (λ b. cond b 1 0) (own_is_none x is) in
      omega (arith, none, here)
  none_lower x [] k l ks busy (inr (admits, leaves)) = absurd leaves
  none_lower x (y ∷ zs) k l ks busy (inr (admits, leaves)) =
      let rest = none_lower y zs ks.0 l.2 ks.1 busy.1 leaves in
      let here = ap {B = ℕ} (λ b. cond b 1 0) (admit_is_none config app h x admits) in
      omega (arith, rest, here)
