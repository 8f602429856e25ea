-- States that are settled and not quiet: no lower task is entered in them or begins to block.
use Rattle.std.proofs.Common.{◌≡◌, ℕ, zero, suc, ◌*◌, ◌<◌, ◌≤◌, ◌⊎◌, ◌&&◌, not, List, [], ◌∷◌, Bool, true, false, length, refl, sym, ap, ◌∙◌, subst, arith, inl, inr, is_some}
use Rattle.std.proofs.lemmas.Bool.{cases_eq, cases_lt, cases_Bool, false≢true, true≢false, true_from_ne_false, false_from_ne_true, leb-true, not_from_false, and_right, and_left, and_from}
use Rattle.sloth_base.specs.declared.config.Config.{Config}
use Rattle.sloth_base.specs.declared.app.App.{App}
use Rattle.sloth_base.specs.declared.service.Event.{Event}
use Rattle.sloth_base.specs.declared.service.Event.TheVariants as event
use Rattle.sloth_base.specs.Events.{admitted_line}
use Rattle.osek_scheduler.specs.declared.state.Counter.{Counter}
use Rattle.osek_scheduler.specs.declared.state.TaskState.TheVariants as mode
use Rattle.osek_scheduler.specs.State.{Task, System, task, no_counter, counter}
use Rattle.code_rules.specs.Code.{is_in}
use Rattle.osek_scheduler.specs.Priority.{rank, IsDue, NoTicks, IsTop}
use Rattle.osek_scheduler.specs.Next.{is_due, all_below}
use Rattle.osek_scheduler.specs.Services.{activated_state}
use Rattle.osek_scheduler.specs.Steps.{OsekStep, admitted_state}
use Rattle.osek_scheduler.proofs.Outcomes.{by_suspended}
use Rattle.osek_scheduler.proofs.Tests.{Decides-is_due, Decides-no_ticks}
use Rattle.osek_scheduler.specs.Apart.{priority_of, static_priority, IsActive}
use Rattle.osek_scheduler.proofs.Apart.{Same, at_task, at_least_static, rank_active, rank_ready}
use Rattle.osek_scheduler.proofs.Going.{at_set}
use Rattle.osek_blocking.specs.Blocking.{IsRaisedTo}
use Rattle.osek_blocking.proofs.Effects.{Ordered, Moves, Effect}
use Rattle.osek_blocking.proofs.Once.{Blocks, BlocksAlone}
use Rattle.response_laws.specs.Sums.{is_over}
use Rattle.response_laws.specs.Busy.{is_quiet}
use Rattle.run_counts.proofs.States.{not_suspended, not_ready}
use Rattle.run_counts.proofs.TaskCases.{TaskCase, entry_case, work_case, service_case, rest_case, task_case}

pub all_so : (n : ℕ) (test : ℕ → Bool) → ((j : ℕ) → j < n → test j ≡ true) → all_below n test ≡ true
all_so zero test each = refl
all_so (suc n) test each = and_from (test n) (all_below n test) (each n (omega arith)) (all_so n test (λ j lt. each j (omega (arith, lt))))

module _ (config : Config) (app : App) (h : ℕ) where
  -- task t is lower
  abbrev pub Lower : ℕ → Type 0
  Lower t = static_priority config t < static_priority config h

  -- no task of at least the static priority of h is Ready or Active but those that are fresh, and no counter is due
  pub record IsUnsettled (s : System) : Type 0 where
    pub fresh : (u : ℕ) → u < length config.tasks → is_over config h u ≡ true → IsDue s u → is_in u s.fresh ≡ true
    pub no_ticks : NoTicks config s

  pub quiet_if : (s : System) → ((u : ℕ) → u < length config.tasks → is_over config h u ≡ true → IsDue s u → ⊥) → NoTicks config s → is_quiet config h s ≡ true
  quiet_if s none ticks =
      and_from _ _ (all_so (length config.tasks) (λ t. not (is_over config h t && is_due s t)) (λ t lt. not_from_false _ (at t lt (cases_Bool (is_over config h t)))))
      ((Decides-no_ticks config s).1 ticks)
    where
      at : (t : ℕ) → t < length config.tasks → (is_over config h t ≡ true) ⊎ (is_over config h t ≡ false) → (is_over config h t && is_due s t) ≡ false
      at t lt (inl over) = and_right (is_over config h t) (is_due s t) (false_from_ne_true (is_due s t) (λ due. none t lt over ((Decides-is_due s t).0 due)))
      at t lt (inr below) = and_left (is_over config h t) (is_due s t) below

  -- where nothing is fresh, an unsettled state is quiet
  pub settled_quiet : (s : System) → s.fresh ≡ [] → IsUnsettled s → is_quiet config h s ≡ true
  settled_quiet s none unsettled =
      quiet_if s (λ u lt over due. false≢true (sym (ap (is_in u) none) ∙ unsettled.fresh u lt over due)) unsettled.no_ticks

  -- ---- a lower task that is top

  -- the rank of a task that is due
  pub rank_due : (s : System) (u : ℕ) → IsDue s u → 2 * static_priority config u ≤ rank config s u
  rank_due s u (inl ready) = let e = rank_ready config s u ready in omega (arith, e)
  rank_due s u (inr active) =
      let e = rank_active config s u active in
      let le = at_least_static config u (task s u) in
      omega (arith, e, le)

  -- where a top task is of less than the static priority of h, those over it are left out
  left_out : (s : System) (others : List ℕ) (t : ℕ) → IsTop config s others t → rank config s t < 2 * static_priority config h
      → (u : ℕ) → u < length config.tasks → is_over config h u ≡ true → IsDue s u → is_in u others ≡ true
  left_out s others t top low u lt over due =
      true_from_ne_false (is_in u others)
      (λ out.
      let le = top.is_greatest u lt due out in
      let more = rank_due s u due in
      let above = leb-true (static_priority config h) (static_priority config u) over in
      omega (arith, le, more, above, low))

  -- it is, or all is quiet
  top_quiet : (s : System) (t : ℕ) → IsTop config s [] t → rank config s t < 2 * static_priority config h → is_quiet config h s ≡ true
  top_quiet s t top low = quiet_if s (λ u lt over due. false≢true (left_out s [] t top low u lt over due)) top.no_ticks

  low_rank : (s : System) (t : ℕ) → IsActive s t → priority_of config t (task s t) < static_priority config h → rank config s t < 2 * static_priority config h
  low_rank s t active lt = let e = rank_active config s t active in omega (arith, e, lt)

  -- a top task that is Active is raised, where not all is quiet
  pub top_raised : (s : System) (t : ℕ) → IsTop config s [] t → IsActive s t → is_quiet config h s ≡ false → IsRaisedTo config s t h
  top_raised s t top active busy = by (cases_lt (priority_of config t (task s t)) (static_priority config h))
    where
      by : (priority_of config t (task s t) < static_priority config h) ⊎ (static_priority config h ≤ priority_of config t (task s t)) → IsRaisedTo config s t h
      by (inl lt) = absurd (true≢false (sym (top_quiet s t top (low_rank s t active lt)) ∙ busy))
      by (inr le) = le

  pub call_raised : (s : System) (t : ℕ) → IsTop config s s.fresh t → IsActive s t → (IsUnsettled s → ⊥) → IsRaisedTo config s t h
  call_raised s t top active settled = by (cases_lt (priority_of config t (task s t)) (static_priority config h))
    where
      by : (priority_of config t (task s t) < static_priority config h) ⊎ (static_priority config h ≤ priority_of config t (task s t)) → IsRaisedTo config s t h
      by (inl lt) = absurd (settled (record { fresh = left_out s s.fresh t top (low_rank s t active lt); no_ticks = top.no_ticks }))
      by (inr le) = le

  -- no lower task is entered
  pub no_lower_entry : (s : System) (t : ℕ) → IsTop config s [] t → (task s t).state ≡ mode.Ready → is_quiet config h s ≡ false → Lower t → ⊥
  no_lower_entry s t top ready busy lower =
      let e = rank_ready config s t ready in
      true≢false (sym (top_quiet s t top (omega (arith, e, lower))) ∙ busy)

  -- ---- blocking tasks

  -- the record of an Active task is as before
  pub from_same : (s next : System) (u : ℕ) → Same config u (task s u) (task next u) → Blocks config h next u → Blocks config h s u
  from_same s next u same b =
      let old = same b.active in
      record {
        declared = b.declared;
        active = old.0;
        lower = b.lower;
        raised = subst (λ x. static_priority config h ≤ x) old.1 b.raised;
      }

  -- no task begins to block where the state is settled and not quiet
  pub no_new : (s next : System) → is_quiet config h s ≡ false → (IsUnsettled s → ⊥) → (e : Event) → Effect config s next e
      → (u : ℕ) → Blocks config h next u → Blocks config h s u
  no_new s next busy settled e f u b = by (task_case config s next u e f)
    where
      by : TaskCase config s next u e → Blocks config h s u
      by (entry_case entry away f) = absurd (no_lower_entry s u f.moves.top f.was busy b.lower)
      by (work_case turn out calls f) = record { declared = b.declared; active = f.was; lower = b.lower; raised = top_raised s u f.moves.top f.was busy }
      by (service_case turn out calls f) = record { declared = b.declared; active = f.was; lower = b.lower; raised = call_raised s u f.moves.top f.was settled }
      by (rest_case away out same ready) = from_same s next u same b

  -- behind the event of a lower task it alone may block
  pub only_mover : (s next : System) (others : List ℕ) (t : ℕ) → Moves config others t s next → Lower t → BlocksAlone config h next t
  only_mover s next others t m lower u b = by (cases_eq u t)
    where
      by : (u ≡ t) ⊎ (u ≡ t → ⊥) → u ≡ t
      by (inl e) = e
      by (inr n) =
          let old = from_same s next u (m.acts.calm u n) b in
          let lt = m.acts.above u old.declared n old.active in
          let le = old.raised in
          absurd (omega (arith, lt, le, lower))

  -- ---- settled states

  pub settles : (s next : System) (e : Event) → Effect config s next e → is_some (admitted_line e) ≡ false → next.fresh ≡ []
  settles s next (event.Admit t) f other = absurd (true≢false other)
  settles s next (event.Due c) f other = absurd (true≢false other)
  settles s next (event.Enter t) f other = f.moves.acts.settles
  settles s next (event.Run t func item result) f other = f.moves.acts.settles
  settles s next (event.Back t) f other = f.moves.acts.settles
  settles s next (event.Call t served status) f other = f.moves.acts.settles
  settles s next (event.Left t served) f other = f.moves.acts.settles
  settles s next e f other = f.settles

  -- an admit leaves an Active task Active, and a due counter due
  pub admit_active : (s : System) (t u : ℕ) → IsActive s u → IsActive (admitted_state t s) u
  admit_active s t u active =
      by_suspended (task s t).state (record (activated_state s t) { fresh = t ∷ s.fresh }) s (λ (x : System). IsActive x u)
      (λ asleep. at_task s t u (record (task s t) { state = mode.Ready }) (λ (k : Task). k.state ≡ mode.Active) active
      (λ e. absurd (not_suspended (task s t).state (subst (IsActive s) e active) asleep)))
      (λ _. active)

  pub admit_ticks : (s : System) (t : ℕ) → NoTicks config (admitted_state t s) → NoTicks config s
  admit_ticks s t =
      by_suspended (task s t).state (record (activated_state s t) { fresh = t ∷ s.fresh }) s (λ (x : System). NoTicks config x → NoTicks config s)
      (λ _ none. none) (λ _ none. none)

  -- an unsettled state behind an admit was unsettled
  pub unsettled_before : (s next : System) (e : Event) → OsekStep config app e s next → Effect config s next e → Ordered config next
      → is_some (admitted_line e) ≡ true → IsUnsettled next → IsUnsettled s
  unsettled_before s next (event.Admit t) step f o admits unsettled = record {
    fresh = λ u lt over due. at u lt over due;
    no_ticks = admit_ticks s t (subst (NoTicks config) step.2 unsettled.no_ticks);
  }
    where
      at : (u : ℕ) → u < length config.tasks → is_over config h u ≡ true → IsDue s u → is_in u s.fresh ≡ true
      at u lt over (inl ready) = sym (f.fresh u ready) ∙ unsettled.fresh u lt over (inl (f.ready u ready))
      at u lt over (inr active) =
          let now : IsActive next u = subst (λ (x : System). IsActive x u) (sym step.2) (admit_active s t u active) in
          absurd (not_ready (task next u).state now (o.apart.fresh_ready u (unsettled.fresh u lt over (inr now))))
  unsettled_before s next (event.Due c) step f o admits unsettled = record {
    fresh = λ u lt over due.
        let now : IsDue next u = subst (λ (x : System). IsDue x u) (sym step.2) due in
        ap (λ (x : System). is_in u x.fresh) (sym step.2) ∙ unsettled.fresh u lt over now;
    no_ticks = λ d lt.
        at_set s.clock.counters c d (record (counter s c) { due = true }) no_counter (λ (k : Counter). k.due ≡ false → (counter s d).due ≡ false)
        (λ e. e) (λ _ e. absurd (true≢false e)) (subst (λ (x : System). (counter x d).due ≡ false) step.2 (unsettled.no_ticks d lt));
  }
  unsettled_before s next e step f o admits unsettled = absurd (false≢true admits)
