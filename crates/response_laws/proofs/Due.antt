-- Since when a task is due that nothing but arrivals and alarms makes Ready.
use Rattle.std.proofs.Common.{◌≡◌, ℕ, ◌+◌, ◌<◌, ◌≤◌, ◌⊎◌, List, [], ◌∷◌, ◌++◌, length, true, false, refl, sym, ap, ◌∙◌, subst, arith, inl, inr, append_assoc, append-nil}
use Rattle.std.specs.List.{AllByRecursion}
use Rattle.std.proofs.lemmas.Bool.{cases_Bool, cases_eq, cases_lt}
use Rattle.std.proofs.lemmas.List.{get_or-set_same, get_or_past}
use Rattle.sloth_base.specs.declared.config.Config.{Config}
use Rattle.sloth_base.specs.declared.app.App.{App}
use Rattle.sloth_base.specs.declared.service.Event.{Event}
use Rattle.sloth_base.specs.declared.service.Event.TheVariants as event
use Rattle.sloth_base.specs.declared.service.Stamped.{Stamped}
use Rattle.sloth_base.specs.Named.{counter_declaration, alarm_declaration}
use Rattle.osek_scheduler.specs.declared.state.TaskState.{TaskState}
use Rattle.osek_scheduler.specs.declared.state.TaskState.TheVariants as mode
use Rattle.osek_scheduler.specs.State.{Task, System, sleeping_task, task, alarm, opening}
use Rattle.osek_scheduler.specs.Runs.{AreStepsTo}
use Rattle.osek_scheduler.specs.Services.{activated_state, counted_on_state, ticked_state}
use Rattle.osek_scheduler.specs.Steps.{OsekStep}
use Rattle.osek_scheduler.specs.Valid.{IsValid}
use Rattle.osek_scheduler.proofs.Facts.{Facts}
use Rattle.osek_scheduler.proofs.Leading.{leads-append}
use Rattle.osek_scheduler.proofs.Outcomes.{by_suspended}
use Rattle.osek_scheduler.proofs.Steps.{opening_valid, step_valid}
use Rattle.osek_blocking.specs.Blocking.{MakesReady}
use Rattle.osek_blocking.proofs.Effects.{Ordered}
use Rattle.osek_blocking.proofs.Ordering.{effect, opening_ordered, step_ordered}
use Rattle.run_counts.specs.Rounds.{is_left}
use Rattle.run_counts.proofs.States.{not_suspended}
use Rattle.response_laws.specs.Ticks.{activates}
use Rattle.response_laws.specs.Made.{is_made_from_outside}
use Rattle.response_laws.proofs.Linked.{each_joined}
use Rattle.response_laws.proofs.Suspended.{IsSuspended, awake}
use Rattle.response_laws.proofs.Unmade.{ExpiresOne, woken, stays_asleep, left_asleep, not_waiting}

-- an event is an admission of task t, or it is not
admits_task : (t : ℕ) (e : Event) → (e ≡ event.Admit t) ⊎ (e ≡ event.Admit t → ⊥)
admits_task t (event.Admit u) = by (cases_eq u t)
  where
    by : (u ≡ t) ⊎ (u ≡ t → ⊥) → (event.Admit u ≡ event.Admit t) ⊎ (event.Admit u ≡ event.Admit t → ⊥)
    by (inl same) = inl (ap (λ v. event.Admit v) same)
    by (inr apart) = inr (λ e. apart cc)
admits_task t event.Boot = inr (λ e. cc)
admits_task t e = inr (λ same. cc)

-- it is a tick, or none
ticks_one : (e : Event) → ((c : ℕ) × (e ≡ event.Tick c)) ⊎ ((c : ℕ) → e ≡ event.Tick c → ⊥)
ticks_one (event.Tick c) = inl (c, refl)
ticks_one event.Boot = inr (λ c e. cc)
ticks_one e = inr (λ c same. cc)

module _ (config : Config) (app : App) (w : Facts config app) (t : ℕ) (outside : is_made_from_outside config app t ≡ true) where
  -- with the event an alarm expires that activates the task
  pub record IsExpiry (e : Event) (s : System) : Type 0 where
    pub number : ℕ
    pub inside : number < length config.alarms
    pub makes : activates t (alarm_declaration config number).action ≡ true
    pub ticks : e ≡ event.Tick (alarm_declaration config number).counter
    pub left : (alarm s number).left ≡ 1

  -- The task is Suspended; or its admission made it Ready, or such an expiry, and it has not left.
  pub data Since (past : List Stamped) (s : System) : Type 0 where
    asleep : IsSuspended (task s t) → Since past s
    made : (before : List Stamped) (one : Stamped) (behind : List Stamped) (found next : System) → past ≡ before ++ one ∷ behind
        → AreStepsTo config app before (opening config app) found → MakesReady config app t one.event found next
        → (one.event ≡ event.Admit t) ⊎ IsExpiry one.event found → AllByRecursion (λ e. is_left t e.event ≡ false) behind → Since past s

  -- ---- what makes it Ready

  -- an admission that finds it Suspended does
  admission_makes : (e : Event) (s next : System) → OsekStep config app e s next → IsValid config app s → e ≡ event.Admit t → IsSuspended (task s t)
      → MakesReady config app t e s next
  admission_makes e s next step v admits is = record {
    declared = own.1;
    step = step;
    not_before = λ ready. awake (task s t).state ready is;
    behind = subst (λ (x : System). (task x t).state ≡ mode.Ready) (sym own.2)
        (by_suspended (task s t).state (record (activated_state s t) { fresh = t ∷ s.fresh }) s (λ (x : System). (task x t).state ≡ mode.Ready)
        (λ _. ap (λ (k : Task). k.state) (get_or-set_same s.tasks t (record (task s t) { state = mode.Ready }) sleeping_task (subst (λ m. t < m) (sym v.count) own.1)))
        (λ awake. absurd (awake is)));
  }
    where
      own : OsekStep config app (event.Admit t) s next
      own = subst (λ x. OsekStep config app x s next) admits step

  -- a tick that finds it Suspended leaves it so, or makes it Ready
  risen : (c : ℕ) (s next : System) → OsekStep config app (event.Tick c) s next → Ordered config s → IsValid config app next → IsSuspended (task s t)
      → IsSuspended (task next t) ⊎ ((t < length config.tasks) × ((task next t).state ≡ mode.Ready))
  risen c s next step o v was = by (cases_lt t (length config.tasks)) (task next t).state refl
    where
      by : (t < length config.tasks) ⊎ (length config.tasks ≤ t) → (m : TaskState) → (task next t).state ≡ m
          → IsSuspended (task next t) ⊎ ((t < length config.tasks) × ((task next t).state ≡ mode.Ready))
      by (inr past) m is = inl (ap (λ (k : Task). k.state) (get_or_past next.tasks t sleeping_task (let same = v.count in omega (arith, past, same))))
      by (inl lt) mode.Suspended is = inl is
      by (inl lt) mode.Ready is = inr (lt, is)
      by (inl lt) mode.Active is = absurd (not_suspended (task s t).state ((effect config app s next o (event.Tick c) step).same t is).0 was)
      by (inl lt) (mode.Waiting mask) is = inl (not_waiting config app t outside next v lt (inr (mask, is)))

  -- ---- along a run

  module _ (past : List Stamped) (s : System) (e : Stamped) (next : System) (led : AreStepsTo config app past (opening config app) s) (v : IsValid config app s)
      (o : Ordered config s) (step : OsekStep config app e.event s next) (valid : IsValid config app next) where
    ticked : (c : ℕ) → e.event ≡ event.Tick c → IsSuspended (task s t) → Since (past ++ e ∷ []) next
    ticked c is suspended = by (woken config t c 0 config.alarms (counted_on_state c (counter_declaration config c).max s) suspended)
      where
        own : OsekStep config app (event.Tick c) s next
        own = subst (λ x. OsekStep config app x s next) is step

        rises : IsExpiry e.event s → IsSuspended (task next t) ⊎ ((t < length config.tasks) × ((task next t).state ≡ mode.Ready)) → Since (past ++ e ∷ []) next
        rises expiry (inl still) = asleep still
        rises expiry (inr (declared, ready)) =
            made past e [] s next refl led (record { declared = declared; step = step; not_before = λ was. awake (task s t).state was suspended; behind = ready })
            (inr expiry) tt

        by : IsSuspended (task (ticked_state config c s) t) ⊎ ExpiresOne config t c 0 config.alarms (counted_on_state c (counter_declaration config c).max s)
            → Since (past ++ e ∷ []) next
        by (inl still) = asleep (subst (λ (x : System). IsSuspended (task x t)) (sym own.2) still)
        by (inr (i, lt, mine, makes, one)) =
            let at : 0 + i ≡ i = omega arith in
            rises (record {
              number = i;
              inside = lt;
              makes = makes;
              ticks = is ∙ ap (λ d. event.Tick d) (sym mine);
              left = subst (λ n. (alarm s n).left ≡ 1) at one;
            }) (risen c s next own o valid suspended)

    goes_on : Since past s → Since (past ++ e ∷ []) next
    goes_on (asleep suspended) = by (admits_task t e.event) (ticks_one e.event)
      where
        by : (e.event ≡ event.Admit t) ⊎ (e.event ≡ event.Admit t → ⊥) → ((c : ℕ) × (e.event ≡ event.Tick c)) ⊎ ((c : ℕ) → e.event ≡ event.Tick c → ⊥)
            → Since (past ++ e ∷ []) next
        by (inl admits) which = made past e [] s next refl led (admission_makes e.event s next step v admits suspended) (inl admits) tt
        by (inr other) (inl (c, is)) = ticked c is suspended
        by (inr other) (inr none) = asleep (stays_asleep config app t outside s suspended e.event next step other (λ c is. absurd (none c is)))
    goes_on (made before one behind found first is leads makes opens none) = by (cases_Bool (is_left t e.event))
      where
        by : (is_left t e.event ≡ true) ⊎ (is_left t e.event ≡ false) → Since (past ++ e ∷ []) next
        by (inl left) = asleep (left_asleep config app t outside e.event s next step left v valid)
        by (inr goes) =
            made before one (behind ++ e ∷ []) found first (ap (λ es. es ++ e ∷ []) is ∙ append_assoc before (one ∷ behind) (e ∷ [])) leads makes opens
            (each_joined (λ x. is_left t x.event ≡ false) behind (e ∷ []) none (goes, tt))

  along : (past es : List Stamped) (s end : System) → AreStepsTo config app past (opening config app) s → IsValid config app s → Ordered config s → Since past s
      → AreStepsTo config app es s end → Since (past ++ es) end
  along past [] s end led v o so leads = subst (λ p. Since p end) (sym (append-nil past)) (subst (λ x. Since past x) (sym leads) so)
  along past (e ∷ es) s end led v o so leads =
      let valid = step_valid config app e.event s leads.0 w leads.1 v in
      subst (λ p. Since p end) (append_assoc past (e ∷ []) es)
      (along (past ++ e ∷ []) es leads.0 end (leads-append config app past (e ∷ []) (opening config app) s leads.0 led (leads.0, leads.1, refl)) valid
      (step_ordered config app s leads.0 o e.event leads.1) (goes_on past s e leads.0 led v o leads.1 valid so) leads.2)

  pub since : (before : List Stamped) (found : System) → AreStepsTo config app before (opening config app) found → Since before found
  since before found leads =
      along [] before (opening config app) found refl (opening_valid config app) (opening_ordered config app) (asleep ((opening_valid config app).asleep refl t)) leads
