-- In a run in which a task responds within so many counts no response that is seen is longer.
use Rattle.std.proofs.Common.{◌≡◌, ◌∙◌, ◌+◌, ◌-◌, ◌<◌, ◌≤◌, ◌⊎◌, inl, inr, ℕ, zero, suc, Bool, true, false, not, cond, List, [], ◌∷◌, ◌++◌, length, get_or, set, replicate, Option, Some, None, is_some, refl, sym, ap, subst, arith, append_assoc}
use Rattle.std.specs.Prelude.{◌&&◌, ◌||◌, ◌==◌, unwrap_or}
use Rattle.std.specs.List.{AllByRecursion}
use Rattle.std.proofs.Math.Nat.{max-le}
use Rattle.std.proofs.lemmas.Bool.{true≢false, false≢true, cases_eq, and_parts, eqb-true}
use Rattle.std.proofs.lemmas.List.{get_or-set_other}
use Rattle.sloth_base.specs.Events.{is_boot, admitted_line}
use Rattle.sloth_base.specs.Options.{is_number}
use Rattle.sloth_base.specs.declared.config.Config.{Config}
use Rattle.sloth_base.specs.declared.app.App.{App}
use Rattle.sloth_base.specs.declared.service.Event.{Event}
use Rattle.sloth_base.specs.declared.service.Event.TheVariants as event
use Rattle.sloth_base.specs.declared.service.Stamped.{Stamped}
use Rattle.osek_scheduler.specs.InTime.{is_admit}
use Rattle.osek_scheduler.specs.Next.{is_ready}
use Rattle.osek_scheduler.specs.State.{System, task, opening}
use Rattle.osek_scheduler.specs.declared.state.TaskState.{TaskState}
use Rattle.osek_scheduler.specs.declared.state.TaskState.TheVariants as mode
use Rattle.osek_scheduler.specs.Steps.{OsekStep}
use Rattle.osek_scheduler.specs.Runs.{AreStepsTo}
use Rattle.osek_scheduler.proofs.Leading.{leads-append}
use Rattle.osek_blocking.specs.Blocking.{MakesReady}
use Rattle.run_counts.specs.Stages.{Stage, state_behind, end_of, stage, stages}
use Rattle.run_counts.specs.Rounds.{is_left}
use Rattle.run_counts.proofs.Staged.{behind_is, booted_before}
use Rattle.response_laws.specs.Busy.{is_quiet}
use Rattle.response_laws.specs.Turns.{ticking_counter, makes_ready}
use Rattle.response_laws.specs.Response.{IsBehindBoot, IsAsked, IsEdge, PendsWithin}
use Rattle.sloth_base.specs.Limits.{counter_limit}
use Rattle.run_load.specs.Watched.{Moments, no_moments, noted, edge, watched, watched_stages}
use Rattle.run_load.specs.Seen.{end_of_response, response, is_behind, longest}
use Rattle.run_load.specs.declared.watch.Watched.{Watched}

-- ---- arrivals of counters

-- an arrival of counter c at this moment is among these events, and no tick of it behind it
pub record IsSince (c m : ℕ) (before : List Stamped) : Type 0 where
  pub front : List Stamped
  pub arrival : Stamped
  pub rest : List Stamped
  pub parts : before ≡ front ++ arrival ∷ rest
  pub arrives : arrival.event ≡ event.Due c
  pub none : AllByRecursion (λ e. is_number c (ticking_counter e.event) ≡ false) rest
  pub is : m ≡ arrival.stamp.at

abbrev AreSince : List Stamped → Moments → Type 0
AreSince before moments = (c m : ℕ) → get_or moments c None ≡ Some m → IsSince c m before

all_one_more : (P : Stamped → Type 0) (es : List Stamped) (e : Stamped) → AllByRecursion P es → P e → AllByRecursion P (es ++ e ∷ [])
all_one_more P [] e all is = (is, tt)
all_one_more P (x ∷ es) e all is = (all.0, all_one_more P es e all.1 is)

since_more : (c m : ℕ) (before : List Stamped) (e : Stamped) → IsSince c m before → is_number c (ticking_counter e.event) ≡ false → IsSince c m (before ++ e ∷ [])
since_more c m before e h other = record {
  front = h.front;
  arrival = h.arrival;
  rest = h.rest ++ e ∷ [];
  parts = ap (λ es. es ++ e ∷ []) h.parts ∙ append_assoc h.front (h.arrival ∷ h.rest) (e ∷ []);
  arrives = h.arrives;
  none = all_one_more (λ x. is_number c (ticking_counter x.event) ≡ false) h.rest e h.none other;
  is = h.is;
}

set_self : (l : Moments) (i : ℕ) (a : Option ℕ) → (get_or (set l i a) i None ≡ a) ⊎ (get_or (set l i a) i None ≡ None)
set_self [] i a = inr refl
set_self (x ∷ l) zero a = inl refl
set_self (x ∷ l) (suc i) a = set_self l i a

some_same : (k m : ℕ) → Some k ≡ Some m → k ≡ m
some_same k m e = cc

none_some : (m : ℕ) → None ≡ Some m → ⊥
none_some m e = absurd cc

not_number : (c d : ℕ) → (c ≡ d → ⊥) → is_number c (Some d) ≡ false
not_number c d other = by (d == c) refl
  where
    by : (b : Bool) → (d == c) ≡ b → (d == c) ≡ false
    by true e = absurd (other (sym (eqb-true d c e)))
    by false e = e

module _ (before : List Stamped) (moments : Moments) (since : AreSince before moments) where
  -- the moment of an arrival that is noted
  due_since : (d : ℕ) (e : Stamped) → e.event ≡ event.Due d → AreSince (before ++ e ∷ []) (set moments d (Some (unwrap_or (get_or moments d None) e.stamp.at)))
  due_since d e is c m here = by (cases_eq c d)
    where
      noted_at : ℕ
      noted_at = unwrap_or (get_or moments d None) e.stamp.at

      no_tick : (k : ℕ) → is_number k (ticking_counter e.event) ≡ false
      no_tick k = ap (λ w. is_number k (ticking_counter w)) is

      this : (o : Option ℕ) → get_or moments d None ≡ o → Some (unwrap_or (get_or moments d None) e.stamp.at) ≡ Some m → IsSince d m (before ++ e ∷ [])
      this (Some k) was same =
          let k_is : k ≡ m = some_same k m (sym (ap (λ o. Some (unwrap_or o e.stamp.at)) was) ∙ same) in
          since_more d m before e (since d m (was ∙ ap Some k_is)) (no_tick d)
      this None was same =
          let at_is : e.stamp.at ≡ m = some_same e.stamp.at m (sym (ap (λ o. Some (unwrap_or o e.stamp.at)) was) ∙ same) in
          record { front = before; arrival = e; rest = []; parts = refl; arrives = is; none = tt; is = sym at_is }

      either : get_or (set moments d (Some noted_at)) d None ≡ Some m
          → (get_or (set moments d (Some noted_at)) d None ≡ Some noted_at) ⊎ (get_or (set moments d (Some noted_at)) d None ≡ None) → IsSince d m (before ++ e ∷ [])
      either there (inl g) = this (get_or moments d None) refl (sym g ∙ there)
      either there (inr g) = absurd (none_some m (sym g ∙ there))

      by : (c ≡ d) ⊎ (c ≡ d → ⊥) → IsSince c m (before ++ e ∷ [])
      by (inl same) =
          subst (λ k. IsSince k m (before ++ e ∷ [])) (sym same)
          (either (ap (λ k. get_or (set moments d (Some noted_at)) k None) (sym same) ∙ here) (set_self moments d (Some noted_at)))
      by (inr other) = since_more c m before e (since c m (sym (get_or-set_other moments d c (Some noted_at) None other) ∙ here)) (no_tick c)

  tick_since : (d : ℕ) (e : Stamped) → e.event ≡ event.Tick d → AreSince (before ++ e ∷ []) (set moments d None)
  tick_since d e is c m here = by (cases_eq c d)
    where
      either : get_or (set moments d None) d None ≡ Some m → (get_or (set moments d None) d None ≡ None) ⊎ (get_or (set moments d None) d None ≡ None) → ⊥
      either there (inl g) = none_some m (sym g ∙ there)
      either there (inr g) = none_some m (sym g ∙ there)

      by : (c ≡ d) ⊎ (c ≡ d → ⊥) → IsSince c m (before ++ e ∷ [])
      by (inl same) = absurd (either (ap (λ k. get_or (set moments d None) k None) (sym same) ∙ here) (set_self moments d None))
      by (inr other) =
          since_more c m before e (since c m (sym (get_or-set_other moments d c None None other) ∙ here)) (ap (λ w. is_number c (ticking_counter w)) is ∙ not_number c d other)

  other_since : (e : Stamped) → ticking_counter e.event ≡ None → AreSince (before ++ e ∷ []) moments
  other_since e other c m here = since_more c m before e (since c m here) (ap (is_number c) other)

  noted_since : (e : Stamped) (what : Event) → e.event ≡ what → AreSince (before ++ e ∷ []) (noted what e.stamp.at moments)
  noted_since e (event.Due d) is = due_since d e is
  noted_since e (event.Tick d) is = tick_since d e is
  noted_since e what is = other_since e (ap ticking_counter is)

  edge_is : (e : Stamped) (what : Event) → e.event ≡ what → IsEdge before e (edge what e.stamp.at moments)
  edge_is e (event.Tick d) is = by (get_or moments d None) refl
    where
      by : (o : Option ℕ) → get_or moments d None ≡ o → IsEdge before e (unwrap_or (get_or moments d None) e.stamp.at)
      by (Some m) was =
          let h = since d m was in
          inr (record {
            counter = d;
            ticks = is;
            front = h.front;
            arrival = h.arrival;
            rest = h.rest;
            parts = h.parts;
            arrives = h.arrives;
            none = h.none;
            is = ap (λ o. unwrap_or o e.stamp.at) was ∙ h.is;
          })
      by None was = inl (ap (λ o. unwrap_or o e.stamp.at) was)
  edge_is e what is = inl refl

none_noted : (n c m : ℕ) → get_or (replicate n None) c None ≡ Some m → ⊥
none_noted zero c m e = absurd cc
none_noted (suc n) zero m e = absurd cc
none_noted (suc n) (suc c) m e = none_noted n c m e

pub none_since : (c m : ℕ) → get_or no_moments c None ≡ Some m → IsSince c m []
none_since c m e = absurd (none_noted counter_limit c m e)

-- ---- one response

no_admit_leaves : (t : ℕ) (what : Event) → is_left t what ≡ true → (e : Stamped) → e.event ≡ what → is_admit e ≡ false
no_admit_leaves t (event.Left u served) l e is = ap (λ w. is_some (admitted_line w)) is
no_admit_leaves t what l e is = absurd (false≢true l)

module _ (config : Config) (app : App) (t limit : ℕ) (behind : List Stamped)
    (pends : (front rest : List Stamped) (e : Stamped) → behind ≡ front ++ e ∷ rest → AllByRecursion (λ x. is_left t x.event ≡ false) front → is_admit e ≡ false → e.stamp.at < limit) where
  ends_within : (front rest : List Stamped) (start last : ℕ) (moments : Moments) (s : System) → behind ≡ front ++ rest → AllByRecursion (λ x. is_left t x.event ≡ false) front → last ≤ limit
      → end_of_response t last (watched_stages config t moments (stages config app start s rest)) ≤ limit
  ends_within front [] start last moments s parts none le = le
  ends_within front (e ∷ rest) start last moments s parts none le =
      by (λ k other few.
      ends_within (front ++ e ∷ []) rest (end_of (stage config app start s e)) k (noted e.event e.stamp.at moments) (state_behind config app e.event s)
      (parts ∙ sym (append_assoc front (e ∷ []) rest)) (all_one_more (λ y. is_left t y.event ≡ false) front e none other) few)
      (is_admit e) (is_left t e.event) refl refl
    where
      later : ℕ → ℕ
      later k = end_of_response t k (watched_stages config t (noted e.event e.stamp.at moments) (stages config app (end_of (stage config app start s e)) (state_behind config app e.event s) rest))

      ended : is_admit e ≡ false → e.stamp.at + 1 ≤ limit
      ended other = let lt = pends front rest e parts none other in omega (arith, lt)

      goal_at : Bool → Bool → ℕ
      goal_at a l = cond a (later last) (cond l (e.stamp.at + 1) (later (e.stamp.at + 1)))

      by : ((k : ℕ) → is_left t e.event ≡ false → k ≤ limit → later k ≤ limit) → (a l : Bool) → is_admit e ≡ a → is_left t e.event ≡ l → goal_at (is_admit e) (is_left t e.event) ≤ limit
      by on true true a l = absurd (true≢false (sym a ∙ no_admit_leaves t e.event l e refl))
      by on true false a l = subst (λ b. goal_at b (is_left t e.event) ≤ limit) (sym a) (on last l le)
      by on false true a l = subst (λ b. goal_at b (is_left t e.event) ≤ limit) (sym a) (subst (λ b. goal_at false b ≤ limit) (sym l) (ended a))
      by on false false a l = subst (λ b. goal_at b (is_left t e.event) ≤ limit) (sym a) (subst (λ b. goal_at false b ≤ limit) (sym l) (on (e.stamp.at + 1) l (ended a)))

-- ---- all

ready_of : (state : TaskState) → is_ready state ≡ true → state ≡ mode.Ready
ready_of mode.Suspended e = absurd (false≢true e)
ready_of mode.Ready e = refl
ready_of mode.Active e = absurd (false≢true e)
ready_of (mode.Waiting mask) e = absurd (false≢true e)

not_ready_of : (state : TaskState) → not (is_ready state) ≡ true → state ≡ mode.Ready → ⊥
not_ready_of state e is = true≢false (sym e ∙ ap (λ z. not (is_ready z)) is)

within_of : (end edge r : ℕ) → end ≤ edge + r → end - edge ≤ r
within_of end edge r h = omega (arith, h)

module _ (config : Config) (app : App) (t r : ℕ) (there : t < length config.tasks) (all : Bool) (events : List Stamped) (pends : PendsWithin config app t r all events) where
  -- behind boot one of these events has found a quiet state
  abbrev HasQuiet : List Stamped → Type 0
  HasQuiet before = IsBehindBoot config app t before

  quiet_more : (before : List Stamped) (e : Stamped) → HasQuiet before → HasQuiet (before ++ e ∷ [])
  quiet_more before e h = record {
    boot = h.boot;
    front = h.front;
    here = h.here;
    rest = h.rest ++ e ∷ [];
    parts = ap (λ es. es ++ e ∷ []) h.parts ∙ append_assoc (h.boot ∷ h.front) (h.here ∷ h.rest) (e ∷ []);
    found = h.found;
    leads = h.leads;
    quiet = h.quiet;
  }

  quiet_here : (before : List Stamped) (e : Stamped) (s next : System) → AreStepsTo config app before (opening config app) s → OsekStep config app e.event s next → is_boot e.event ≡ false
      → is_quiet config t s ≡ true → HasQuiet (before ++ e ∷ [])
  quiet_here [] e s next leads step other quiet =
      absurd (false≢true (sym (ap (λ (z : System). z.booted) leads) ∙ booted_before config app e.event s next step other))
  quiet_here (b ∷ before) e s next leads step other quiet = record { boot = b; front = before; here = e; rest = []; parts = refl; found = s; leads = leads; quiet = quiet }

  -- the quiet state that is known of
  behind_is_quiet : (quiet : Bool) (before : List Stamped) (moments : Moments) (start : ℕ) (e : Stamped) (s next : System) → (quiet ≡ true → HasQuiet before)
      → AreStepsTo config app before (opening config app) s → OsekStep config app e.event s next
      → is_behind quiet (watched config t moments (stage config app start s e)) ≡ true → HasQuiet (before ++ e ∷ [])
  behind_is_quiet true before moments start e s next known leads step is = quiet_more before e (known refl)
  behind_is_quiet false before moments start e s next known leads step is =
      let both = and_parts (not (is_boot e.event)) (is_quiet config t s) is in quiet_here before e s next leads step (no_boot (is_boot e.event) both.0) both.1
    where
      no_boot : (b : Bool) → not b ≡ true → b ≡ false
      no_boot true h = absurd (false≢true h)
      no_boot false h = refl

  pub longest_within : (before rest : List Stamped) (start : ℕ) (moments : Moments) (quiet : Bool) (s end : System) → events ≡ before ++ rest
      → AreStepsTo config app before (opening config app) s → AreStepsTo config app rest s end → AreSince before moments → (quiet ≡ true → HasQuiet before)
      → longest t all quiet (watched_stages config t moments (stages config app start s rest)) ≤ r
  longest_within before [] start moments quiet s end parts led leads since known = omega arith
  longest_within before (e ∷ rest) start moments quiet s end parts led leads since known =
      max-le this
      (longest_within (before ++ e ∷ []) rest (end_of (stage config app start s e)) (noted e.event e.stamp.at moments) (is_behind quiet (watched config t moments (stage config app start s e)))
      (state_behind config app e.event s) end (parts ∙ sym (append_assoc before (e ∷ []) rest))
      (subst (λ (z : System). AreStepsTo config app (before ++ e ∷ []) (opening config app) z) (sym next_is)
      (leads-append config app before (e ∷ []) (opening config app) s leads.0 led (leads.0, leads.1, refl)))
      (subst (λ (z : System). AreStepsTo config app rest z end) (sym next_is) leads.2)
      (noted_since before moments since e e.event refl)
      (behind_is_quiet quiet before moments start e s leads.0 known led leads.1))
    where
      x : Stage
      x = stage config app start s e

      w : Watched
      w = watched config t moments (stage config app start s e)

      next_is : state_behind config app e.event s ≡ leads.0
      next_is = behind_is config app e.event s leads.0 leads.1

      ws : List Watched
      ws = watched_stages config t (noted e.event e.stamp.at moments) (stages config app (end_of (stage config app start s e)) (state_behind config app e.event s) rest)

      makes : makes_ready t x ≡ true → MakesReady config app t e.event s leads.0
      makes is =
          let both = and_parts (not (is_ready (task s t).state)) (is_ready (task (state_behind config app e.event s) t).state) is in
          record {
            declared = there;
            step = leads.1;
            not_before = not_ready_of (task s t).state both.0;
            behind = ready_of (task leads.0 t).state (sym (ap (λ (z : System). is_ready (task z t).state) next_is) ∙ both.1);
          }

      asked : (all || is_behind quiet w) ≡ true → IsAsked all config app t (before ++ e ∷ [])
      asked is none = behind_is_quiet quiet before moments start e s leads.0 known led leads.1 (sym (ap (λ b. b || is_behind quiet w) none) ∙ is)

      counts : (b : Bool) → (w.made && (all || is_behind quiet w)) ≡ b → cond b (response t w ws) 0 ≤ r
      counts false is = omega arith
      counts true is =
          let both = and_parts w.made (all || is_behind quiet w) is in
          let ends = pends before in
          within_of (end_of_response t 0 ws) w.edge r
          (ends_within config app t (w.edge + r) rest
          (λ front tail y split none other. (ends front tail e y s leads.0 w.edge (parts ∙ ap (λ es. before ++ e ∷ es) split) led (makes both.0) (asked both.1)
          (edge_is before moments since e e.event refl) none other).ends)
          [] rest (end_of (stage config app start s e)) 0 (noted e.event e.stamp.at moments) (state_behind config app e.event s) refl tt (omega arith))

      this : cond (w.made && (all || is_behind quiet w)) (response t w ws) 0 ≤ r
      this = counts (w.made && (all || is_behind quiet w)) refl
