-- The rows tell of each event with which there is a run still, and of no other.
use Rattle.std.proofs.Common.{ℕ, ◌<◌, ◌≡◌, ◌∙◌, ◌⊎◌, List, [], ◌∷◌, ◌++◌, Bool, true, false, length, Option, Some, None, All, refl, sym, ap, subst, is_some, inl, inr, arith}
use Rattle.std.specs.Prelude.{◌&&◌, option_to_list}
use Rattle.std.proofs.lemmas.Bool.{and_from, and_parts, false≢true}
use Rattle.std.proofs.lemmas.Option.{none-some}
use Rattle.std.proofs.lemmas.List.Elements.{All-cons}
use Rattle.sloth_base.specs.declared.config.Config.{Config}
use Rattle.sloth_base.specs.declared.app.App.{App}
use Rattle.sloth_base.specs.declared.service.Event.{Event}
use Rattle.sloth_base.specs.declared.service.Event.TheVariants as event
use Rattle.sloth_base.specs.declared.service.Stamped.{Stamped}
use Rattle.osek_scheduler.specs.State.{System}
use Rattle.osek_scheduler.specs.Meaning.{if_true}
use Rattle.osek_scheduler.specs.Next.{next_state}
use Rattle.osek_scheduler.specs.Runs.{OsekRun}
use Rattle.osek_scheduler.proofs.Next.{step_of, step_is}
use Rattle.osek_machine.specs.Steps.{IsSound}
use Rattle.trace_check.specs.Moments.{noted_moments}
use Rattle.trace_check.specs.Walk.{Walk, IsWalked, event_passes}
use Rattle.trace_check.proofs.Walking.{walked_more, walked_stops}
use Rattle.trace_check.specs.MachineEvents.{item_event, service_event}
use Rattle.trace_check.specs.NextEvents.{AreNextEvents, IsTold, IsToldBy, IsWithin}
use Rattle.trace_check.specs.Rows.{all_rows, event_limit, leaves_count, rows_below, rows_of, task_rows}
use Rattle.trace_check.specs.declared.rows.NextEvent.{NextEvent}
use Rattle.trace_check.proofs.Told.{Each, each_both, each_below, teller, told_left, told_right, told_below}
use Rattle.trace_check.proofs.Within.{leaves_within, passes_within, within_leaves, within_passes}
use Rattle.trace_check.proofs.Items.{HasTask, has_task}

some_of : {A : Type 0} (o : Option A) → is_some o ≡ true → (a : A) × (o ≡ Some a)
some_of None e = absurd (false≢true e)
some_of (Some a) e = (a, refl)

-- what is so of each row, by place
each_all : (P : NextEvent → Type 0) (rows : List NextEvent) → Each P rows → All P rows
each_all P [] h = λ k d l. absurd (omega (arith, l))
each_all P (row ∷ rows) h = All-cons P row rows h.0 (each_all P rows h.1)

module _ (config : Config) (app : App) (past : List Stamped) (w : Walk) (h : IsWalked config app past w) (sound : IsSound w.machine.config w.machine.app w.machine.system) where
  abbrev s : System
  s = w.machine.system

  abbrev next_of : Event → Option System
  next_of e = next_state w.machine.config w.machine.app e s

  abbrev Runs : Stamped → Type 0
  Runs e = OsekRun config app (past ++ e ∷ [])

  abbrev steps_by : Stamped → Bool
  steps_by e = event_passes w.machine.config s w.moments e.event e.stamp.from

  -- ---- one event more

  run_of : (e : Stamped) (next : System) → next_of e.event ≡ Some next → steps_by e ≡ true → Runs e
  run_of e next is passes =
      let new : Walk = record {
        machine = record { config = w.machine.config; app = w.machine.app; system = next };
        moments = noted_moments e.event e.stamp.at s w.moments;
      } in
      let more = walked_more config app past w h e new
      (record { config = refl; app = refl; step = step_of w.machine.config w.machine.app s next e.event is; passes = passes; moments = refl }) in
      (next, more.follows)

  -- an event with which there is a run
  record IsRunning (e : Stamped) : Type 0 where
    next : System
    is : next_of e.event ≡ Some next
    passes : steps_by e ≡ true

  run_is : (e : Stamped) → Runs e → IsRunning e
  run_is e run = by (next_of e.event) (steps_by e) refl refl
    where
      by : (o : Option System) (b : Bool) → next_of e.event ≡ o → steps_by e ≡ b → IsRunning e
      by (Some next) true is passes = record { next = next; is = is; passes = passes }
      by (Some next) false is passes =
          absurd (walked_stops config app past w h e (λ holds next step. false≢true (sym passes ∙ holds)) run)
      by None b is passes =
          absurd (walked_stops config app past w h e
          (λ holds next step. none-some next (sym is ∙ step_is w.machine.config w.machine.app s next e.event step)) run)

  -- ---- each row

  record IsGood (row : NextEvent) : Type 0 where
    begins : IsWithin row.limit 0
    runs : (e : Stamped) → IsToldBy row e → Runs e

  good_if : (b : Bool) (row : NextEvent) → (b ≡ true → IsGood row) → Each IsGood (option_to_list (if_true b (Some row)))
  good_if true row f = (f refl, tt)
  good_if false row f = tt

  good_row : (e : Event) → (is_some (next_of e) && leaves_count (event_limit w e)) ≡ true → IsGood (record { event = e; limit = event_limit w e })
  good_row e b =
      let both = and_parts (is_some (next_of e)) (leaves_count (event_limit w e)) b in
      let next = some_of (next_of e) both.0 in
      record {
        begins = leaves_within (event_limit w e) both.1;
        runs = λ x told.
            let there = ap next_of told.event ∙ next.1 in
            let P : Event → Type 0 = λ y. event_passes w.machine.config s w.moments y x.stamp.from ≡ true in
            run_of x next.0 there (subst P (sym told.event) (within_passes w x.stamp.from e told.begins));
      }

  good : (e : Event) → Each IsGood (rows_of w (Some e))
  good e = good_if (is_some (next_of e) && leaves_count (event_limit w e)) (record { event = e; limit = event_limit w e }) (good_row e)

  good_some : (o : Option Event) → Each IsGood (rows_of w o)
  good_some None = tt
  good_some (Some e) = good e

  -- the rows of a task
  abbrev entry : ℕ → List NextEvent
  entry t = rows_of w (Some (event.Enter t))

  abbrev back : ℕ → List NextEvent
  back t = rows_of w (Some (event.Back t))

  abbrev item : ℕ → List NextEvent
  item t = rows_of w (item_event w.machine.app t s)

  abbrev service : ℕ → List NextEvent
  service t = rows_of w (service_event w.machine.config w.machine.app t s)

  good_task : (t : ℕ) → Each IsGood (task_rows w t)
  good_task t =
      each_both IsGood (entry t) (back t ++ (item t ++ service t)) (good (event.Enter t))
      (each_both IsGood (back t) (item t ++ service t) (good (event.Back t))
      (each_both IsGood (item t) (service t) (good_some (item_event w.machine.app t s)) (good_some (service_event w.machine.config w.machine.app t s))))

  abbrev tasks : ℕ
  tasks = length w.machine.config.tasks

  abbrev counters : ℕ
  counters = length w.machine.config.counters

  abbrev starts : List NextEvent
  starts = rows_of w (Some event.Boot)

  abbrev of_tasks : List NextEvent
  of_tasks = rows_below tasks (task_rows w)

  abbrev tick_rows : ℕ → List NextEvent
  tick_rows c = rows_of w (Some (event.Tick c))

  abbrev admit_rows : ℕ → List NextEvent
  admit_rows t = rows_of w (Some (event.Admit t))

  abbrev due_rows : ℕ → List NextEvent
  due_rows c = rows_of w (Some (event.Due c))

  abbrev admits : List NextEvent
  admits = rows_below tasks admit_rows ++ rows_below counters due_rows

  abbrev from_idle : List NextEvent
  from_idle = rows_of w (Some event.Idle) ++ admits

  abbrev from_ticks : List NextEvent
  from_ticks = rows_below counters tick_rows ++ from_idle

  good_all : Each IsGood (all_rows w)
  good_all =
      each_both IsGood starts (of_tasks ++ from_ticks) (good event.Boot)
      (each_both IsGood of_tasks from_ticks (each_below IsGood tasks (task_rows w) good_task)
      (each_both IsGood (rows_below counters tick_rows) from_idle (each_below IsGood counters tick_rows (λ c. good (event.Tick c)))
      (each_both IsGood (rows_of w (Some event.Idle)) admits (good event.Idle)
      (each_both IsGood (rows_below tasks admit_rows) (rows_below counters due_rows)
      (each_below IsGood tasks admit_rows (λ t. good (event.Admit t))) (each_below IsGood counters due_rows (λ c. good (event.Due c)))))))

  -- ---- each event

  told_if : (b : Bool) (row : NextEvent) (e : Stamped) → b ≡ true → IsToldBy row e → IsTold (option_to_list (if_true b (Some row))) e
  told_if true row e holds told = inl told
  told_if false row e holds told = absurd (false≢true holds)

  told_row : (e : Stamped) → IsRunning e → IsTold (rows_of w (Some e.event)) e
  told_row e r =
      let within = passes_within w e.stamp.from e.event r.passes in
      told_if (is_some (next_of e.event) && leaves_count (event_limit w e.event)) (record { event = e.event; limit = event_limit w e.event }) e
      (and_from (is_some (next_of e.event)) (leaves_count (event_limit w e.event)) (ap is_some r.is) (within_leaves (event_limit w e.event) e.stamp.from within))
      (record { event = refl; begins = within })

  in_tasks : (e : Stamped) (t : ℕ) → t < tasks → IsTold (task_rows w t) e → IsTold (all_rows w) e
  in_tasks e t lt told = told_right starts (of_tasks ++ from_ticks) e (told_left of_tasks from_ticks e (told_below tasks t (task_rows w) e lt told))

  in_ticks : (e : Stamped) → IsTold from_ticks e → IsTold (all_rows w) e
  in_ticks e told = told_right starts (of_tasks ++ from_ticks) e (told_right of_tasks from_ticks e told)

  in_idle : (e : Stamped) → IsTold from_idle e → IsTold (all_rows w) e
  in_idle e told = in_ticks e (told_right (rows_below counters tick_rows) from_idle e told)

  in_admits : (e : Stamped) → IsTold admits e → IsTold (all_rows w) e
  in_admits e told = in_idle e (told_right (rows_of w (Some event.Idle)) admits e told)

  in_entry : (e : Stamped) (t : ℕ) → t < tasks → IsTold (entry t) e → IsTold (all_rows w) e
  in_entry e t lt told = in_tasks e t lt (told_left (entry t) (back t ++ (item t ++ service t)) e told)

  in_back : (e : Stamped) (t : ℕ) → t < tasks → IsTold (back t) e → IsTold (all_rows w) e
  in_back e t lt told = in_tasks e t lt (told_right (entry t) (back t ++ (item t ++ service t)) e (told_left (back t) (item t ++ service t) e told))

  in_item : (e : Stamped) (t : ℕ) → t < tasks → IsTold (item t) e → IsTold (all_rows w) e
  in_item e t lt told =
      in_tasks e t lt
      (told_right (entry t) (back t ++ (item t ++ service t)) e (told_right (back t) (item t ++ service t) e (told_left (item t) (service t) e told)))

  in_service : (e : Stamped) (t : ℕ) → t < tasks → IsTold (service t) e → IsTold (all_rows w) e
  in_service e t lt told =
      in_tasks e t lt
      (told_right (entry t) (back t ++ (item t ++ service t)) e (told_right (back t) (item t ++ service t) e (told_right (item t) (service t) e told)))

  in_own : (e : Stamped) (v : Event) → HasTask w.machine.config w.machine.app s v → IsTold (rows_of w (Some v)) e → IsTold (all_rows w) e
  in_own e v own told = by own.is
    where
      P : Option Event → Type 0
      P o = IsTold (rows_of w o) e

      by : (item_event w.machine.app own.owner s ≡ Some v) ⊎ (service_event w.machine.config w.machine.app own.owner s ≡ Some v) → IsTold (all_rows w) e
      by (inl is) = in_item e own.owner own.declared (subst P (sym is) told)
      by (inr is) = in_service e own.owner own.declared (subst P (sym is) told)

  told_at : (e : Stamped) (v : Event) (next : System) → next_of v ≡ Some next → IsTold (rows_of w (Some v)) e → IsTold (all_rows w) e
  told_at e event.Boot next is told = told_left starts (of_tasks ++ from_ticks) e told
  told_at e (event.Admit t) next is told =
      let step = step_of w.machine.config w.machine.app s next (event.Admit t) is in
      in_admits e (told_left (rows_below tasks admit_rows) (rows_below counters due_rows) e (told_below tasks t admit_rows e step.1 told))
  told_at e (event.Enter t) next is told =
      let step = step_of w.machine.config w.machine.app s next (event.Enter t) is in in_entry e t step.1.declared told
  told_at e (event.Back t) next is told =
      let step = step_of w.machine.config w.machine.app s next (event.Back t) is in in_back e t step.1.declared told
  told_at e event.Idle next is told = in_idle e (told_left (rows_of w (Some event.Idle)) admits e told)
  told_at e (event.Due c) next is told =
      let step = step_of w.machine.config w.machine.app s next (event.Due c) is in
      in_admits e (told_right (rows_below tasks admit_rows) (rows_below counters due_rows) e (told_below counters c due_rows e step.1 told))
  told_at e (event.Tick c) next is told =
      let step = step_of w.machine.config w.machine.app s next (event.Tick c) is in
      in_ticks e (told_left (rows_below counters tick_rows) from_idle e (told_below counters c tick_rows e step.1.declared told))
  told_at e v next is told = in_own e v (has_task w.machine.config w.machine.app s sound v next refl is) told

  -- ---- both

  pub are_next_events : (rows : List NextEvent) → rows ≡ all_rows w → AreNextEvents config app past rows
  are_next_events rows is =
      let P : List NextEvent → Type 0 = λ l. AreNextEvents config app past l in
      subst P (sym is) (record { exact = λ e. (of_told e, told_of e); begin = each_all (λ row. IsWithin row.limit 0) (all_rows w) (begins (all_rows w) good_all) })
    where
      of_told : (e : Stamped) → IsTold (all_rows w) e → Runs e
      of_told e told = let r = teller IsGood (all_rows w) e good_all told in r.1.runs e r.2

      told_of : (e : Stamped) → Runs e → IsTold (all_rows w) e
      told_of e run = let r = run_is e run in told_at e e.event r.next r.is (told_row e r)

      begins : (rows : List NextEvent) → Each IsGood rows → Each (λ row. IsWithin row.limit 0) rows
      begins [] each = tt
      begins (row ∷ rows) each = (each.0.begins, begins rows each.1)
