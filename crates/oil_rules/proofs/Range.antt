-- The configuration of a tree without a fault is in range.
use Rattle.std.proofs.Common.{◌≡◌, ◌⊎◌, inl, ℕ, ◌<◌, ◌≤◌, true, List, [], ◌∷◌, length, get_or, refl, ap, sym, subst, IsTrue, arith}
use Rattle.std.specs.Prelude.{◌≢◌, codes, All, AllPairs, map, filter, count_by, unwrap_or}
use Rattle.std.proofs.lemmas.List.{length-map}
use Rattle.std.proofs.lemmas.List.Sums.{length-filter}
use Rattle.std.proofs.lemmas.List.Elements.{All-weaker}
use Rattle.sloth_base.specs.declared.config.EventDecl.{EventDecl}
use Rattle.sloth_base.specs.declared.config.TaskDecl.{TaskDecl}
use Rattle.sloth_base.specs.declared.config.CounterDecl.{CounterDecl}
use Rattle.sloth_base.specs.declared.config.AlarmDecl.{AlarmDecl}
use Rattle.sloth_base.specs.ImageRange.{IsWord, AreNames, AreNamesApart}
use Rattle.sloth_base.specs.ConfigRange.{IsTask, IsCounter, IsAlarm, InRange, scheduler_number}
use Rattle.sloth_base.specs.Limits.{task_limit, event_limit}
use Rattle.sloth_base.specs.Order.{NoFault}
use Rattle.oil_parse.specs.declared.tree.OilObject.{OilObject}
use Rattle.oil_parse.specs.declared.tree.OilTree.{OilTree}
use Rattle.oil_table.specs.Objects.{is_of_kind, has_scheduler, names_of}
use Rattle.oil_table.specs.Events.{number_masks, events_of}
use Rattle.oil_rules.specs.ModelFaults.{ModelFault}
use Rattle.oil_rules.specs.Clocks.{declared_counter, declared_alarm}
use Rattle.oil_rules.specs.Configs.{resource_names, declared_task, tasks_of, config_of}
use Rattle.oil_rules.proofs.NoFaults.{few_tasks, few_names, few_events, few_counters, few_alarms}
use Rattle.text_pieces.proofs.Tests.{All-kept}
use Rattle.oil_rules.proofs.Lists.{pairs_kept}
use Rattle.oil_rules.proofs.RangeNames.{are_names, scheduler_alone}
use Rattle.oil_rules.proofs.RangeEvents.{event_names, masks_positive}
use Rattle.oil_rules.proofs.RangeUnions.{is_union}
use Rattle.oil_rules.proofs.RangeTasks.{priority_value, priority_is, resources_within, no_shared, priorities_apart}
use Rattle.oil_rules.proofs.RangeExtended.{extended}
use Rattle.oil_rules.proofs.RangeCounters.{is_counter}
use Rattle.oil_rules.proofs.RangeAlarms.{is_alarm}
use Rattle.oil_rules.proofs.RangeApart.{counters_apart}

task_names : (names : List (List ℕ)) (events : List EventDecl) (xs : List OilObject) → map (λ (t : TaskDecl). t.name) (map (declared_task names events) xs) ≡ map (λ (o : OilObject). o.name) xs
task_names names events [] = refl
task_names names events (x ∷ xs) = ap (λ ys. x.name ∷ ys) (task_names names events xs)

counter_names : (xs : List OilObject) → map (λ (c : CounterDecl). c.name) (map declared_counter xs) ≡ map (λ (o : OilObject). o.name) xs
counter_names [] = refl
counter_names (x ∷ xs) = ap (λ ys. x.name ∷ ys) (counter_names xs)

alarm_names : (tasks counters : List (List ℕ)) (events : List EventDecl) (xs : List OilObject)
    → map (λ (a : AlarmDecl). a.name) (map (declared_alarm tasks counters events) xs) ≡ map (λ (o : OilObject). o.name) xs
alarm_names tasks counters events [] = refl
alarm_names tasks counters events (x ∷ xs) = ap (λ ys. x.name ∷ ys) (alarm_names tasks counters events xs)

module _ (tree : OilTree) (none : NoFault (ModelFault tree)) (words : All (λ (o : OilObject). IsWord o.name) tree.objects)
    (fit : All (λ (e : EventDecl). e.mask < 4294967296) (events_of tree.objects)) where
  names_of_events : AreNames (map (λ (e : EventDecl). e.name) (events_of tree.objects))
  names_of_events = subst AreNames (sym (event_names (number_masks tree.objects) tree.objects)) (are_names tree none words (codes "EVENT"))

  number_of_events : length (events_of tree.objects) ≤ event_limit
  number_of_events =
      let a = length-map (events_of tree.objects) (λ (e : EventDecl). e.name) in
      let e = ap length (event_names (number_masks tree.objects) tree.objects) in
      let b = length-map (filter (is_of_kind (codes "EVENT")) tree.objects) (λ (o : OilObject). o.name) in
      let f = length-filter (is_of_kind (codes "EVENT")) tree.objects in
      let n = few_events tree none in
      omega (arith, a, e, b, f, n)

  number_of_tasks : length (tasks_of (resource_names tree.objects) (events_of tree.objects) tree.objects) ≤ task_limit
  number_of_tasks =
      let a = length-map (filter (is_of_kind (codes "TASK")) tree.objects) (declared_task (resource_names tree.objects) (events_of tree.objects)) in
      let f = length-filter (is_of_kind (codes "TASK")) tree.objects in
      let n = few_tasks tree none in
      omega (arith, a, f, n)

  is_task : (i : ℕ) (d : OilObject) → i < length tree.objects → is_of_kind (codes "TASK") (get_or tree.objects i d) ≡ true
      → IsTask (config_of tree.objects) (declared_task (resource_names tree.objects) (events_of tree.objects) (get_or tree.objects i d))
  is_task i d h t =
      let o = get_or tree.objects i d in
      let p = priority_value tree none i d h t in
      record {
        priority = let e = ap (λ x. unwrap_or x 0) (priority_is tree none i d h t) in let s = p.small in omega (arith, e, s);
        resources = All-weaker (λ n. n < length (resource_names tree.objects)) (λ n. (n < length (resource_names tree.objects)) ⊎ ((n ≡ scheduler_number) × IsTrue (has_scheduler tree.objects)))
            (λ n b. inl b) _ (resources_within (resource_names tree.objects) o.attrs);
        events = is_union (events_of tree.objects) names_of_events.distinct o.attrs (no_shared tree none i d h t);
        extended = extended tree none i d h t;
      }

  differing : AllPairs (λ (s t : TaskDecl). s.priority ≢ t.priority) (tasks_of (resource_names tree.objects) (events_of tree.objects) tree.objects)
  differing = by tree.objects refl
    where
      by : (os : List OilObject) → tree.objects ≡ os → AllPairs (λ (s t : TaskDecl). s.priority ≢ t.priority) (tasks_of (resource_names tree.objects) (events_of tree.objects) tree.objects)
      by [] e = subst (λ (ys : List OilObject). AllPairs (λ (s t : TaskDecl). s.priority ≢ t.priority) (tasks_of (resource_names tree.objects) (events_of tree.objects) ys)) (sym e) (λ i j c h k. absurd (omega arith))
      by (x ∷ os) e = pairs_kept (is_of_kind (codes "TASK")) (declared_task (resource_names tree.objects) (events_of tree.objects)) (λ (s t : TaskDecl). s.priority ≢ t.priority) tree.objects
          (priorities_apart tree none) x

  abbrev alarm_of : OilObject → AlarmDecl
  alarm_of = declared_alarm (names_of (codes "TASK") tree.objects) (names_of (codes "COUNTER") tree.objects) (events_of tree.objects)

  few_declared : {Y : Type 0} (kind : List ℕ) (f : OilObject → Y) (limit : ℕ) → count_by (is_of_kind kind) tree.objects ≤ limit → length (map f (filter (is_of_kind kind) tree.objects)) ≤ limit
  few_declared kind f limit few =
      let a = length-map (filter (is_of_kind kind) tree.objects) f in
      let b = length-filter (is_of_kind kind) tree.objects in
      omega (arith, a, b, few)

  pub in_range : InRange (config_of tree.objects)
  in_range = record {
    few_tasks = number_of_tasks;
    few_resources = few_names tree none;
    few_events = number_of_events;
    task_names = subst AreNames (sym (task_names (resource_names tree.objects) (events_of tree.objects) (filter (is_of_kind (codes "TASK")) tree.objects))) (are_names tree none words (codes "TASK"));
    resource_names = are_names tree none words (codes "RESOURCE");
    event_names = names_of_events;
    priorities_differ = differing;
    masks = λ k d h. (masks_positive tree none k d h, fit k d h);
    tasks = All-kept (is_of_kind (codes "TASK")) (declared_task (resource_names tree.objects) (events_of tree.objects)) (IsTask (config_of tree.objects)) tree.objects is_task;
    scheduler_alone = scheduler_alone tree none;
    few_counters = few_declared (codes "COUNTER") declared_counter 2 (few_counters tree none);
    few_alarms = few_declared (codes "ALARM") alarm_of 32 (few_alarms tree none);
    counter_names = subst AreNames (sym (counter_names (filter (is_of_kind (codes "COUNTER")) tree.objects))) (are_names tree none words (codes "COUNTER"));
    alarm_names = subst AreNames (sym (alarm_names (names_of (codes "TASK") tree.objects) (names_of (codes "COUNTER") tree.objects) (events_of tree.objects) (filter (is_of_kind (codes "ALARM")) tree.objects)))
        (are_names tree none words (codes "ALARM"));
    counters_apart = subst (λ (names : List (List ℕ)). AreNamesApart names (map (λ (t : TaskDecl). t.name) (config_of tree.objects).tasks))
        (sym (counter_names (filter (is_of_kind (codes "COUNTER")) tree.objects)))
        (subst (AreNamesApart (names_of (codes "COUNTER") tree.objects))
        (sym (task_names (resource_names tree.objects) (events_of tree.objects) (filter (is_of_kind (codes "TASK")) tree.objects))) (counters_apart tree none));
    counters = All-kept (is_of_kind (codes "COUNTER")) declared_counter IsCounter tree.objects (is_counter tree none);
    alarms = All-kept (is_of_kind (codes "ALARM")) alarm_of (IsAlarm (config_of tree.objects)) tree.objects (is_alarm tree none);
  }
