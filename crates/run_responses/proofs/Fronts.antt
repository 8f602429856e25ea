-- What lower tasks bring in by their code has a start of the record.
use Rattle.std.proofs.Common.{if◌then◌else◌, ◌≡◌, ℕ, ◌+◌, ◌<◌, ◌≤◌, ◌⊎◌, ◌*◌, ◌==◌, ◌&&◌, ◌||◌, not, Bool, true, false, cond, max, List, [], ◌∷◌, ◌++◌, length, get_or, refl, sym, ap, ◌∙◌, subst, arith, inl, inr, Option, Some, None, min, append_assoc, ◌-◌, ltb}
use Rattle.std.specs.List.{AllByRecursion}
use Rattle.std.proofs.lemmas.Bool.{false≢true, true≢false, leb-true, lt-ltb, cases_lt, eqb-true, eq-eqb, le-ltb}
use Rattle.std.proofs.lemmas.Bool.Decides.{not_from_Decides}
use Rattle.std.proofs.lemmas.List.{get_or_past}
use Rattle.sloth_base.specs.declared.config.Config.{Config}
use Rattle.sloth_base.specs.declared.config.TaskDecl.{TaskDecl}
use Rattle.sloth_base.specs.declared.app.App.{App}
use Rattle.sloth_base.specs.declared.app.Op.{Op}
use Rattle.sloth_base.specs.declared.app.Op.TheVariants as op
use Rattle.sloth_base.specs.declared.app.Call.{Call}
use Rattle.sloth_base.specs.declared.service.Service.{Service}
use Rattle.sloth_base.specs.declared.service.Service.TheVariants as service
use Rattle.sloth_base.specs.Named.{declaration, undeclared_task, function}
use Rattle.sloth_base.specs.declared.service.ObjectKind.TheVariants as object
use Rattle.sloth_base.specs.ServiceCodes.{is_service, code_of, object_kind, has_mask}
use Rattle.code_rules.specs.AppRange.{IsObject}
use Rattle.sloth_base.proofs.Services.{same_service}
use Rattle.rv32_expand.specs.Long.{size}
use Rattle.rv32_expand.specs.Expansion.{number_in, mask_of}
use Rattle.rv32_expand.proofs.Counts.{size_serve}
use Rattle.load_text.specs.declared.load_line.Entry.{Entry}
use Rattle.load_text.specs.Loads.{work}
use Rattle.code_lengths.specs.LongestPaths.{leaving_path, served_path}
use Rattle.osek_scheduler.specs.Apart.{static_priority}
use Rattle.osek_scheduler.proofs.Facts.{Facts}
use Rattle.osek_blocking.specs.Walks.{Position, chains_itself, IsWalk}
use Rattle.osek_blocking.specs.Sections.{priority_at, operation_at, IsLower, IsSection}
use Rattle.bound_rules.specs.declared.bound.BodyWeights.{BodyWeights}
use Rattle.bound_rules.specs.Weights.{no_weights}
use Rattle.run_counts.specs.Counts.{AreBodyCounts}
use Rattle.walk_sums.specs.Weights.{going_at, ending_at, sum_of}
use Rattle.sim_induction.specs.Items.{length_of, served_counts, going_counts, ending_counts}
use Rattle.walk_sums.specs.declared.counted.Counted.{Counted}
use Rattle.walk_sums.specs.declared.counted.Counted.TheVariants as counts
use Rattle.walk_sums.specs.declared.sections.Sum.{Sum}
use Rattle.walk_sums.specs.declared.sections.Sum.TheVariants as sum
use Rattle.walk_sums.specs.Rounds.{Reaches, is_wait}
use Rattle.walk_sums.specs.Counted.{one_if, calls, calls_for, is_ending_counted, counted_weights}
use Rattle.walk_sums.specs.Told.{IsToldSum}
use Rattle.run_windows.specs.declared.costs.Costs.{Costs}
use Rattle.run_windows.specs.declared.costs.Start.{Start}
use Rattle.run_windows.specs.declared.costs.Start.TheVariants as start
use Rattle.run_windows.specs.Costs.{reckoned, task, comes, joins, making, section, lesser, section_counts, section_making}
use Rattle.run_windows.specs.Windows.{Numbers, is_lower, is_below, is_boot, greater, begun_by, IsSolution}
use Rattle.run_costs.specs.Sections.{IsRaised, DoesRaised}
use Rattle.run_costs.specs.Rounds.{many}
use Rattle.run_costs.specs.CostsOf.{IsSectionCosts, IsSectionMade}
use Rattle.response_laws.specs.Sums.{is_over}
use Rattle.response_laws.specs.Demand
use Rattle.response_laws.specs.Bounded.{IsOfLevel}
use Rattle.response_laws.specs.Walked.{SectionsSum}
use Rattle.response_laws.specs.Once.{IsShutOut}
use Rattle.response_laws.specs.Makers.{activation_weights, setting_weights}
use Rattle.response_laws.specs.Works.{WaitsNowhere}
use Rattle.response_laws.specs.CodeStarts.{HasRoom, SomeHasRoom, none, autostarted, SectionsTake, RoundsSum, Joins, HasSections, is_call, FitsStarts, HaveServiceRoom}
use Rattle.response_laws.proofs.Counting.{counted_ending, counted_lighter}
use Rattle.run_responses.specs.Meeting.{AreCutTasks}
use Rattle.run_costs.specs.RunCosts.{AreRunTaskCosts, AreRunCosts, AreRunSectionMakings}
use Rattle.run_windows.specs.declared.level.Way.TheVariants as way
use Rattle.run_windows.specs.RunWindows.{is_joined, is_apart, longest_round, run_window, begun_item, call_words, call_path, may_serve, services_front, is_made_in_front, activation_front, setting_front, front_of, lead_of, run_starts, start_at, services_of, IsTold, AreTold}
use Rattle.run_responses.proofs.Numbers.{told_number, none_told}
use Rattle.run_responses.proofs.StartLists.{Has, has_free, has_boot, has_activation, has_setting, has_section, has_round, made_here, service_here}
use Rattle.run_responses.proofs.Rounds.{walk_front, many_told, level_upper, counted_task, counts_lighter}
use Rattle.run_responses.proofs.Reaching.{object_is, waits_unraised}
use Rattle.run_responses.proofs.Joined.{joined_of, joined_sum, joined_non, joined_cut, rounds_count, rounds_activate, rounds_set, rounds_set_own}
use Rattle.run_responses.proofs.Windows.{own_sets, due_numbers, start_with, start_by, settings_enough}

-- ---- services

itself : (s : Service) → is_service s s ≡ true
itself s = eq-eqb (code_of s) (code_of s) refl

-- whichever way a service goes, it takes no more than its longest path
path_few : (s : Service) (b : Bool) → max (served_counts s) (leaving_path s b) ≤ max (served_path s) (leaving_path s false)
path_few service.ChainTask true = omega arith
path_few service.ChainTask false = omega arith
path_few service.ActivateTask b = omega arith
path_few service.TerminateTask b = omega arith
path_few service.Schedule b = omega arith
path_few service.GetTaskID b = omega arith
path_few service.GetTaskState b = omega arith
path_few service.GetResource b = omega arith
path_few service.ReleaseResource b = omega arith
path_few service.SetEvent b = omega arith
path_few service.ClearEvent b = omega arith
path_few service.GetEvent b = omega arith
path_few service.WaitEvent b = omega arith
path_few service.SetRelAlarm b = omega arith
path_few service.SetAbsAlarm b = omega arith
path_few service.CancelAlarm b = omega arith
path_few service.GetAlarm b = omega arith

-- the instructions of a call
words_of : (s : Service) (mask : ℕ) → length (mask_of s mask) + 1 ≡ call_words s
words_of s mask = by (has_mask s)
  where
    by : (b : Bool) → length (if b then number_in 30 mask else []) + 1 ≡ cond b 3 1
    by true = refl
    by false = refl

-- ---- walks

-- where no position is raised there is no section
no_section_sums : (config : Config) (app : App) (h b : ℕ) (weights : List BodyWeights) (n : ℕ) → ¬ (IsRaised config app h b) → SectionsSum config app h b weights n
no_section_sums config app h b weights n none [] is = omega arith
no_section_sums config app h b weights n none (at ∷ further) is =
    absurd (none (at, ((is.before, walk_front app b is.before further at is.of_walk), is.raised.0)))

-- ---- fronts

one_of_two : (a c b : Bool) → one_if ((a && b) || (c && b)) ≤ cond b 1 0
one_of_two true true true = omega arith
one_of_two true false true = omega arith
one_of_two false true true = omega arith
one_of_two false false true = omega arith
one_of_two true true false = omega arith
one_of_two true false false = omega arith
one_of_two false true false = omega arith
one_of_two false false false = omega arith

chain_least : (a b : Bool) → a ≡ true → call_path service.ChainTask ≤ cond a (call_path service.ChainTask) (cond b (call_path service.ActivateTask) 0)
chain_least true b e = omega arith
chain_least false b e = cc

activate_least : (a b : Bool) → b ≡ true → call_path service.ActivateTask ≤ cond a (call_path service.ChainTask) (cond b (call_path service.ActivateTask) 0)
activate_least true b e = omega arith
activate_least false true e = omega arith
activate_least false false e = cc

set_least : (a : Bool) → a ≡ true → call_path service.SetEvent ≤ cond a (call_path service.SetEvent) 0
set_least true e = omega arith
set_least false e = cc

one_of_one : (a b : Bool) → one_if (a && b) ≤ cond b 1 0
one_of_one true true = omega arith
one_of_one true false = omega arith
one_of_one false b = omega arith

module _ (config : Config) (app : App) (w : Facts config app) (load : List Entry) (longest late : ℕ) (costs : Costs) (are : AreRunCosts config app load costs) (h : ℕ)
    (there : h < length config.tasks) (here : comes costs h ≡ true) (told : AreTold costs h) (cuts : ℕ → Bool) (cut : AreCutTasks config app cuts)
    (numbers : (opens : Bool) → ℕ → Numbers) (lasting : (opens : Bool) → ℕ → ℕ) where
  abbrev pub all_starts : List Start
  all_starts = run_starts costs h true

  -- the numbers of starts that are not boot solve their windows
  abbrev pub AreSolved : Type 0
  AreSolved = (opens : Bool) (i : ℕ) → is_boot (start_at all_starts i) ≡ false
      → IsSolution costs (run_window longest late costs h opens (start_at all_starts i)) (numbers opens i) (lasting opens i)

  -- each of them begins in two ways
  abbrev pub ways : ℕ
  ways = length all_starts + length all_starts

  abbrev pub start_of : (opens : Bool) → ℕ → Demand.Start
  start_of opens i = start_by config load longest late costs h opens (start_at all_starts i) (numbers opens i) (lasting opens i)

  abbrev pub begins : ℕ → Demand.Start
  begins i = cond (ltb i (length all_starts)) (start_of true i) (start_of false (i - length all_starts))

  abbrev place : (opens : Bool) → ℕ → ℕ
  place true i = i
  place false i = length all_starts + i

  at_place : (opens : Bool) (i : ℕ) → i < length all_starts → (place opens i < ways) × (begins (place opens i) ≡ start_of opens i)
  at_place true i lt = (omega (arith, lt), ap (λ b. cond b (start_of true i) (start_of false (i - length all_starts))) (lt-ltb i (length all_starts) lt))
  at_place false i lt =
      let same : length all_starts + i - length all_starts ≡ i = omega arith in (
        omega (arith, lt),
        ap (λ b. cond b (start_of true (length all_starts + i)) (start_of false (length all_starts + i - length all_starts)))
            (le-ltb (length all_starts + i) (length all_starts) (omega arith)) ∙ ap (start_of false) same,
      )

  abbrev weights : List BodyWeights
  weights = are.weights

  -- ---- levels

  lower_is : (b : ℕ) → IsLower config h b → is_lower costs h b ≡ true
  lower_is b low =
      let own = (are.tasks.each b low.0).priority in
      let target = (are.tasks.each h there).priority in
      let less = low.1 in
      lt-ltb (task costs b).priority (task costs h).priority (omega (arith, own, target, less))

  over_declared : (b j : ℕ) → IsLower config h b → is_over config h j ≡ true → IsOfLevel config h j
  over_declared b j low over = by (cases_lt j (length config.tasks))
    where
      by : (j < length config.tasks) ⊎ (length config.tasks ≤ j) → IsOfLevel config h j
      by (inl lt) = (lt, over)
      by (inr past) =
          let none : static_priority config j ≡ 0 = ap (λ (d : TaskDecl). d.priority) (get_or_past config.tasks j undeclared_task past) in
          let le = leb-true (static_priority config h) (static_priority config j) over in
          let less = low.1 in
          absurd (omega (arith, none, le, less))

  not_lower : (j : ℕ) → is_over config h j ≡ true → ¬ (IsLower config h j)
  not_lower j over low =
      let le = leb-true (static_priority config h) (static_priority config j) over in
      let less = low.1 in
      omega (arith, le, less)

  apart : (b j : ℕ) → IsLower config h b → is_over config h j ≡ true → (b == j) ≡ false
  apart b j low over = by (b == j) refl
    where
      by : (e : Bool) → (b == j) ≡ e → e ≡ false
      by false is = refl
      by true is = absurd (not_lower j over (subst (IsLower config h) (eqb-true b j is) low))

  other_weights : (b j : ℕ) → IsLower config h b → is_over config h j ≡ true → activation_weights app b j ≡ counted_weights (counts.Activations j) app
  other_weights b j low over = ap (λ e. counted_weights (cond e (counts.Chains j) (counts.Activations j)) app) (apart b j low over)

  -- ---- a start with room

  room_at : (opens boot : Bool) (c : ℕ) (makes signals : ℕ → ℕ) (s : Start) → Has all_starts s → (is_boot s ≡ true → boot ≡ true) → c ≤ front_of opens costs h s
      → ((j : ℕ) → is_over config h j ≡ true → makes j ≤ (begun_by costs h s j).activations) → ((j : ℕ) → is_over config h j ≡ true → signals j ≤ (begun_by costs h s j).settings)
      → SomeHasRoom config h longest ways begins boot c (lead_of opens late) makes signals
  room_at opens boot c makes signals s (i, lt, is) boots front acts sets =
      let at = at_place opens i lt in (
        place opens i,
        at.0,
        subst (λ (v : Demand.Start). v.is_boot ≡ true → boot ≡ true) (sym at.1) (subst (λ v. is_boot v ≡ true → boot ≡ true) (sym is) boots),
        subst (HasRoom config h longest c (lead_of opens late) makes signals) (sym at.1)
            (subst (λ v. HasRoom config h longest c (lead_of opens late) makes signals (start_by config load longest late costs h opens v (numbers opens i) (lasting opens i))) (sym is)
            (record {
              front =
                  let more = joined_sum (joined_of costs h s) (λ k. (due_numbers config load longest late costs h opens s (numbers opens i) (lasting opens i) k).settings * reckoned (task costs k).next) (begun_item longest s + front_of opens costs h s) in
                  omega (arith, front, more);
              lead = omega arith;
              acts = λ j over.
                  let le = acts j over in
                  let more = joined_sum (joined_of costs h s) (λ k. (due_numbers config load longest late costs h opens s (numbers opens i) (lasting opens i) k).settings * reckoned (making costs k j).next_activations) (begun_by costs h s j).activations in
                  omega (arith, le, more);
              sets = λ j over.
                  let le = sets j over in
                  let more = joined_sum (joined_of costs h s) (λ k. (due_numbers config load longest late costs h opens s (numbers opens i) (lasting opens i) k).settings * reckoned (making costs k j).next_settings) (begun_by costs h s j).settings in
                  omega (arith, le, more);
            })),
      )

  boots : SomeHasRoom config h longest ways begins true 0 late (autostarted config) none
  boots = room_at true true 0 (autostarted config) none start.Boot (has_boot costs h) (λ e. refl) (omega arith) (λ j over. by j (cases_lt j (length config.tasks))) (λ j over. omega arith)
    where
      by : (j : ℕ) → (j < length config.tasks) ⊎ (length config.tasks ≤ j) → autostarted config j ≤ cond (task costs j).is_autostarted 1 0
      by j (inl lt) = let same = ap {B = ℕ} (λ b. cond b 1 0) (are.tasks.each j lt).is_autostarted in omega (arith, same)
      by j (inr past) = let zero = ap {B = ℕ} (λ (d : TaskDecl). cond d.autostart 1 0) (get_or_past config.tasks j undeclared_task past) in omega (arith, zero)

  -- ---- items

  abbrev lengths : List (List ℕ)
  lengths = are.are_counts.0

  -- an item that is a call, with its service
  call_few : (at : Position) (call : Call) → operation_at app at ≡ op.Serve call
      → (ending_at weights at ≤ call_path call.service) × (going_at weights at ≤ call_words call.service + served_counts call.service)
  call_few [] call is = cc
  call_few (here ∷ outer) call is = inside (cases_lt here.func (length app.funcs))
    where
      inside : (here.func < length app.funcs) ⊎ (length app.funcs ≤ here.func)
          → (ending_at weights (here ∷ outer) ≤ call_path call.service) × (going_at weights (here ∷ outer) ≤ call_words call.service + served_counts call.service)
      inside (inr past) =
          let none = get_or_past weights here.func no_weights (let same = are.are_counts.2.count in omega (arith, past, same)) in
          let goes = ap (λ (w : BodyWeights). get_or w.going here.item 0) none in
          let ends = ap (λ (w : BodyWeights). get_or w.ending here.item 0) none in
          (omega (arith, ends), omega (arith, goes))
      inside (inl lt) = there_is (cases_lt here.item (length (function app here.func).items))
        where
          body : AreBodyCounts lengths here.func (function app here.func) (get_or weights here.func no_weights)
          body = are.are_counts.2.each here.func lt

          words : here.item < length (function app here.func).items → length_of lengths here.func here.item ≡ call_words call.service
          words in_body =
              let shortest = are.are_counts.1.each here.func lt in
              shortest.are_lengths.each here.item in_body ∙ ap (size app (shortest.long here.item)) is ∙ size_serve app (shortest.long here.item) call ∙ words_of call.service call.mask

          there_is : (here.item < length (function app here.func).items) ⊎ (length (function app here.func).items ≤ here.item)
              → (ending_at weights (here ∷ outer) ≤ call_path call.service) × (going_at weights (here ∷ outer) ≤ call_words call.service + served_counts call.service)
          there_is (inl in_body) =
              let few = words in_body in
              let goes = body.going here.item in_body ∙ ap (λ o. length_of lengths here.func here.item + going_counts o) is in
              let ends = body.ending here.item in_body ∙ ap (λ o. length_of lengths here.func here.item + ending_counts (function app here.func) o) is in
              let path = path_few call.service (chains_itself (function app here.func) (op.Serve call)) in
              (omega (arith, few, ends, path), omega (arith, few, goes))
          there_is (inr past) =
              let goes = get_or_past (get_or weights here.func no_weights).going here.item 0 (let same = body.going_count in omega (arith, past, same)) in
              let ends = get_or_past (get_or weights here.func no_weights).ending here.item 0 (let same = body.ending_count in omega (arith, past, same)) in
              (omega (arith, ends), omega (arith, goes))

  -- ---- a service that may stand in front

  -- a task that may serve
  pub record Serves (t : ℕ) : Type 0 where
    pub declared : t < length config.tasks
    pub may : may_serve costs h t ≡ true

  comes_and : (t : ℕ) (b : Bool) → comes costs t ≡ true → b ≡ true → (comes costs t && b) ≡ true
  comes_and t b come is = ap (λ c. c && b) come ∙ is

  lower_serves : (t : ℕ) → IsLower config h t → comes costs t ≡ true → Serves t
  lower_serves t low come = record {
    declared = low.0;
    may = comes_and t (is_lower costs h t || ((t == h) && (task costs h).is_entered_once)) come (ap (λ b. b || ((t == h) && (task costs h).is_entered_once)) (lower_is t low));
  }

  own_serves : (task costs h).is_entered_once ≡ true → Serves h
  own_serves once = record {
    declared = there;
    may = comes_and h (is_lower costs h h || ((h == h) && (task costs h).is_entered_once)) here (by (is_lower costs h h) (h == h) (task costs h).is_entered_once (eq-eqb h h refl) once);
  }
    where
      by : (a b c : Bool) → b ≡ true → c ≡ true → (a || (b && c)) ≡ true
      by true b c e f = refl
      by false true c e f = f
      by false false c e f = cc

  module _ (t : ℕ) (serving : Serves t) (at : Position) (reach : Reaches app t at) (call : Call) (is : operation_at app at ≡ op.Serve call) where
    -- in the start that makes nothing its front is enough
    front_free : ending_at weights at ≤ services_front costs h 0 costs.tasks
    front_free =
        let ends = (call_few at call is).0 in
        let reached = (are.tasks.each t serving.declared).service.none_above call.service (at, reach, ap (calls call.service) is ∙ itself call.service) in
        let front = service_here costs h t (counted_task config app w load costs are h there t serving.declared) serving.may in
        omega (arith, ends, reached, front)

    acts_few : (j : ℕ)
        → ending_at (activation_weights app t j) at ≤ one_if ((is_service call.service service.ActivateTask && (call.object == j)) || (is_service call.service service.ChainTask && (call.object == j)))
    acts_few j =
        let ends = counted_ending (cond (t == j) (counts.Chains j) (counts.Activations j)) app at ∙ ap (λ o. one_if (is_ending_counted (cond (t == j) (counts.Chains j) (counts.Activations j)) o)) is in
        let few = by (t == j) in
        omega (arith, ends, few)
      where
        more : (a b : Bool) → one_if b ≤ one_if (a || b)
        more true true = omega arith
        more true false = omega arith
        more false b = omega arith

        by : (b : Bool) → one_if (is_ending_counted (cond b (counts.Chains j) (counts.Activations j)) (op.Serve call))
            ≤ one_if ((is_service call.service service.ActivateTask && (call.object == j)) || (is_service call.service service.ChainTask && (call.object == j)))
        by true = more (is_service call.service service.ActivateTask && (call.object == j)) (is_service call.service service.ChainTask && (call.object == j))
        by false = omega arith

    sets_is : (j : ℕ) → ending_at (setting_weights app j) at ≡ one_if (is_service call.service service.SetEvent && (call.object == j))
    sets_is j = counted_ending (counts.Settings j) app at ∙ ap (λ o. one_if (is_ending_counted (counts.Settings j) o)) is

    abbrev Room : Type 0
    Room = HaveServiceRoom config h longest late ways begins (ending_at weights at) (λ j. ending_at (activation_weights app t j) at) (λ j. ending_at (setting_weights app j) at)

    -- with the first event, or behind admissions
    rooms : (s : Start) → Has all_starts s → (is_boot s ≡ true → false ≡ true) → ending_at weights at ≤ front_of false costs h s
        → ((j : ℕ) → is_over config h j ≡ true → ending_at (activation_weights app t j) at ≤ (begun_by costs h s j).activations)
        → ((j : ℕ) → is_over config h j ≡ true → ending_at (setting_weights app j) at ≤ (begun_by costs h s j).settings) → Room
    rooms s has boots front acts sets = (
      room_at true false 0 (λ j. ending_at (activation_weights app t j) at) (λ j. ending_at (setting_weights app j) at) s has boots (omega arith) acts sets,
      room_at false false (ending_at weights at) (λ j. ending_at (activation_weights app t j) at) (λ j. ending_at (setting_weights app j) at) s has boots front acts sets,
    )

    -- it makes none of the level
    frees : ((j : ℕ) → is_over config h j ≡ true → one_if ((is_service call.service service.ActivateTask && (call.object == j)) || (is_service call.service service.ChainTask && (call.object == j))) ≤ 0)
        → ((j : ℕ) → is_over config h j ≡ true → one_if (is_service call.service service.SetEvent && (call.object == j)) ≤ 0) → Room
    frees acts sets =
        rooms start.Free (has_free costs h) (λ e. cc) (let le = front_free in omega (arith, le))
        (λ j over. let few = acts j over in let same = acts_few j in omega (arith, few, same))
        (λ j over. let few = sets j over in let same = sets_is j in omega (arith, few, same))

    not_of_level : (b : Bool) (j : ℕ) → (is_over config h call.object ≡ false) → is_over config h j ≡ true → one_if (b && (call.object == j)) ≤ 0
    not_of_level b j other over = by (call.object == j) refl b
      where
        by : (e : Bool) → (call.object == j) ≡ e → (b : Bool) → one_if (b && e) ≤ 0
        by false same true = omega arith
        by false same false = omega arith
        by true same b = absurd (true≢false (sym (subst (λ v. is_over config h v ≡ true) (sym (eqb-true call.object j same)) over) ∙ other))

    of_level : call.object < length config.tasks → IsOfLevel config h call.object ⊎ (is_over config h call.object ≡ false)
    of_level lt = by (is_over config h call.object) refl
      where
        by : (b : Bool) → is_over config h call.object ≡ b → IsOfLevel config h call.object ⊎ (is_over config h call.object ≡ false)
        by true e = inl (lt, e)
        by false e = inr e

    task_object : (s : Service) → call.service ≡ s → object_kind s ≡ object.Task → call.object < length config.tasks
    task_object s same kind =
        subst (λ k. IsObject config k call.object) (ap object_kind same ∙ kind) (object_is config app w t serving.declared at call reach is)

    -- it activates or chains a task
    activates : (b : Bool) → call.service ≡ cond b service.ChainTask service.ActivateTask → IsOfLevel config h call.object ⊎ (is_over config h call.object ≡ false) → Room
    activates b same (inr other) =
        frees (λ j over. both (call.object == j) (not_of_level true j other over))
        (λ j over. not_of_level (is_service call.service service.SetEvent) j other over)
      where
        both : (e : Bool) → one_if (true && e) ≤ 0 → one_if ((is_service call.service service.ActivateTask && e) || (is_service call.service service.ChainTask && e)) ≤ 0
        both e le = let few = one_of_two (is_service call.service service.ActivateTask) (is_service call.service service.ChainTask) e in let one = shown e in omega (arith, few, one, le)
          where
            shown : (e : Bool) → cond e 1 0 ≤ one_if (true && e)
            shown true = omega arith
            shown false = omega arith
    activates b same (inl of) =
        rooms (start.Activation call.object)
        (has_activation costs h call.object (counted_task config app w load costs are h there call.object of.0) upper (let le = front in omega (arith, le)))
        (λ e. cc) (let ends = (call_few at call is).0 in let path = ap call_path same in let front_is = reached_front b same in omega (arith, ends, path, front_is))
        (λ j over. let few = one_of_two (is_service call.service service.ActivateTask) (is_service call.service service.ChainTask) (call.object == j) in let acts = acts_few j in omega (arith, few, acts))
        (λ j over. let none = no_set b same (call.object == j) in let sets = sets_is j in omega (arith, none, sets))
      where
        upper : is_lower costs h call.object ≡ false
        upper = level_upper config app w load costs are h there call.object of

        named : (s : Service) → call.service ≡ s → calls_for call.object s (operation_at app at) ≡ true
        named s e = ap (calls_for call.object s) is ∙ ap (λ v. is_service v s && (call.object == call.object)) e
            ∙ ap (λ b. b && (call.object == call.object)) (itself s) ∙ eq-eqb call.object call.object refl

        count : t < length (services_of costs call.object)
        count = let same = (are.services.each call.object of.0).count in let lt = serving.declared in omega (arith, same, lt)

        chained : call.service ≡ service.ChainTask → call_path service.ChainTask ≤ activation_front costs h call.object
        chained e =
            chain_least (is_made_in_front way.Chain costs h 0 (services_of costs call.object)) (is_made_in_front way.Activation costs h 0 (services_of costs call.object))
            (made_here way.Chain costs h t (services_of costs call.object) count serving.may
            (((are.services.each call.object of.0).each t serving.declared).chains.1 (at, reach, named service.ChainTask e)))

        activated : call.service ≡ service.ActivateTask → call_path service.ActivateTask ≤ activation_front costs h call.object
        activated e =
            activate_least (is_made_in_front way.Chain costs h 0 (services_of costs call.object)) (is_made_in_front way.Activation costs h 0 (services_of costs call.object))
            (made_here way.Activation costs h t (services_of costs call.object) count serving.may
            (((are.services.each call.object of.0).each t serving.declared).activates.1 (at, reach, named service.ActivateTask e)))

        reached_front : (b : Bool) → call.service ≡ cond b service.ChainTask service.ActivateTask → call_path (cond b service.ChainTask service.ActivateTask) ≤ activation_front costs h call.object
        reached_front true e = chained e
        reached_front false e = activated e

        front : 0 < activation_front costs h call.object
        front = by b (reached_front b same)
          where
            by : (b : Bool) → call_path (cond b service.ChainTask service.ActivateTask) ≤ activation_front costs h call.object → 0 < activation_front costs h call.object
            by true le = omega (arith, le)
            by false le = omega (arith, le)

        no_set : (b : Bool) → call.service ≡ cond b service.ChainTask service.ActivateTask → (e : Bool) → one_if (is_service call.service service.SetEvent && e) ≤ 0
        no_set true same e = subst (λ v. one_if (is_service v service.SetEvent && e) ≤ 0) (sym same) (omega arith)
        no_set false same e = subst (λ v. one_if (is_service v service.SetEvent && e) ≤ 0) (sym same) (omega arith)

    -- it sets events of a task
    sets_some : call.service ≡ service.SetEvent → IsOfLevel config h call.object ⊎ (is_over config h call.object ≡ false) → Room
    sets_some same (inr other) =
        frees (λ j over. no_acts same (call.object == j)) (λ j over. not_of_level (is_service call.service service.SetEvent) j other over)
      where
        no_acts : call.service ≡ service.SetEvent → (e : Bool) → one_if ((is_service call.service service.ActivateTask && e) || (is_service call.service service.ChainTask && e)) ≤ 0
        no_acts same e = subst (λ v. one_if ((is_service v service.ActivateTask && e) || (is_service v service.ChainTask && e)) ≤ 0) (sym same) (omega arith)
    sets_some same (inl of) =
        rooms (start.Setting call.object)
        (has_setting costs h call.object (counted_task config app w load costs are h there call.object of.0) upper (let le = front in omega (arith, le)))
        (λ e. cc) (let ends = (call_few at call is).0 in let path = ap call_path same in let le = front in omega (arith, ends, path, le))
        (λ j over. let none = no_acts (call.object == j) in let acts = acts_few j in omega (arith, none, acts))
        (λ j over. let few = one_of_one (is_service call.service service.SetEvent) (call.object == j) in let sets = sets_is j in omega (arith, few, sets))
      where
        upper : is_lower costs h call.object ≡ false
        upper = level_upper config app w load costs are h there call.object of

        named : calls_for call.object service.SetEvent (operation_at app at) ≡ true
        named = ap (calls_for call.object service.SetEvent) is ∙ ap (λ v. is_service v service.SetEvent && (call.object == call.object)) same
            ∙ eq-eqb call.object call.object refl

        count : t < length (services_of costs call.object)
        count = let same = (are.services.each call.object of.0).count in let lt = serving.declared in omega (arith, same, lt)

        front : call_path service.SetEvent ≤ setting_front costs h call.object
        front =
            set_least (is_made_in_front way.Setting costs h 0 (services_of costs call.object))
            (made_here way.Setting costs h t (services_of costs call.object) count serving.may
            (((are.services.each call.object of.0).each t serving.declared).sets_events.1 (at, reach, named)))

        no_acts : (e : Bool) → one_if ((is_service call.service service.ActivateTask && e) || (is_service call.service service.ChainTask && e)) ≤ 0
        no_acts e = subst (λ v. one_if ((is_service v service.ActivateTask && e) || (is_service v service.ChainTask && e)) ≤ 0) (sym same) (omega arith)

    served : Room
    served = by (is_service call.service service.ActivateTask) refl (is_service call.service service.ChainTask) refl (is_service call.service service.SetEvent) refl
      where
        by : (a : Bool) → is_service call.service service.ActivateTask ≡ a → (c : Bool) → is_service call.service service.ChainTask ≡ c
            → (s : Bool) → is_service call.service service.SetEvent ≡ s → Room
        by true e c f s g = let same = same_service call.service service.ActivateTask e in activates false same (of_level (task_object service.ActivateTask same refl))
        by false e true f s g = let same = same_service call.service service.ChainTask f in activates true same (of_level (task_object service.ChainTask same refl))
        by false e false f true g = let same = same_service call.service service.SetEvent g in sets_some same (of_level (task_object service.SetEvent same refl))
        by false e false f false g =
            frees (λ j over. let none = ap (λ a. one_if ((a && (call.object == j)) || (is_service call.service service.ChainTask && (call.object == j)))) e
            ∙ ap (λ c. one_if (c && (call.object == j))) f in omega (arith, none))
            (λ j over. let none = ap (λ s. one_if (s && (call.object == j))) g in omega (arith, none))

  serves : (t : ℕ) → Serves t → (at : Position) → Reaches app t at → is_call (operation_at app at) ≡ true
      → HaveServiceRoom config h longest late ways begins (ending_at weights at) (λ j. ending_at (activation_weights app t j) at) (λ j. ending_at (setting_weights app j) at)
  serves t serving at reach = by (operation_at app at) refl
    where
      by : (o : Op) → operation_at app at ≡ o → is_call o ≡ true
          → HaveServiceRoom config h longest late ways begins (ending_at weights at) (λ j. ending_at (activation_weights app t j) at) (λ j. ending_at (setting_weights app j) at)
      by (op.Serve call) is e = served t serving at reach call is
      by op.Return is e = absurd (false≢true e)
      by o is e = absurd (false≢true e)

  -- ---- sections

  module _ (solved : AreSolved) (b : ℕ) (low : IsLower config h b) (come : comes costs b ≡ true) where
    below_is : is_below costs h b ≡ true
    below_is = ap (λ l. l && comes costs b) (lower_is b low) ∙ come

    takes_few : (at : Position) → Reaches app b at → calls service.GetResource (operation_at app at) ≡ true
        → (going_at weights at ≤ call_path service.GetResource) × (going_at weights at ≤ services_front costs h 0 costs.tasks)
    takes_few at reach takes = by (operation_at app at) refl takes
      where
        by : (o : Op) → operation_at app at ≡ o → calls service.GetResource o ≡ true
            → (going_at weights at ≤ call_path service.GetResource) × (going_at weights at ≤ services_front costs h 0 costs.tasks)
        by (op.Serve call) is e =
            let few = (call_few at call is).1 in
            let ten : call_words call.service + served_counts call.service ≤ call_path service.GetResource =
            subst (λ s. call_words s + served_counts s ≤ call_path service.GetResource) (sym (same_service call.service service.GetResource e)) (omega arith) in
            let lighter = counts_lighter app weights are.are_counts at in
            let front = front_free b (lower_serves b low come) at reach call is in
            (omega (arith, few, ten), omega (arith, lighter, front))
        by op.Return is e = absurd (false≢true e)
        by o is e = absurd (false≢true e)

    costs_of : IsSectionCosts config app weights h b (section costs h b)
    costs_of = ((are.levels.each h there).sections.each b low.0).0 low

    makings_of_section : (j : ℕ) → IsOfLevel config h j → AreRunSectionMakings config app h j b (section_making costs h b j)
    makings_of_section j over = (((are.levels.each h there).makings.each j over.0).each b low.0).0 low (not_lower j over.1)

    own : AreRunTaskCosts config app load weights b (task costs b)
    own = are.tasks.each b low.0

    -- where the load bounds sections, each lies in one round
    waits_nowhere : (n : ℕ) → (task costs b).section_work ≡ Some n → WaitsNowhere config app h b (cuts b)
    waits_nowhere n is at reach raised waits cuts_it =
        let unraised = waits_unraised config app w b low.0 preemptable at reach waits in
        let less = low.1 in
        omega (arith, raised, unraised, less)
      where
        clean : own.clean ≡ true
        clean = own.clears.1 ((cut b low.0).0 cuts_it).0

        reaches : own.waits ≡ true
        reaches = own.is_waiting.1 (at, reach, wait_calls (operation_at app at) waits)
          where
            wait_calls : (o : Op) → is_wait o ≡ true → calls service.WaitEvent o ≡ true
            wait_calls (op.Serve call) e = e
            wait_calls op.Return e = absurd (false≢true e)
            wait_calls o e = absurd (false≢true e)

        preemptable : (declaration config b).non ≡ false
        preemptable = by (declaration config b).non own.clean own.waits clean reaches (sym own.section_work ∙ is)
          where
            by : (non c v : Bool) → c ≡ true → v ≡ true → (cond (non && (c && v)) None (work load b)) ≡ Some n → non ≡ false
            by false c v e f g = refl
            by true true true e f g = cc
            by true true false e f g = cc
            by true false v e f g = cc

    -- the counts of a section that are told
    abbrev Take : ℕ → Type 0
    Take n = SectionsTake config app weights load cuts h b n

    by_work : (n : ℕ) → (task costs b).section_work ≡ Some n → Take n
    by_work n is = inr ((n, said (declaration config b).non own.clean own.waits (sym own.section_work ∙ is), omega arith), waits_nowhere n is)
      where
        said : (non c v : Bool) → (cond (non && (c && v)) None (work load b)) ≡ Some n → work load b ≡ Some n
        said true true true e = cc
        said true true false e = e
        said true false v e = e
        said false c v e = e

    by_sum : (n m : ℕ) → n ≤ m → IsToldSum (IsSection config app h b) weights (sum.Counts n) → Take m
    by_sum n m le are_told = inl (λ positions part. let few = are_told.0.none_above positions part in omega (arith, few, le))

    -- where no raised position does what counts, sections do not
    none_made : (c : Counted) (n : ℕ) → ¬ (DoesRaised config app h b c) → SectionsSum config app h b (counted_weights c app) n
    none_made c n none positions is = let le = light is.before positions is.of_walk is.raised in omega (arith, le)
      where
        nothing_at : (before further : List Position) (at : Position) → IsWalk app b (before ++ at ∷ further) → static_priority config h ≤ priority_at config app b at
            → ending_at (counted_weights c app) at ≤ 0
        nothing_at before further at walk raised = by (is_ending_counted c (operation_at app at)) refl
          where
            same : ending_at (counted_weights c app) at ≡ one_if (is_ending_counted c (operation_at app at))
            same = counted_ending c app at

            by : (d : Bool) → is_ending_counted c (operation_at app at) ≡ d → ending_at (counted_weights c app) at ≤ 0
            by true does = absurd (none (at, ((before, walk_front app b before further at walk), raised), does))
            by false off = let e = same in let zero = ap one_if off in omega (arith, e, zero)

        light : (before positions : List Position) → IsWalk app b (before ++ positions)
            → AllByRecursion (λ at. static_priority config h ≤ priority_at config app b at) positions
            → sum_of (counted_weights c app) positions ≤ 0
        light before [] walk raised = omega arith
        light before (at ∷ []) walk raised = nothing_at before [] at walk raised.0
        light before (at ∷ next ∷ further) walk raised =
            let here = nothing_at before (next ∷ further) at walk raised.0 in
            let le = counted_lighter c app at in
            let rest = light (before ++ at ∷ []) (next ∷ further) (subst (IsWalk app b) (sym (append_assoc before (at ∷ []) (next ∷ further))) walk) raised.1 in
            omega (arith, here, le, rest)

    -- by walks
    made_few : (c : Counted) (o : Option ℕ) → IsSectionMade config app h b false c o → IsTold o
        → SectionsSum config app h b (counted_weights c app) (reckoned o)
    made_few c o (sums, is_told, is) number =
        many_told (SectionsSum config app h b (counted_weights c app))
        (λ n m le none positions part. let few = none positions part in omega (arith, few, le)) sums o is number
        (λ n same. (subst (IsToldSum (IsSection config app h b) (counted_weights c app)) same is_told).0.none_above)

    abbrev MadeWithin : (j n : ℕ) → Type 0
    MadeWithin j n = SectionsSum config app h b (activation_weights app b j) n ⊎ (IsShutOut config h b j × (1 ≤ n))

    -- once, where no raised position activates the task none
    made_once : (j : ℕ) (o : Option ℕ) → is_over config h j ≡ true → IsShutOut config h b j → IsSectionMade config app h b true (counts.Activations j) o → MadeWithin j (reckoned o)
    made_once j o over out (does, decides, is) = by does refl
      where
        by : (d : Bool) → does ≡ d → MadeWithin j (reckoned o)
        by true on =
            let same = ap reckoned is in
            let one = ap one_if on in
            inr (out, omega (arith, same, one))
        by false off =
            subst (λ w. SectionsSum config app h b w (reckoned o) ⊎ (IsShutOut config h b j × (1 ≤ reckoned o))) (sym (other_weights b j low over))
            (inl (none_made (counts.Activations j) (reckoned o) (not_from_Decides does decides off)))

    abbrev Fits : (raised : Bool) → Start → ℕ → Type 0
    Fits raised s i = HasSections config app longest weights load cuts h b raised (start_by config load longest late costs h raised s (numbers raised i) (lasting raised i))

    abbrev Fitting : (raised : Bool) → Type 0
    Fitting raised = (i : ℕ) × (i < ways) × ((begins i).is_boot ≡ false) × (cond raised late 0 ≤ (begins i).lead) × HasSections config app longest weights load cuts h b raised (begins i)

    lead_enough : (raised : Bool) → cond raised late 0 ≤ lead_of raised late
    lead_enough true = omega arith
    lead_enough false = omega arith

    -- a start that fits is one of them
    fitting : (raised : Bool) (s : Start) → Has all_starts s → is_boot s ≡ false → ((i : ℕ) → start_at all_starts i ≡ s → Fits raised s i) → Fitting raised
    fitting raised s (i, lt, is) no_boot fits =
        let at = at_place raised i lt in (
          place raised i,
          at.0,
          ap (λ (v : Demand.Start). v.is_boot) at.1 ∙ ap is_boot is ∙ no_boot,
          subst (λ (v : Demand.Start). cond raised late 0 ≤ v.lead) (sym at.1) (lead_enough raised),
          subst (HasSections config app longest weights load cuts h b raised) (sym at.1) (subst (λ v. Fits raised v i) (sym is) (fits i is)),
        )

    -- what raises the task
    raises_preemptable : (declaration config b).non ≡ false → call_path service.GetResource ≤ (task costs b).raising
    raises_preemptable preemptable =
        let same = (are.tasks.each b low.0).raising in
        let takes = ap {B = ℕ} (λ x. cond x 0 (call_path service.GetResource)) preemptable in
        omega (arith, same, takes)

    -- ---- one whose sections count

    module _ (alone : joins costs h b ≡ false) where
      apart_is : is_apart costs h b ≡ true
      apart_is = ap (λ v. v && not (joins costs h b)) below_is ∙ ap not alone

      sum_told : (s : Sum) → IsToldSum (IsSection config app h b) weights s → (section costs h b).counts ≡ many s
          → (n : ℕ) × (reckoned (section_counts costs h b) ≡ n) × Take n
      sum_told s are_told is = by (task costs b).section_work refl s are_told is
        where
          told_it : IsTold (section_counts costs h b)
          told_it = told.sections b (counted_task config app w load costs are h there b low.0) apart_is

          -- they are the lesser of both
          same : (o : Option ℕ) → (task costs b).section_work ≡ o → (m : Option ℕ) → (section costs h b).counts ≡ m → section_counts costs h b ≡ lesser o m
          same o at m counts = ap (λ v. lesser v (section costs h b).counts) at ∙ ap (lesser o) counts

          by : (o : Option ℕ) → (task costs b).section_work ≡ o → (s : Sum) → IsToldSum (IsSection config app h b) weights s → (section costs h b).counts ≡ many s
              → (n : ℕ) × (reckoned (section_counts costs h b) ≡ n) × Take n
          by None at (sum.Counts n) are_told is = (n, told_number n (section_counts costs h b) (same None at (Some n) is) told_it, by_sum n n (omega arith) are_told)
          by None at sum.Huge are_told is = absurd (none_told (section_counts costs h b) (same None at None is) told_it)
          by None at sum.Endless are_told is = absurd (none_told (section_counts costs h b) (same None at None is) told_it)
          by (Some own) at (sum.Counts n) are_told is =
              (min own n, told_number (min own n) (section_counts costs h b) (same (Some own) at (Some n) is) told_it, which (cases_lt own n))
            where
              which : (own < n) ⊎ (n ≤ own) → Take (min own n)
              which (inl lt) = let e : own ≡ min own n = omega (arith, lt) in subst Take e (by_work own at)
              which (inr le) = by_sum n (min own n) (omega (arith, le)) are_told
          by (Some own) at sum.Huge are_told is = (own, told_number own (section_counts costs h b) (same (Some own) at None is) told_it, by_work own at)
          by (Some own) at sum.Endless are_told is = (own, told_number own (section_counts costs h b) (same (Some own) at None is) told_it, by_work own at)

      section_acts : (j : ℕ) → is_over config h j ≡ true → MadeWithin j (begun_by costs h (start.Section b) j).activations
      section_acts j over = by (declaration config b).non refl (h == j) refl (makings_of_section j of).activations
        where
          of : IsOfLevel config h j
          of = over_declared b j low over

          made : Option ℕ
          made = (section_making costs h b j).activations

          is_number : IsTold made
          is_number =
              (told.section_makings j (counted_task config app w load costs are h there j of.0) b (counted_task config app w load costs are h there b low.0)
              (level_upper config app w load costs are h there j of) apart_is).activations

          by : (non : Bool) → (declaration config b).non ≡ non → (itself : Bool) → (h == j) ≡ itself → IsSectionMade config app h b (non || itself) (counts.Activations j) made
              → MadeWithin j (reckoned made)
          by true is itself e once = made_once j made over (inr is) once
          by false is true e once = made_once j made over (inl (sym (eqb-true h j e))) once
          by false is false e walks =
              subst (λ w. SectionsSum config app h b w (reckoned made) ⊎ (IsShutOut config h b j × (1 ≤ reckoned made))) (sym (other_weights b j low over))
              (inl (made_few (counts.Activations j) made walks is_number))

      section_sets : (j : ℕ) → is_over config h j ≡ true → SectionsSum config app h b (setting_weights app j) (begun_by costs h (start.Section b) j).settings
      section_sets j over =
          let of = over_declared b j low over in
          made_few (counts.Settings j) (section_making costs h b j).settings (makings_of_section j of).settings
          (told.section_makings j (counted_task config app w load costs are h there j of.0) b (counted_task config app w load costs are h there b low.0) (level_upper config app w load costs are h there j of) apart_is).settings

      there_is : (section costs h b).exists ≡ true → (raised : Bool) → Fitting raised
      there_is exists raised =
          fitting raised (start.Section b) (has_section costs h b (counted_task config app w load costs are h there b low.0) apart_is exists) refl (λ i is. fits raised i)
        where
          known : (n : ℕ) × (reckoned (section_counts costs h b) ≡ n) × Take n
          known = sum_told costs_of.told costs_of.is_told costs_of.counts

          fits : (raised : Bool) (i : ℕ) → Fits raised (start.Section b) i
          fits true i = record {
            counts = known.0;
            raising = 0;
            sum = inl known.2;
            takes = λ not_yet. absurd (true≢false not_yet);
            front = let same = known.1 in omega (arith, same);
            acts = λ j over. inl (section_acts j over);
            sets = λ j over. inl (section_sets j over);
          }
          fits false i = record {
            counts = known.0;
            raising = (task costs b).raising;
            sum = inl known.2;
            takes = λ _ preemptable at reach takes. let few = (takes_few at reach takes).0 in let some = raises_preemptable preemptable in omega (arith, few, some);
            front = let same = known.1 in omega (arith, same);
            acts = λ j over. inl (section_acts j over);
            sets = λ j over. inl (section_sets j over);
          }

      there_is_none : (section costs h b).exists ≡ false → (raised : Bool) → Fitting raised
      there_is_none exists raised = fitting raised start.Free (has_free costs h) refl (λ i is. fits raised i)
        where
          not_raised : ¬ (IsRaised config app h b)
          not_raised = not_from_Decides (section costs h b).exists costs_of.exists exists

          fits : (raised : Bool) (i : ℕ) → Fits raised start.Free i
          fits true i = record {
            counts = 0;
            raising = 0;
            sum = inl (inl (no_section_sums config app h b weights 0 not_raised));
            takes = λ not_yet. absurd (true≢false not_yet);
            front = omega arith;
            acts = λ j over. inl (inl (no_section_sums config app h b (activation_weights app b j) 0 not_raised));
            sets = λ j over. inl (no_section_sums config app h b (setting_weights app j) 0 not_raised);
          }
          fits false i = record {
            counts = 0;
            raising = services_front costs h 0 costs.tasks;
            sum = inl (inl (no_section_sums config app h b weights 0 not_raised));
            takes = λ _ preemptable at reach takes. (takes_few at reach takes).1;
            front = omega arith;
            acts = λ j over. inl (inl (no_section_sums config app h b (activation_weights app b j) 0 not_raised));
            sets = λ j over. inl (no_section_sums config app h b (setting_weights app j) 0 not_raised);
          }

      sections_apart : (raised : Bool) → Fitting raised
      sections_apart raised = by (section costs h b).exists refl
        where
          by : (x : Bool) → (section costs h b).exists ≡ x → Fitting raised
          by true e = there_is e raised
          by false e = there_is_none e raised

    -- ---- one whose rounds join

    module _ (joins_it : is_joined costs h b ≡ true) where
      abbrev round : Start
      round = start.Round b

      abbrev due_with : (raised : Bool) → ℕ → Numbers
      due_with raised i = due_numbers config load longest late costs h raised round (numbers raised i) (lasting raised i)

      abbrev with_round : (raised : Bool) → ℕ → Demand.Start
      with_round raised i = start_with config load longest late costs h (Some b) raised round (due_with raised i) (lasting raised i)

      joined_is : joined_of costs h round ≡ Some b
      joined_is = ap (λ v. cond v (Some b) None) joins_it

      enough_settings : (raised : Bool) (i : ℕ) → start_at all_starts i ≡ round → own_sets costs (due_with raised i) b + 1 ≤ (due_with raised i b).settings
      enough_settings raised i is =
          let solution = subst (λ v. IsSolution costs (run_window longest late costs h raised v) (numbers raised i) (lasting raised i)) is (solved raised i (ap is_boot is)) in
          let all = settings_enough config app w load longest late costs are h there told cuts cut here raised round (numbers raised i) (lasting raised i) solution b joined_is in
          omega (arith, all)

      joins_so : (raised : Bool) (i : ℕ) → start_at all_starts i ≡ round → Joins app cuts b (with_round raised i)
      joins_so raised i is = record {
        joins = refl;
        cut = joined_cut config app w load costs are h there b joins_it told cuts cut;
        own_sets = own_sets costs (due_with raised i) b;
        sets = rounds_set_own config app w load costs are h there b joins_it told cuts cut (due_with raised i b).settings;
        number = let enough = enough_settings raised i is in omega (arith, enough);
      }

      has_rounds : (raised : Bool) (i : ℕ) → start_at all_starts i ≡ round → HasSections config app longest weights load cuts h b raised (with_round raised i)
      has_rounds raised i is = record {
        counts = longest_round costs b + (due_with raised i b).settings * reckoned (task costs b).next;
        raising = 0;
        sum = inr (joins_so raised i is, rounds_count config app w load costs are h there b joins_it told cuts cut (due_with raised i b).settings);
        takes = λ _ preemptable. absurd (true≢false (sym (joined_non config app w load costs are h there b joins_it) ∙ preemptable));
        front = front raised;
        acts = λ j over. by j (rounds_activate config app w load costs are h there b joins_it told cuts cut j (due_with raised i b).settings (over_declared b j low over));
        sets = λ j over. inr (joins_so raised i is, rounds_set config app w load costs are h there b joins_it told cuts cut j (due_with raised i b).settings (over_declared b j low over));
      }
        where
          front : (opens : Bool) → 0 + (longest_round costs b + (due_with raised i b).settings * reckoned (task costs b).next) + longest
              ≤ (due_with raised i b).settings * reckoned (task costs b).next + (longest + front_of opens costs h round)
          front true = omega arith
          front false = omega arith

          by : (j : ℕ) → let made : ℕ = (due_with raised i b).settings * reckoned (making costs b j).next_activations + greater (making costs b j).first_activations (making costs b j).next_activations in
              RoundsSum app b (activation_weights app b j) (due_with raised i b).settings made ⊎ (1 ≤ greater (making costs b j).first_activations (making costs b j).next_activations)
              → (SectionsSum config app h b (activation_weights app b j) made ⊎ (IsShutOut config h b j × (1 ≤ made)))
              ⊎ (Joins app cuts b (with_round raised i) × RoundsSum app b (activation_weights app b j) (due_with raised i b).settings made)
          by j (inl sums) = inr (joins_so raised i is, sums)
          by j (inr some) = inl (inr (inr (joined_non config app w load costs are h there b joins_it), omega (arith, some)))

      rounds_join : (raised : Bool) → Fitting raised
      rounds_join raised =
          fitting raised round (has_round costs h b (counted_task config app w load costs are h there b low.0) joins_it) refl
          (λ i is. subst (λ o. HasSections config app longest weights load cuts h b raised (start_with config load longest late costs h o raised round (due_with raised i) (lasting raised i)))
          (sym joined_is) (has_rounds raised i is))

    sections : (raised : Bool) → Fitting raised
    sections raised = by (joins costs h b) refl
      where
        by : (v : Bool) → joins costs h b ≡ v → Fitting raised
        by true e = rounds_join (ap (λ v. v && joins costs h b) below_is ∙ e) raised
        by false e = sections_apart e raised

  some_start : (i : ℕ) × (i < ways) × ((begins i).is_boot ≡ false) × (longest ≤ (begins i).inflow.front) × (late ≤ (begins i).lead)
  some_start =
      let at = at_place true 0 (omega arith) in (
        0,
        at.0,
        ap (λ (v : Demand.Start). v.is_boot) at.1,
        subst (λ (v : Demand.Start). longest ≤ v.inflow.front) (sym at.1) (omega arith),
        subst (λ (v : Demand.Start). late ≤ v.lead) (sym at.1) (omega arith),
      )

  pub fits_starts : AreSolved → FitsStarts config app longest late weights load cuts (comes costs) h (task costs h).is_entered_once ways begins
  fits_starts solved = record {
    some = some_start;
    boots = boots;
    serves = λ t low come. serves t (lower_serves t low come);
    sections = sections solved;
    leaves = λ once. serves h (own_serves once);
  }
