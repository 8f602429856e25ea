-- Each event of a run of the abstract scheduler has a line, if its result or status is below 2^32.
use Rattle.std.proofs.Common.{◌∙◌, ℕ, ◌<◌, ◌≤◌, ◌⊎◌, inl, inr, List, [], ◌∷◌, ◌++◌, length, refl, ap, subst, arith, Option, Some, None}
use Rattle.std.specs.Prelude.{All, IfSome}
use Rattle.std.specs.List.{AllByRecursion}
use Rattle.std.proofs.lemmas.List.Sums.{get_or-le-sum_by, sum-map}
use Rattle.std.proofs.Math.ListN.{get_or-eq_default}
use Rattle.std.proofs.lemmas.Bool.{cases_lt}
use Rattle.std.proofs.lemmas.List.{length-map}
use Rattle.std.proofs.lemmas.List.Elements.{All-cons, All-head, All-tail}
use Rattle.sloth_base.specs.Named.{function, no_function}
use Rattle.sloth_base.specs.declared.app.App.{App}
use Rattle.sloth_base.specs.declared.app.Func.{Func}
use Rattle.sloth_base.specs.declared.config.Config.{Config}
use Rattle.sloth_base.specs.declared.service.Event.{Event}
use Rattle.sloth_base.specs.declared.service.Event.TheVariants as event
use Rattle.sloth_base.specs.declared.service.Stamped.{Stamped}
use Rattle.sloth_base.specs.Events.{named_task}
use Rattle.osek_scheduler.specs.State.{System, opening}
use Rattle.osek_scheduler.specs.Steps.{OsekStep}
use Rattle.osek_scheduler.specs.Runs.{AreStepsBehind}
use Rattle.sim_induction.specs.Sound.{events_of}
use Rattle.trace_text.specs.EventNumbers.{Has32Bits, HasEventNumbers, IsNumberOrNone, IsNameNumber}
use Rattle.trace_text.specs.Texts.{lines_with}
use Rattle.trace_text.specs.declared.events.Form.TheVariants as form
use Rattle.trace_check.specs.TraceText.{HasLine}
use Rattle.sloth_base.specs.DeclaredNames.{task_names, counter_names, function_names}
use Rattle.sloth_commands.specs.CheckedRuns.{SoundRunsAreChecked}
use Rattle.code_rules.specs.AppRange.{AppInRange}
use Rattle.osek_scheduler.specs.InTime.{IsStamped}
use Rattle.sloth_commands.proofs.Registers.{HasValue, HasValueAt, values_fit}
use Rattle.sloth_commands.proofs.TaskDeclared.{task_declared}

module _ (config : Config) (app : App) (in_range : AppInRange config app) where
  task_number : (t : ℕ) → t < length config.tasks → IsNumberOrNone (length (task_names config)) t
  task_number t declared =
      let long = length-map config.tasks (λ d. d.name) in
      let few = in_range.configuration.few_tasks in
      record { word = omega (arith, declared, few); names = inl (omega (arith, declared, long)) }

  numbered : (o : Option ℕ) → IfSome o (λ t. t < length config.tasks) → IfSome o (λ t. IsNumberOrNone (length (task_names config)) t)
  numbered None h = tt
  numbered (Some t) h = task_number t h

  counter_place : (c : ℕ) → c < length config.counters → IsNameNumber (length (counter_names config)) c
  counter_place c declared =
      let long = length-map config.counters (λ d. d.name) in
      let few = in_range.configuration.few_counters in
      record { word = omega (arith, declared, few); inside = omega (arith, declared, long) }

  -- a function with an item is declared
  has_item : (f item : ℕ) → item < length (function app f).items → f < length app.funcs
  has_item f item inside = by (cases_lt f (length app.funcs))
    where
      by : (f < length app.funcs) ⊎ (length app.funcs ≤ f) → f < length app.funcs
      by (inl less) = less
      by (inr past) =
          let none = ap (λ (x : Func). length x.items) (get_or-eq_default app.funcs no_function past) in
          absurd (omega (arith, inside, none))

  func_number : (f item : ℕ) → item < length (function app f).items → IsNameNumber (length (function_names app)) f
  func_number f item inside =
      let declared = has_item f item inside in
      let long = length-map app.funcs (λ d. d.name) in
      let few = in_range.limits.few_bodies in
      record { word = omega (arith, declared, few); inside = omega (arith, declared, long) }

  item_number : (f item : ℕ) → item < length (function app f).items → Has32Bits item
  item_number f item inside =
      let within = get_or-le-sum_by (λ (x : Func). length x.items) app.funcs f no_function (has_item f item inside) in
      let same = sum-map (λ (x : Func). length x.items) app.funcs in
      let few = in_range.limits.few_items in
      omega (arith, inside, within, same, few)

  -- the numbers of an event that is a step
  numbers_of : (e : Event) (s next : System) → OsekStep config app e s next → HasValue e → HasEventNumbers (length (task_names config)) (length (function_names app)) (length (counter_names config)) e
  numbers_of (event.Run t f item result) s next step value =
      let at = step.1.at in
      let P : ℕ → ℕ → Type 0 = λ g i. i < length (function app g).items in
      let inside = subst (λ (i : ℕ). P f i) step.1.at_item (subst (λ (g : ℕ). P g at.frame.item) step.1.in_function at.inside) in
      (task_number t step.1.top.declared, func_number f item inside, item_number f item inside, value)
  numbers_of (event.Call t called status) s next step value = (task_number t step.1.1.top.declared, value)
  numbers_of (event.Due c) s next step value = counter_place c step.1
  numbers_of (event.Tick c) s next step value =
      let at = counter_place c step.1.declared in record { word = at.word; names = inl at.inside }
  numbers_of e s next step value = numbered (named_task e) (task_declared config app e s next step)

  lines_of_run : (n : ℕ) → Has32Bits n → (past events : List Stamped) (s end : System) → AreStepsBehind config app past s events end → All (IsStamped n) events
      → AllByRecursion HasValueAt events → All (HasLine (task_names config) (function_names app) (counter_names config)) events
  lines_of_run n few past [] s end h stamped values = λ k d l. absurd (omega (arith, l))
  lines_of_run n few past (e ∷ events) s end h stamped values =
      let stamp = All-head (IsStamped n) e events stamped in
      let ordered = stamp.ordered in
      let below = stamp.below in
      All-cons (HasLine (task_names config) (function_names app) (counter_names config)) e events
      (record { from = omega (arith, ordered, below, few); at = omega (arith, below, few); numbers = numbers_of e.event s h.0 h.1 values.0; prints = refl })
      (lines_of_run n few (past ++ e ∷ []) events h.0 end h.3 (All-tail (IsStamped n) e events stamped) values.1)

pub runs_are_checked : SoundRunsAreChecked
runs_are_checked config app image in_range sound items bytes arrivals n are few =
    let run = sound.each arrivals n are in
    let events = events_of image arrivals n in
    record {
      events = events;
      shows = record {
        lines = lines_of_run config app in_range n few [] events (opening config app) run.osek.0 run.osek.1 run.in_time.stamped (values_fit image arrivals n bytes);
        is =
            ap (λ (l : List (List ℕ)). lines_with l image.funcs image.counters form.Counted events) items.tasks
            ∙ ap (λ (l : List (List ℕ)). lines_with (task_names config) l image.counters form.Counted events) items.functions
            ∙ ap (λ (l : List (List ℕ)). lines_with (task_names config) (function_names app) l form.Counted events) sound.counters;
      };
      run = run.osek;
      in_time = run.in_time;
    }
