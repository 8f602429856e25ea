use Rattle.std.proofs.Common.{◌∙◌, ◌≤◌, ◌++◌, List, ℕ, length, sym, ap, subst}
use Rattle.std.proofs.lemmas.List.{length-map}
use Rattle.sloth_base.specs.Limits.{counter_limit, task_limit}
use Rattle.sloth_base.specs.declared.config.Config.{Config}
use Rattle.sloth_base.specs.declared.config.TaskDecl.{TaskDecl}
use Rattle.osek_machine.specs.Steps.{Machine}
use Rattle.trace_check.specs.ReasonLines.{row_lines, state_lines}
use Rattle.trace_check.specs.declared.rows.NextEvent.{NextEvent}
use Rattle.trace_check.proofs.Fronts.{front_at}
use Rattle.trace_check.proofs.Judging.{readable}
use Rattle.trace_check.proofs.lines.step_lines.Goals as goal

pub walk_lines-requires : goal.walk_lines-requires
walk_lines-requires c = readable c.args.config.now c.args.app.now c.in_ok-names.names c.in_ok-names.ensures c.requires.well_formed

pub push_rows-requires : goal.push_rows-requires
push_rows-requires c = readable c.args.config.now c.args.app.now c.in_ok-names.names c.in_ok-names.ensures c.requires.well_formed

pub next_events-requires-clause-tasks : goal.next_events-requires-clause-tasks
next_events-requires-clause-tasks c =
    let front =
    front_at c.args.config.now c.args.app.now c.in_ok-names.names c.args.text.now c.args.line c.walk_lines.new.walk c.requires.strays.strays.positive
    (c.walk_lines.ensures c.args.config.now c.args.app.now c.in_ok-names.ensures c.in_ok-walk.ensures) c.requires.strays in
    subst (λ (x : Config). length x.tasks ≤ task_limit) (sym front.walked.config_is) front.walked.few

pub next_events-requires-clause-counters : goal.next_events-requires-clause-counters
next_events-requires-clause-counters c =
    let front =
    front_at c.args.config.now c.args.app.now c.in_ok-names.names c.args.text.now c.args.line c.walk_lines.new.walk c.requires.strays.strays.positive
    (c.walk_lines.ensures c.args.config.now c.args.app.now c.in_ok-names.ensures c.in_ok-walk.ensures) c.requires.strays in
    subst (λ (x : Config). length x.counters ≤ counter_limit) (sym front.walked.config_is) c.requires.well_formed.in_range.configuration.few_counters

pub push_states-requires-clause-count : goal.push_states-requires-clause-count
push_states-requires-clause-count c =
    let front =
    front_at c.args.config.now c.args.app.now c.in_ok-names.names c.args.text.now c.args.line c.walk_lines.new.walk c.requires.strays.strays.positive
    (c.walk_lines.ensures c.args.config.now c.args.app.now c.in_ok-names.ensures c.in_ok-walk.ensures) c.requires.strays in
    ap (λ (l : List (List ℕ)). length l) (c.items.ensures ∙ c.in_ok-names.ensures.tasks)
    ∙ (length-map c.args.config.now.tasks (λ (t : TaskDecl). t.name)
    ∙ (ap (λ (x : Config). length x.tasks) (sym front.walked.config_is) ∙ sym (ap (λ (m : Machine). length m.config.tasks) c.osek.ensures)))

pub returns : goal.returns
returns c =
    let front =
    front_at c.args.config.now c.args.app.now c.in_ok-names.names c.args.text.now c.args.line c.walk_lines.new.walk c.requires.strays.strays.positive
    (c.walk_lines.ensures c.args.config.now c.args.app.now c.in_ok-names.ensures c.in_ok-walk.ensures) c.requires.strays in
    let names = c.in_ok-names.names in
    let state = c.walk_lines.new.walk.machine.system in
    let long = ap (λ (l : List (List ℕ)). length l) c.in_ok-names.ensures.tasks ∙ length-map c.args.config.now.tasks (λ (t : TaskDecl). t.name) in
    let states =
    c.in_ok-push_states.ensures
    ∙ (ap (λ (l : List ℕ). l ++ state_lines c.items.result.now c.osek.result.now.system (length c.items.result.now)) c.new-lines.ensures.items
    ∙ (ap (λ (l : List (List ℕ)). state_lines l c.osek.result.now.system (length l)) c.items.ensures
    ∙ (ap (λ (m : Machine). state_lines names.tasks m.system (length names.tasks)) c.osek.ensures ∙ ap (λ (n : ℕ). state_lines names.tasks state n) long))) in
    record {
      names = names;
      past = front.past;
      before = front.before;
      state = state;
      leads = front.walked.keeps.leads;
      rows = c.in_ok-rows.rows.items;
      next = c.in_ok-rows.ensures c.args.config.now c.args.app.now front.past front.walked;
      is =
          c.in_ok-push_rows.ensures
          ∙ (ap (λ (l : List ℕ). l ++ row_lines names c.as_slice.result.now) states
          ∙ ap (λ (rows : List NextEvent). state_lines names.tasks state (length c.args.config.now.tasks) ++ row_lines names rows) c.as_slice.ensures.value);
    }
