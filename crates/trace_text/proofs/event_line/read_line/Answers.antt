use Rattle.std.proofs.Common.{◌∙◌, ◌++◌, List, ℕ, ap, sym}
use Rattle.trace_text.specs.EventWords.{event_text}
use Rattle.trace_text.specs.Lines.{counts_text}
use Rattle.trace_text.specs.declared.events.Form.TheVariants.{Counted}
use Rattle.trace_text.proofs.EventsBack.{unread, misread, reread}
use Rattle.trace_text.proofs.TasksBack.{short_names}
use Rattle.trace_text.proofs.event_line.read_line.Goals as goal

pub push_event-requires-clause-tasks : goal.push_event-requires-clause-tasks
push_event-requires-clause-tasks c = short_names c.args.tasks.now c.requires.tasks

pub push_event-requires-clause-functions : goal.push_event-requires-clause-functions
push_event-requires-clause-functions c = short_names c.args.funcs.now c.requires.funcs

pub push_event-requires-clause-counters : goal.push_event-requires-clause-counters
push_event-requires-clause-counters c = short_names c.args.counters.now c.requires.counters

pub returns-in_default : goal.returns-in_default
returns-in_default c = unread c.args.tasks.now c.args.funcs.now c.args.counters.now c.requires.tasks c.requires.funcs c.requires.counters c.requires.apart c.args.text.now c.in_default.ensures.event

pub returns-then-not-same : goal.returns-then-not-same
returns-then-not-same c =
    let e = c.in-Some.event in
    let shows = c.bytes.ensures ∙ c.push_event.ensures.event
    ∙ ap (λ (l : List ℕ). l ++ event_text c.args.tasks.now c.args.funcs.now c.args.counters.now e.event)
    (c.push_counts.ensures.counts ∙ ap (λ (l : List ℕ). l ++ counts_text Counted e) c.new-line.ensures) in
    misread c.args.tasks.now c.args.funcs.now c.args.counters.now c.requires.tasks c.requires.funcs c.requires.counters c.requires.apart c.args.text.now c.bytes.result.now e c.in-Some.ensures.event
    shows (sym c.same.ensures ∙ c.if-not-same.true)

pub returns : goal.returns
returns c =
    let e = c.in-Some.event in
    let shows = c.bytes.ensures ∙ c.push_event.ensures.event
    ∙ ap (λ (l : List ℕ). l ++ event_text c.args.tasks.now c.args.funcs.now c.args.counters.now e.event)
    (c.push_counts.ensures.counts ∙ ap (λ (l : List ℕ). l ++ counts_text Counted e) c.new-line.ensures) in
    reread c.args.tasks.now c.args.funcs.now c.args.counters.now c.requires.tasks c.requires.funcs c.requires.counters c.requires.apart c.args.text.now c.bytes.result.now e c.in-Some.ensures.event
    shows (sym c.same.ensures ∙ c.if-not-same.false)
    c.in-Some.ensures.from c.in-Some.ensures.at c.in-Some.ensures.numbers
