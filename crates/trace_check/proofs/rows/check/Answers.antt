use Rattle.std.proofs.Common.{◌<◌, List, ℕ, sym, subst}
use Rattle.std.specs.Prelude.{All, IfOk}
use Rattle.std.proofs.lemmas.Result.{IfOk-weaker}
use Rattle.sloth_base.specs.Arrivals.{AreRisingMoments}
use Rattle.sloth_base.specs.declared.service.Arrival.{Arrival}
use Rattle.trace_check.specs.Answer.{IsVerdict}
use Rattle.trace_check.specs.Begun.{IsBegun}
use Rattle.trace_check.proofs.Exact.{if_exact}
use Rattle.trace_check.proofs.Judging.{line_words, readable}
use Rattle.trace_check.proofs.rows.check.Goals as goal

pub judge_lines-requires-clause-names : goal.judge_lines-requires-clause-names
judge_lines-requires-clause-names c = readable c.args.config.now c.args.app.now c.in_ok-names.names c.in_ok-names.ensures c.requires.well_formed

pub judge_lines-requires-clause-rising : goal.judge_lines-requires-clause-rising
judge_lines-requires-clause-rising c = subst (λ (l : List Arrival). AreRisingMoments 1 l) (sym c.new-timing.ensures.arrivals) c.requires.arrivals.ordered

pub judge_lines-requires-clause-lines : goal.judge_lines-requires-clause-lines
judge_lines-requires-clause-lines c =
    subst (λ (l : List Arrival). All (λ a. a.line < 4294967296) l) (sym c.new-timing.ensures.arrivals)
    (line_words c.args.config.now c.args.arrivals.now c.requires.well_formed.in_range.configuration c.requires.arrivals)

pub returns-clause-verdict : goal.returns-clause-verdict
returns-clause-verdict c =
    let config = c.args.config.now in
    let app = c.args.app.now in
    let text = c.args.text.now in
    let timing = c.new-timing.result in
    let begun : IsBegun config app c.in_ok-names.names c.in_ok-walk.walk timing = record {
      named = c.in_ok-names.ensures;
      few_counters = c.requires.well_formed.in_range.configuration.few_counters;
      walked = c.in_ok-walk.ensures;
      timed = c.new-timing.ensures.timed;
      config_is = c.new-timing.ensures.config;
    } in
    let P : List Arrival → ℕ → Type 0 = λ arrivals n. IfOk c.judge_lines.result (λ v. IsVerdict config app arrivals text n v) in
    subst (λ (arrivals : List Arrival). P arrivals c.args.n) c.new-timing.ensures.arrivals
    (subst (λ (n : ℕ). P timing.arrivals n) c.new-timing.ensures.n
    (IfOk-weaker c.judge_lines.result _ _
    (λ v is. is config app begun)
    c.judge_lines.ensures))

pub returns-clause-exact : goal.returns-clause-exact
returns-clause-exact c =
    if_exact c.args.config.now c.args.app.now c.args.arrivals.now c.args.text.now c.args.n c.requires.well_formed.in_range.configuration.task_names c.requires.well_formed.in_range.func_names
    c.requires.well_formed.in_range.configuration.counter_names c.requires.well_formed.in_range.configuration.counters_apart
    c.judge_lines.result (returns-clause-verdict c)
