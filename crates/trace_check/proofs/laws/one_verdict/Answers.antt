use Rattle.trace_check.proofs.Exact.{one_verdict}
use Rattle.trace_check.proofs.laws.one_verdict.Goals as goal

pub returns : goal.returns
returns c config app arrivals text n one other valid a b =
    one_verdict config app arrivals text n valid.in_range.configuration.task_names valid.in_range.func_names
    valid.in_range.configuration.counter_names valid.in_range.configuration.counters_apart one other a b
