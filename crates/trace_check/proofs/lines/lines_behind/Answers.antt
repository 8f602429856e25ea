use Rattle.std.proofs.Common.{List, sym, subst}
use Rattle.sloth_base.specs.declared.service.Arrival.{Arrival}
use Rattle.trace_check.specs.Verdicts.{IsLate}
use Rattle.trace_check.proofs.lines.lines_behind.Goals as goal

pub step_lines-requires-clause-strays : goal.step_lines-requires-clause-strays
step_lines-requires-clause-strays c = c.requires.strays c.in-Step.line c.in-Step.is

pub time_lines-requires-clause-late : goal.time_lines-requires-clause-late
time_lines-requires-clause-late c =
    let inputs = c.args.inputs.now in
    subst (λ (l : List Arrival). IsLate inputs.config inputs.app l c.args.trace.now c.args.n) (sym c.as_slice.ensures.value) (c.requires.late c.in-Time.is)
