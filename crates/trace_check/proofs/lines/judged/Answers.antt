use Rattle.std.proofs.Common.{List, subst}
use Rattle.sloth_base.specs.declared.service.Arrival.{Arrival}
use Rattle.trace_check.specs.Answer.{IsVerdict}
use Rattle.trace_check.specs.declared.rows.Verdict.{Verdict}
use Rattle.trace_check.proofs.lines.judged.Goals as goal

pub lines_behind-requires-clause-strays : goal.lines_behind-requires-clause-strays
lines_behind-requires-clause-strays c k is =
    let inputs = c.args.inputs.now in
    let P : List Arrival → Verdict → Type 0 = λ l v. IsVerdict inputs.config inputs.app l c.args.trace.now c.args.n v in
    subst (λ (v : Verdict). P c.as_slice-arrivals.result.now v) is c.in_ok-verdict.ensures.verdict

pub lines_behind-requires-clause-late : goal.lines_behind-requires-clause-late
lines_behind-requires-clause-late c is =
    let inputs = c.args.inputs.now in
    let P : List Arrival → Verdict → Type 0 = λ l v. IsVerdict inputs.config inputs.app l c.args.trace.now c.args.n v in
    subst (λ (v : Verdict). P inputs.arrivals.items v) is
    (subst (λ (l : List Arrival). P l c.in_ok-verdict.verdict) c.as_slice-arrivals.ensures.value c.in_ok-verdict.ensures.verdict)

pub returns-then-is_yes : goal.returns-then-is_yes
returns-then-is_yes c oil src arr accepted read =
    let inputs = c.args.inputs.now in
    let P : List Arrival → Verdict → Type 0 = λ l v. IsVerdict inputs.config inputs.app l c.args.trace.now c.args.n v in
    record {
      config = inputs.config;
      app = inputs.app;
      accepted = accepted;
      well_formed = c.requires.well_formed;
      arrivals = inputs.arrivals.items;
      read = read;
      is = subst (P inputs.arrivals.items) (c.is_yes.ensures.yes c.if-is_yes.true)
          (subst (λ (l : List Arrival). P l c.in_ok-verdict.verdict) c.as_slice-arrivals.ensures.value c.in_ok-verdict.ensures.verdict);
    }

pub returns : goal.returns
returns c oil src arr accepted read =
    let inputs = c.args.inputs.now in
    let P : List Arrival → Type 0 = λ l. IsVerdict inputs.config inputs.app l c.args.trace.now c.args.n c.in_ok-verdict.verdict in
    record {
      answer = c.in_ok-verdict.verdict;
      judged = record {
        config = inputs.config;
        app = inputs.app;
        accepted = accepted;
        well_formed = c.requires.well_formed;
        arrivals = inputs.arrivals.items;
        read = read;
        is = subst P c.as_slice-arrivals.ensures.value c.in_ok-verdict.ensures.verdict;
      };
      other = c.is_yes.ensures.other c.if-is_yes.false;
      lines = c.in_ok-lines.lines.items;
      reasons = c.in_ok-lines.ensures;
      is = c.in_ok-text.ensures;
    }
