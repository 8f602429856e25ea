-- Texts have one answer.
use Rattle.std.proofs.Common.{◌≡◌, ◌∙◌, ℕ, List, sym, ap, subst}
use Rattle.sloth_base.specs.declared.app.App.{App}
use Rattle.sloth_base.specs.declared.config.Config.{Config}
use Rattle.sloth_base.specs.declared.service.Arrival.{Arrival}
use Rattle.sloth_source.proofs.Unique.{one_meaning}
use Rattle.trace_text.specs.ArrivalsText.{arrivals_in}
use Rattle.trace_check.specs.Answer.{IsVerdict}
use Rattle.trace_check.specs.declared.rows.Verdict.{Verdict}
use Rattle.trace_check.proofs.Exact.{one_verdict}
use Rattle.sloth_base.specs.DeclaredNames.{task_names, counter_names}
use Rattle.trace_check.specs.TraceAnswers.{IsJudged, IsTraceAnswer}
use Rattle.trace_check.specs.declared.lines.TraceAnswer.{TraceAnswer}
use Rattle.trace_check.specs.declared.lines.TraceAnswer.TheVariants as answer
use Rattle.run_inputs.proofs.Refused.{not-refused, one-way}

module _ (oil src arr trace : List ℕ) (n : ℕ) where
  -- two verdicts on one text are the same
  pub one_judged : (v w : Verdict) → IsJudged oil src arr trace n v → IsJudged oil src arr trace n w → v ≡ w
  one_judged v w a b =
      let same = one_meaning oil src a.config b.config a.app b.app a.accepted b.accepted in
      let P : Config → App → List Arrival → Type 0 = λ config app arrivals. IsVerdict config app arrivals trace n v in
      let arrivals : a.arrivals ≡ b.arrivals = a.read.arrivals_are ∙ (ap (λ (c : Config). arrivals_in (task_names c) (counter_names c) arr) same.0 ∙ sym b.read.arrivals_are) in
      let here = subst (λ (l : List Arrival). P b.config b.app l) arrivals (subst (λ (y : App). P b.config y a.arrivals) same.1 (subst (λ (x : Config). P x a.app a.arrivals) same.0 a.is)) in
      one_verdict b.config b.app b.arrivals trace n b.well_formed.in_range.configuration.task_names b.well_formed.in_range.func_names
      b.well_formed.in_range.configuration.counter_names b.well_formed.in_range.configuration.counters_apart v w here b.is

  pub one_answer : (one other : TraceAnswer) → IsTraceAnswer oil src arr trace n one → IsTraceAnswer oil src arr trace n other → one ≡ other
  one_answer (answer.Refused r) (answer.Refused s) a b = ap answer.Refused (one-way oil src arr r s a b)
  one_answer (answer.Refused r) (answer.Judged w) a b = absurd (not-refused oil src arr b.config b.app r b.accepted b.read.no_fault a)
  one_answer (answer.Judged v) (answer.Refused s) a b = absurd (not-refused oil src arr a.config a.app s a.accepted a.read.no_fault b)
  one_answer (answer.Judged v) (answer.Judged w) a b = ap answer.Judged (one_judged v w a b)
