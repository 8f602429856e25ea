-- `check` has one answer to each four files.
use Rattle.std.proofs.Common.{◌≡◌, ◌∙◌, ℕ, List, refl, sym, ap}
use Rattle.sloth_base.specs.declared.refusal.Refusal.{Refusal}
use Rattle.trace_check.specs.declared.rows.Verdict.{Verdict}
use Rattle.trace_check.specs.declared.rows.Verdict.TheVariants as verdict
use Rattle.trace_check.specs.TraceAnswers.{IsJudged}
use Rattle.run_inputs.specs.Inputs.{IsRefusal}
use Rattle.trace_check.proofs.OneAnswer.{one_judged}
use Rattle.run_inputs.proofs.Refused.{not-refused, one-way}
use Rattle.trace_check.specs.CheckAnswers.{IsCheckAnswer, verdict_of}
use Rattle.command_line.specs.declared.answer.ToolAnswer.{ToolAnswer}
use Rattle.command_line.specs.declared.answer.ToolAnswer.TheVariants as answer
use Rattle.command_line.specs.declared.answer.TraceFault.{TraceFault}
use Rattle.command_line.specs.declared.answer.TraceFault.TheVariants as trace
use Rattle.tool_commands.proofs.ElfAnswers.{same-outcome}

no_fault : (f : TraceFault) → verdict.Yes ≡ verdict_of f → ⊥
no_fault (trace.Line k) e = cc
no_fault (trace.Step k) e = cc
no_fault trace.Time e = cc

same_fault : (f g : TraceFault) → verdict_of f ≡ verdict_of g → f ≡ g
same_fault (trace.Line j) (trace.Line k) e = let same : j ≡ k = cc in ap trace.Line same
same_fault (trace.Line j) (trace.Step k) e = absurd cc
same_fault (trace.Line j) trace.Time e = absurd cc
same_fault (trace.Step j) (trace.Line k) e = absurd cc
same_fault (trace.Step j) (trace.Step k) e = let same : j ≡ k = cc in ap trace.Step same
same_fault (trace.Step j) trace.Time e = absurd cc
same_fault trace.Time (trace.Line k) e = absurd cc
same_fault trace.Time (trace.Step k) e = absurd cc
same_fault trace.Time trace.Time e = refl

module _ (oil src arr text : List ℕ) (n : ℕ) where
  abbrev Is : ToolAnswer → Type 0
  Is a = IsCheckAnswer oil src arr text n a

  judged : (v w : Verdict) → IsJudged oil src arr text n v → IsJudged oil src arr text n w → v ≡ w
  judged v w a b = one_judged oil src arr text n v w a b

  not_both : (v : Verdict) (r : Refusal) → IsJudged oil src arr text n v → IsRefusal oil src arr r → ⊥
  not_both v r h refused = not-refused oil src arr h.config h.app r h.accepted h.read.no_fault refused

  pub one_check : (one other : ToolAnswer) → Is one → Is other → one ≡ other
  one_check (answer.Done o) (answer.Done p) a b = ap answer.Done (same-outcome o p (a.1 ∙ sym b.1) (a.2 ∙ sym b.2))
  one_check (answer.Done o) (answer.Refused s) a b = absurd (not_both verdict.Yes s a.0 b)
  one_check (answer.Done o) (answer.BadTrace g) a b = absurd (no_fault g (judged verdict.Yes (verdict_of g) a.0 b))
  one_check (answer.Refused r) (answer.Done p) a b = absurd (not_both verdict.Yes r b.0 a)
  one_check (answer.Refused r) (answer.Refused s) a b = ap answer.Refused (one-way oil src arr r s a b)
  one_check (answer.Refused r) (answer.BadTrace g) a b = absurd (not_both (verdict_of g) r b a)
  one_check (answer.BadTrace f) (answer.Done p) a b = absurd (no_fault f (judged verdict.Yes (verdict_of f) b.0 a))
  one_check (answer.BadTrace f) (answer.Refused s) a b = absurd (not_both (verdict_of f) s a b)
  one_check (answer.BadTrace f) (answer.BadTrace g) a b = ap answer.BadTrace (same_fault f g (judged (verdict_of f) (verdict_of g) a b))
  one_check (answer.Stopped pc stop) other a b = absurd a
  one_check (answer.NotAnImage fault) other a b = absurd a
  one_check (answer.NotAnElf fault) other a b = absurd a
  one_check answer.NoHolds other a b = absurd a
  one_check (answer.Unmet lines) other a b = absurd a
  one_check (answer.Explained kind lines) other a b = absurd a
  one_check answer.NoTask other a b = absurd a
  one_check (answer.Done o) (answer.Stopped pc stop) a b = absurd b
  one_check (answer.Done o) (answer.NotAnImage fault) a b = absurd b
  one_check (answer.Done o) (answer.NotAnElf fault) a b = absurd b
  one_check (answer.Done o) answer.NoHolds a b = absurd b
  one_check (answer.Done o) (answer.Unmet lines) a b = absurd b
  one_check (answer.Done o) (answer.Explained kind lines) a b = absurd b
  one_check (answer.Done o) answer.NoTask a b = absurd b
  one_check (answer.Refused r) (answer.Stopped pc stop) a b = absurd b
  one_check (answer.Refused r) (answer.NotAnImage fault) a b = absurd b
  one_check (answer.Refused r) (answer.NotAnElf fault) a b = absurd b
  one_check (answer.Refused r) answer.NoHolds a b = absurd b
  one_check (answer.Refused r) (answer.Unmet lines) a b = absurd b
  one_check (answer.Refused r) (answer.Explained kind lines) a b = absurd b
  one_check (answer.Refused r) answer.NoTask a b = absurd b
  one_check (answer.BadTrace f) (answer.Stopped pc stop) a b = absurd b
  one_check (answer.BadTrace f) (answer.NotAnImage fault) a b = absurd b
  one_check (answer.BadTrace f) (answer.NotAnElf fault) a b = absurd b
  one_check (answer.BadTrace f) answer.NoHolds a b = absurd b
  one_check (answer.BadTrace f) (answer.Unmet lines) a b = absurd b
  one_check (answer.BadTrace f) (answer.Explained kind lines) a b = absurd b
  one_check (answer.BadTrace f) answer.NoTask a b = absurd b
