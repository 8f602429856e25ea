-- Texts have one answer of a tool that prints what they mean.
use Rattle.std.proofs.Common.{◌≡◌, ◌∙◌, ℕ, List, sym, ap}
use Rattle.sloth_base.specs.declared.refusal.Refusal.{Refusal}
use Rattle.sloth_source.specs.Texts.{FirstRefusal}
use Rattle.sloth_source.proofs.Refusals.{one_refusal}
use Rattle.tool_commands.specs.SourceAnswers.{IsSourceAnswer}
use Rattle.command_line.specs.declared.answer.ToolAnswer.{ToolAnswer}
use Rattle.command_line.specs.declared.answer.ToolAnswer.TheVariants as answer
use Rattle.tool_commands.proofs.ElfAnswers.{same-outcome}

-- What is said holds of one list of lines, where the texts are not refused.
pub record IsOneMeaning (oil src : List ℕ) (Says : List ℕ → Type 0) : Type 0 where
  pub one : (text other : List ℕ) → Says text → Says other → text ≡ other
  pub accepted : (text : List ℕ) (refusal : Refusal) → Says text → FirstRefusal oil src refusal → ⊥

module _ (oil src : List ℕ) (Says : List ℕ → Type 0) (text : IsOneMeaning oil src Says) where
  pub one_source : (one other : ToolAnswer) → IsSourceAnswer Says oil src one → IsSourceAnswer Says oil src other → one ≡ other
  one_source (answer.Done o) (answer.Done p) a b = ap answer.Done (same-outcome o p (a.1 ∙ sym b.1) (text.one o.text p.text a.0 b.0))
  one_source (answer.Done o) (answer.Refused r) a b = absurd (text.accepted o.text r a.0 b)
  one_source (answer.Refused r) (answer.Done p) a b = absurd (text.accepted p.text r b.0 a)
  one_source (answer.Refused r) (answer.Refused s) a b = ap answer.Refused (one_refusal oil src r s a b)
  one_source (answer.Done o) (answer.Stopped pc stop) a b = absurd b
  one_source (answer.Done o) (answer.NotAnImage fault) a b = absurd b
  one_source (answer.Done o) (answer.NotAnElf fault) a b = absurd b
  one_source (answer.Done o) (answer.BadTrace fault) a b = absurd b
  one_source (answer.Done o) answer.NoHolds a b = absurd b
  one_source (answer.Done o) (answer.Unmet lines) a b = absurd b
  one_source (answer.Done o) (answer.Explained kind lines) a b = absurd b
  one_source (answer.Done o) answer.NoTask a b = absurd b
  one_source (answer.Refused r) (answer.Stopped pc stop) a b = absurd b
  one_source (answer.Refused r) (answer.NotAnImage fault) a b = absurd b
  one_source (answer.Refused r) (answer.NotAnElf fault) a b = absurd b
  one_source (answer.Refused r) (answer.BadTrace fault) a b = absurd b
  one_source (answer.Refused r) answer.NoHolds a b = absurd b
  one_source (answer.Refused r) (answer.Unmet lines) a b = absurd b
  one_source (answer.Refused r) (answer.Explained kind lines) a b = absurd b
  one_source (answer.Refused r) answer.NoTask a b = absurd b
  one_source (answer.Stopped pc stop) other a b = absurd a
  one_source (answer.NotAnImage fault) other a b = absurd a
  one_source (answer.NotAnElf fault) other a b = absurd a
  one_source (answer.BadTrace fault) other a b = absurd a
  one_source answer.NoHolds other a b = absurd a
  one_source (answer.Unmet lines) other a b = absurd a
  one_source (answer.Explained kind lines) other a b = absurd a
  one_source answer.NoTask other a b = absurd a
