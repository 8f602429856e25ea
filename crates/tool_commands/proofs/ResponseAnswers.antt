-- Texts have one answer of `response`, also of one task.
use Rattle.std.proofs.Common.{◌≡◌, ◌∙◌, ℕ, List, Bool, true, false, Option, Some, None, refl, sym, ap}
use Rattle.sloth_base.specs.declared.refusal.Refusal.{Refusal}
use Rattle.response_text.specs.declared.task_text.Told.{Told}
use Rattle.response_text.specs.Inputs.{IsRefusal}
use Rattle.response_text.specs.ResponseText.{IsResponseText}
use Rattle.response_text.specs.TaskText.{IsTaskText}
use Rattle.response_text.proofs.OneText.{one_text}
use Rattle.response_text.proofs.OneTaskText.{one_task_text}
use Rattle.response_text.proofs.Refused.{not_refused, one_way}
use Rattle.run_load.specs.declared.lines.ToldRun.{ToldRun}
use Rattle.run_load.specs.RunText.{IsRunText}
use Rattle.tool_commands.specs.ResponseAnswers.{IsResponseAnswer, IsTaskResponseAnswer, IsRunResponseAnswer, response_answer, run_answer}
use Rattle.command_line.specs.declared.answer.ToolAnswer.{ToolAnswer}
use Rattle.command_line.specs.declared.answer.ToolAnswer.TheVariants as answer
use Rattle.tool_commands.proofs.ElfAnswers.{same-outcome}

module _ (oil src load : List ℕ) where
  abbrev Is : ToolAnswer → Type 0
  Is a = IsResponseAnswer oil src load a

  not_both : (told : Told) (r : Refusal) → IsResponseText oil src load told → IsRefusal oil src load r → ⊥
  not_both told r h refused = not_refused oil src load h.config h.app r h.accepted h.has.is_load.no_fault refused

  same_text : (a b : List ℕ) (late : Bool) → IsResponseText oil src load (record { text = a; is_open = late })
      → IsResponseText oil src load (record { text = b; is_open = late }) → a ≡ b
  same_text a b late h g = ap (λ (t : Told). t.text) (one_text oil src load (record { text = a; is_open = late }) (record { text = b; is_open = late }) h g)

  never_open : (a b : List ℕ) → IsResponseText oil src load (record { text = a; is_open = false })
      → IsResponseText oil src load (record { text = b; is_open = true }) → ⊥
  never_open a b h g =
      let same : false ≡ true = ap (λ (t : Told). t.is_open) (one_text oil src load (record { text = a; is_open = false }) (record { text = b; is_open = true }) h g) in
      cc

  pub one_response_answer : (one other : ToolAnswer) → Is one → Is other → one ≡ other
  one_response_answer (answer.Done o) (answer.Done p) a b = ap answer.Done (same-outcome o p (a.1 ∙ sym b.1) (same_text o.text p.text false a.0 b.0))
  one_response_answer (answer.Done o) (answer.Unmet l) a b = absurd (never_open o.text l a.0 b)
  one_response_answer (answer.Done o) (answer.Refused s) a b = absurd (not_both (record { text = o.text; is_open = false }) s a.0 b)
  one_response_answer (answer.Unmet l) (answer.Done p) a b = absurd (never_open p.text l b.0 a)
  one_response_answer (answer.Unmet l) (answer.Unmet m) a b = ap answer.Unmet (same_text l m true a b)
  one_response_answer (answer.Unmet l) (answer.Refused s) a b = absurd (not_both (record { text = l; is_open = true }) s a b)
  one_response_answer (answer.Refused r) (answer.Done p) a b = absurd (not_both (record { text = p.text; is_open = false }) r b.0 a)
  one_response_answer (answer.Refused r) (answer.Unmet m) a b = absurd (not_both (record { text = m; is_open = true }) r b a)
  one_response_answer (answer.Refused r) (answer.Refused s) a b = ap answer.Refused (one_way oil src load r s a b)
  one_response_answer (answer.Stopped pc stop) other a b = absurd a
  one_response_answer (answer.NotAnImage fault) other a b = absurd a
  one_response_answer (answer.NotAnElf fault) other a b = absurd a
  one_response_answer (answer.BadTrace fault) other a b = absurd a
  one_response_answer answer.NoHolds other a b = absurd a
  one_response_answer (answer.Explained kind lines) other a b = absurd a
  one_response_answer answer.NoTask other a b = absurd a
  one_response_answer (answer.Done o) (answer.Stopped pc stop) a b = absurd b
  one_response_answer (answer.Done o) (answer.NotAnImage fault) a b = absurd b
  one_response_answer (answer.Done o) (answer.NotAnElf fault) a b = absurd b
  one_response_answer (answer.Done o) (answer.BadTrace fault) a b = absurd b
  one_response_answer (answer.Done o) answer.NoHolds a b = absurd b
  one_response_answer (answer.Done o) (answer.Explained kind lines) a b = absurd b
  one_response_answer (answer.Done o) answer.NoTask a b = absurd b
  one_response_answer (answer.Unmet l) (answer.Stopped pc stop) a b = absurd b
  one_response_answer (answer.Unmet l) (answer.NotAnImage fault) a b = absurd b
  one_response_answer (answer.Unmet l) (answer.NotAnElf fault) a b = absurd b
  one_response_answer (answer.Unmet l) (answer.BadTrace fault) a b = absurd b
  one_response_answer (answer.Unmet l) answer.NoHolds a b = absurd b
  one_response_answer (answer.Unmet l) (answer.Explained kind lines) a b = absurd b
  one_response_answer (answer.Unmet l) answer.NoTask a b = absurd b
  one_response_answer (answer.Refused r) (answer.Stopped pc stop) a b = absurd b
  one_response_answer (answer.Refused r) (answer.NotAnImage fault) a b = absurd b
  one_response_answer (answer.Refused r) (answer.NotAnElf fault) a b = absurd b
  one_response_answer (answer.Refused r) (answer.BadTrace fault) a b = absurd b
  one_response_answer (answer.Refused r) answer.NoHolds a b = absurd b
  one_response_answer (answer.Refused r) (answer.Explained kind lines) a b = absurd b
  one_response_answer (answer.Refused r) answer.NoTask a b = absurd b

-- so they have of one task
module _ (oil src load name : List ℕ) where
  abbrev IsOfTask : ToolAnswer → Type 0
  IsOfTask a = IsTaskResponseAnswer oil src load name a

  told_or_refused : (told : Option Told) (r : Refusal) → IsTaskText oil src load name told → IsRefusal oil src load r → ⊥
  told_or_refused told r h refused = not_refused oil src load h.config h.app r h.accepted h.has.is_load.no_fault refused

  same_told : (one other : Told) → IsTaskText oil src load name (Some one) → IsTaskText oil src load name (Some other) → one ≡ other
  same_told one other h g = let same = one_task_text oil src load name (Some one) (Some other) h g in cc

  same_lines : (a b : List ℕ) (late : Bool) → IsTaskText oil src load name (Some (record { text = a; is_open = late }))
      → IsTaskText oil src load name (Some (record { text = b; is_open = late })) → a ≡ b
  same_lines a b late h g = ap (λ (t : Told). t.text) (same_told (record { text = a; is_open = late }) (record { text = b; is_open = late }) h g)

  never_late : (a b : List ℕ) → IsTaskText oil src load name (Some (record { text = a; is_open = false }))
      → IsTaskText oil src load name (Some (record { text = b; is_open = true })) → ⊥
  never_late a b h g =
      let same : false ≡ true = ap (λ (t : Told). t.is_open) (same_told (record { text = a; is_open = false }) (record { text = b; is_open = true }) h g) in
      cc

  never_none : (told : Told) → IsTaskText oil src load name (Some told) → IsTaskText oil src load name None → ⊥
  never_none told h g = let same = one_task_text oil src load name (Some told) None h g in cc

  pub one_task_answer : (one other : ToolAnswer) → IsOfTask one → IsOfTask other → one ≡ other
  one_task_answer (answer.Done o) (answer.Done p) a b = ap answer.Done (same-outcome o p (a.1 ∙ sym b.1) (same_lines o.text p.text false a.0 b.0))
  one_task_answer (answer.Done o) (answer.Unmet m) a b = absurd (never_late o.text m a.0 b)
  one_task_answer (answer.Done o) (answer.Refused s) a b = absurd (told_or_refused (Some (record { text = o.text; is_open = false })) s a.0 b)
  one_task_answer (answer.Done o) answer.NoTask a b = absurd (never_none (record { text = o.text; is_open = false }) a.0 b)
  one_task_answer (answer.Unmet l) (answer.Done p) a b = absurd (never_late p.text l b.0 a)
  one_task_answer (answer.Unmet l) (answer.Unmet m) a b = ap answer.Unmet (same_lines l m true a b)
  one_task_answer (answer.Unmet l) (answer.Refused s) a b = absurd (told_or_refused (Some (record { text = l; is_open = true })) s a b)
  one_task_answer (answer.Unmet l) answer.NoTask a b = absurd (never_none (record { text = l; is_open = true }) a b)
  one_task_answer (answer.Refused r) (answer.Done p) a b = absurd (told_or_refused (Some (record { text = p.text; is_open = false })) r b.0 a)
  one_task_answer (answer.Refused r) (answer.Unmet m) a b = absurd (told_or_refused (Some (record { text = m; is_open = true })) r b a)
  one_task_answer (answer.Refused r) (answer.Refused s) a b = ap answer.Refused (one_way oil src load r s a b)
  one_task_answer (answer.Refused r) answer.NoTask a b = absurd (told_or_refused None r b a)
  one_task_answer answer.NoTask (answer.Done p) a b = absurd (never_none (record { text = p.text; is_open = false }) b.0 a)
  one_task_answer answer.NoTask (answer.Unmet m) a b = absurd (never_none (record { text = m; is_open = true }) b a)
  one_task_answer answer.NoTask (answer.Refused s) a b = absurd (told_or_refused None s a b)
  one_task_answer answer.NoTask answer.NoTask a b = refl
  one_task_answer (answer.Stopped pc stop) other a b = absurd a
  one_task_answer (answer.NotAnImage fault) other a b = absurd a
  one_task_answer (answer.NotAnElf fault) other a b = absurd a
  one_task_answer (answer.BadTrace fault) other a b = absurd a
  one_task_answer answer.NoHolds other a b = absurd a
  one_task_answer (answer.Explained kind lines) other a b = absurd a
  one_task_answer (answer.Done o) (answer.Stopped pc stop) a b = absurd b
  one_task_answer (answer.Done o) (answer.NotAnImage fault) a b = absurd b
  one_task_answer (answer.Done o) (answer.NotAnElf fault) a b = absurd b
  one_task_answer (answer.Done o) (answer.BadTrace fault) a b = absurd b
  one_task_answer (answer.Done o) answer.NoHolds a b = absurd b
  one_task_answer (answer.Done o) (answer.Explained kind lines) a b = absurd b
  one_task_answer (answer.Unmet l) (answer.Stopped pc stop) a b = absurd b
  one_task_answer (answer.Unmet l) (answer.NotAnImage fault) a b = absurd b
  one_task_answer (answer.Unmet l) (answer.NotAnElf fault) a b = absurd b
  one_task_answer (answer.Unmet l) (answer.BadTrace fault) a b = absurd b
  one_task_answer (answer.Unmet l) answer.NoHolds a b = absurd b
  one_task_answer (answer.Unmet l) (answer.Explained kind lines) a b = absurd b
  one_task_answer (answer.Refused r) (answer.Stopped pc stop) a b = absurd b
  one_task_answer (answer.Refused r) (answer.NotAnImage fault) a b = absurd b
  one_task_answer (answer.Refused r) (answer.NotAnElf fault) a b = absurd b
  one_task_answer (answer.Refused r) (answer.BadTrace fault) a b = absurd b
  one_task_answer (answer.Refused r) answer.NoHolds a b = absurd b
  one_task_answer (answer.Refused r) (answer.Explained kind lines) a b = absurd b
  one_task_answer answer.NoTask (answer.Stopped pc stop) a b = absurd b
  one_task_answer answer.NoTask (answer.NotAnImage fault) a b = absurd b
  one_task_answer answer.NoTask (answer.NotAnElf fault) a b = absurd b
  one_task_answer answer.NoTask (answer.BadTrace fault) a b = absurd b
  one_task_answer answer.NoTask answer.NoHolds a b = absurd b
  one_task_answer answer.NoTask (answer.Explained kind lines) a b = absurd b

-- what is told is an answer
pub told_answer : (oil src load : List ℕ) (told : Told) → IsResponseText oil src load told → IsResponseAnswer oil src load (response_answer told)
told_answer oil src load told h = by told.is_open h
  where
    by : (late : Bool) → IsResponseText oil src load (record { text = told.text; is_open = late })
        → IsResponseAnswer oil src load (response_answer (record { text = told.text; is_open = late }))
    by true is = is
    by false is = (is, refl)

-- so it is of one task
pub task_told_answer : (oil src load name : List ℕ) (told : Told) → IsTaskText oil src load name (Some told)
    → IsTaskResponseAnswer oil src load name (response_answer told)
task_told_answer oil src load name told h = by told.is_open h
  where
    by : (late : Bool) → IsTaskText oil src load name (Some (record { text = told.text; is_open = late }))
        → IsTaskResponseAnswer oil src load name (response_answer (record { text = told.text; is_open = late }))
    by true is = is
    by false is = (is, refl)

-- and of a run
pub run_told_answer : (oil src load arr : List ℕ) (n : ℕ) (told : ToldRun) → IsRunText oil src load arr n told → IsRunResponseAnswer oil src load arr n (run_answer told)
run_told_answer oil src load arr n told h = by told.keeps h
  where
    by : (keeps : Bool) → IsRunText oil src load arr n (record { text = told.text; keeps = keeps })
        → IsRunResponseAnswer oil src load arr n (run_answer (record { text = told.text; keeps = keeps }))
    by true is = (is, refl)
    by false is = is
