-- What the answers of tools require, for any table of them.
use Rattle.std.proofs.Common.{◌≡◌, inr, ℕ, List, refl, sym, subst}
use Rattle.std.specs.Prelude.{◌⊎◌}
use Rattle.image_file.specs.declared.read.ImageFault.{ImageFault}
use Rattle.sloth_io.specs.Store.{Files}
use Rattle.command_line.specs.Command.{Command, Builds, Executes, Lists, Samples, Uses, IsCommand}
use Rattle.command_line.specs.Tools.{ToolUse, IsToolUse}
use Rattle.command_line.specs.ImageReaders.{HasImage}
use Rattle.command_line.specs.Lines.{tool_text}
use Rattle.command_line.specs.Statuses.{tool_status}
use Rattle.command_line.specs.declared.answer.ToolAnswer.{ToolAnswer}
use Rattle.command_line.specs.declared.answer.ToolAnswer.TheVariants as tool_answer
use Rattle.command_line.specs.declared.answer.Status.{Status}
use Rattle.core_commands.specs.ImageFiles.{IsNoImage}
use Rattle.core_commands.specs.ToolTables.{ToolTable}
use Rattle.core_commands.specs.Top.{FilesAfter, IsRequired, IsToolEnd}

-- a file that a tool says to be no image's is none
abbrev pub FaultsAreOfImages : ToolTable → Type 0
FaultsAreOfImages tools = (files : Files) (u : ToolUse) (fault : ImageFault) → IsToolUse u → tools files u (tool_answer.NotAnImage fault)
    → IsNoImage files (Uses u) fault

-- what the answers of a command that is a tool say of the image file that it reads
abbrev pub KnowsImage : ToolTable → Files → List ℕ → Command → Type 0
KnowsImage tools old file (Builds b) = Unit {0}
KnowsImage tools old file (Executes e) = Unit {0}
KnowsImage tools old file (Lists img) = Unit {0}
KnowsImage tools old file (Samples seed img) = Unit {0}
KnowsImage tools old file (Uses u) =
    (b : ToolAnswer) → tools old u b → HasImage file ⊎ ((fault : ImageFault) × (b ≡ tool_answer.NotAnImage fault))

-- a command is a tool with this answer
abbrev pub AnswersAs : ToolTable → Files → ToolAnswer → Command → Type 0
AnswersAs tools files a (Builds b) = ⊥
AnswersAs tools files a (Executes e) = ⊥
AnswersAs tools files a (Lists img) = ⊥
AnswersAs tools files a (Samples seed img) = ⊥
AnswersAs tools files a (Uses u) = tools files u a

module _ (tools : ToolTable) (faults : FaultsAreOfImages tools) where
  tool-required : (a : ToolAnswer) (words : List (List ℕ)) (u : ToolUse) (old new : Files) → IsCommand words (Uses u) → tools old u a
      → FilesAfter a old new u.output → IsRequired tools (tool_status a) words old new (tool_text a)
  tool-required (tool_answer.Done outcome) words u old new is h after =
      (Uses u, is, record { answer = tool_answer.Done outcome; is = h; status_is = refl; text_is = refl; files = after })
  tool-required (tool_answer.Stopped pc stop) words u old new is h after =
      (Uses u, is, record { answer = tool_answer.Stopped pc stop; is = h; status_is = refl; text_is = refl; files = after })
  tool-required (tool_answer.Refused r) words u old new is h after = (Uses u, is, r, h, refl, after)
  tool-required (tool_answer.NotAnImage fault) words u old new is h after = (Uses u, is, fault, faults old u fault is.1 h, refl, after)
  tool-required (tool_answer.NotAnElf fault) words u old new is h after = (u, is, fault, h, refl, after)
  tool-required (tool_answer.Explained kind fault) words u old new is h after = (u, is, fault, h, refl, after)
  tool-required (tool_answer.BadTrace fault) words u old new is h after = (u, is, fault, h, refl, after)
  tool-required tool_answer.NoHolds words u old new is h after = (u, is, h, refl, after)
  tool-required (tool_answer.Unmet lines) words u old new is h after = (u, is, lines, h, refl, after)
  tool-required tool_answer.NoTask words u old new is h after = (inr (u, is, h), refl, after)

  pub end-required : (s : Status) (words : List (List ℕ)) (u : ToolUse) (old new : Files) (text : List ℕ) → IsCommand words (Uses u)
      → IsToolEnd tools s old new u text → IsRequired tools s words old new text
  end-required s words u old new text is h =
      subst (λ x. IsRequired tools x words old new text) (sym h.status_is)
      (subst (λ t. IsRequired tools (tool_status h.answer) words old new t) (sym h.text_is) (tool-required h.answer words u old new is h.is h.files))
