-- The task code of a text, and its faults.
use Rattle.std.specs.Prelude.{◌≡◌, ℕ, ◌⊎◌, List}
use Rattle.sloth_base.specs.declared.app.App.{App}
use Rattle.sloth_base.specs.declared.config.Config.{Config}
use Rattle.sloth_base.specs.declared.refusal.Refusal.{Refusal}
use Rattle.sloth_base.specs.Order.{NoFault}
use Rattle.asm_lines.specs.Faults.{source_lines, SourceLinesFault}
use Rattle.asm_parse.specs.NameFaults.{NameFault}
use Rattle.asm_parse.specs.Apps.{app_of}

-- the text says this task code
abbrev pub AppText : List ℕ → Config → App → Type 0
AppText text config app = app ≡ app_of config (source_lines text)

-- A fault of the text: one of its lines, or, where no line has one, one of names and limits.
abbrev pub SourceTextFault : Config → List ℕ → Refusal → Type 0
SourceTextFault config text r = SourceLinesFault text r ⊎ (NoFault (SourceLinesFault text) × NameFault config (source_lines text) r)
