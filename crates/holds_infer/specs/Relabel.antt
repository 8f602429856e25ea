-- Lines of task source with other lists at their labels.
use Rattle.std.specs.Prelude.{ℕ, if◌then◌else◌, List, [], ◌∷◌, map}
use Rattle.std.specs.List.{flat_map}
use Rattle.sloth_base.specs.declared.config.Config.{Config}
use Rattle.sloth_base.specs.declared.app.App.{App}
use Rattle.sloth_base.specs.declared.app.Func.{Func}
use Rattle.asm_lines.specs.declared.operands.Operand.TheVariants.{Name}
use Rattle.asm_lines.specs.declared.source_line.SourceLine.{SourceLine}
use Rattle.asm_lines.specs.declared.source_line.SourceLine.TheVariants.{Statement}
use Rattle.asm_lines.specs.declared.forms.Mnemonic.TheVariants as mnemonic
use Rattle.asm_scopes.specs.Statements.{is_label, name_of}
use Rattle.holds_infer.specs.LabelLines.{resource_names}

-- ---- the lists of task code

-- the lists of a body's labels
abbrev pub func_holds : Func → List (List ℕ)
func_holds f = map (λ l. l.holds) f.labels

-- the lists of all labels, in the order of the text
abbrev pub all_holds : App → List (List ℕ)
all_holds app = flat_map func_holds app.funcs

-- ---- lines

-- the statement of a label with the names of these resources
abbrev pub label_statement : List ℕ → List (List ℕ) → SourceLine
label_statement name resources = Statement mnemonic.Label (map Name (name ∷ resources))

-- the first of the lists, or the empty one
abbrev pub first_list : List (List ℕ) → List ℕ
first_list [] = []
first_list (held ∷ rest) = held

-- the lists behind the first one
abbrev pub other_lists : List (List ℕ) → List (List ℕ)
other_lists [] = []
other_lists (held ∷ rest) = rest

-- the lines, with these lists at the labels in turn
abbrev pub relabeled_lines : Config → List (List ℕ) → List SourceLine → List SourceLine
relabeled_lines config lists [] = []
relabeled_lines config lists (line ∷ lines) =
    if is_label line
    then label_statement (name_of line) (resource_names config (first_list lists)) ∷ relabeled_lines config (other_lists lists) lines
    else line ∷ relabeled_lines config lists lines
