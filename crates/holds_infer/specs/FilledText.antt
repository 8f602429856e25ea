-- The text of task source with other lists at its labels.
use Rattle.std.specs.Prelude.{ℕ, ◌==◌, ◌++◌, Bool, if◌then◌else◌, List, [], ◌∷◌, length}
use Rattle.std.specs.List.{slice_split, join_with_byte}
use Rattle.sloth_base.specs.declared.config.Config.{Config}
use Rattle.sloth_base.specs.declared.app.App.{App}
use Rattle.asm_lines.specs.declared.source_line.SourceLine.{SourceLine}
use Rattle.text_pieces.specs.Lines.{line_of}
use Rattle.asm_lines.specs.SourceLines.{source_line}
use Rattle.asm_scopes.specs.Statements.{is_label, name_of}
use Rattle.holds_infer.specs.LabelLines.{label_text, line_end, resource_names}
use Rattle.holds_infer.specs.Relabel.{all_holds, first_list, other_lists}

-- the part between two LFs of a line, with this list where the line is a label
abbrev pub filled_part : Config → SourceLine → Bool → List ℕ → List ℕ → List ℕ
filled_part config line is_last held part =
    if is_label line then label_text (name_of line) (resource_names config held) ++ line_end is_last part else part

-- the lists behind a line
abbrev pub lists_behind : SourceLine → List (List ℕ) → List (List ℕ)
lists_behind line lists = if is_label line then other_lists lists else lists

-- the parts between the LFs, with these lists at the labels in turn
abbrev pub filled_parts : Config → List (List ℕ) → List (List ℕ) → List (List ℕ)
filled_parts config lists [] = []
filled_parts config lists (part ∷ parts) =
    let is_last = length parts == 0 in
    let line = source_line (line_of is_last part) in
    filled_part config line is_last (first_list lists) part ∷ filled_parts config (lists_behind line lists) parts

-- the text with each label's line replaced, all other bytes as they are
unfoldable pub filled_text : List ℕ → Config → App → List ℕ
filled_text text config app = join_with_byte 10 (filled_parts config (all_holds app) (slice_split (λ b. b == 10) text))
