use Rattle.std.proofs.lemmas.List.Splits.{join_with_byte-slice_split}
use Rattle.text_pieces.proofs.LineCounts.{lines_count}
use Rattle.asm_lines.proofs.laws.lines_are_parts.Goals as goal

pub returns-clause-joined : goal.returns-clause-joined
returns-clause-joined c = λ text. join_with_byte-slice_split 10 text

pub returns-clause-count : goal.returns-clause-count
returns-clause-count c = λ text. lines_count text
