use Rattle.std.proofs.Common.{◌≡◌, ◌++◌, drop}
use Rattle.why_text.specs.NameLines.{among_lines}
use Rattle.why_text.proofs.naming.push_notes.Given as goal

abbrev pub invariant-loop-note : goal.invariant-loop-note
invariant-loop-note l = l.text.items ++ among_lines (drop l.note-index l.notes) ≡ l.initial.text.items ++ among_lines l.notes
