use Rattle.std.proofs.Common.{◌≡◌, map, drop}
use Rattle.std.specs.Prelude.{length, ◌==◌}
use Rattle.std.specs.List.{list_any}
use Rattle.text_pieces.specs.Names.{referent}
use Rattle.asm_lines.proofs.source_line.has_empty.Given as goal

abbrev pub invariant-loop-text : goal.invariant-loop-text
invariant-loop-text l = list_any (λ t. length t == 0) (map referent (drop l.text-index l.texts)) ≡ list_any (λ t. length t == 0) (map referent l.texts)
