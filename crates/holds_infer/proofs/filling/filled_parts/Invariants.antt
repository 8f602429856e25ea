use Rattle.std.proofs.Common.{◌≡◌, ◌≤◌, ◌++◌, drop, map}
use Rattle.std.specs.List.{join_with_byte}
use Rattle.text_pieces.specs.Names.{referent}
use Rattle.holds_infer.specs.FilledText.{filled_parts}
use Rattle.holds_infer.proofs.filling.filled_parts.Given as goal

abbrev pub invariant-loop-n : goal.invariant-loop-n
invariant-loop-n l = record {
  few : l.number ≤ l.n;
  text : l.out.items ++ join_with_byte 10 (filled_parts l.config (drop l.number (map referent l.lists)) (drop l.n (map referent l.parts))) ≡ join_with_byte 10 (filled_parts l.config (map referent l.lists) (map referent l.parts));
}
