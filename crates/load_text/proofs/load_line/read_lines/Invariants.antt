use Rattle.std.proofs.Common.{◌≡◌, map, take, None}
use Rattle.sloth_base.proofs.Kept.{Loop}
use Rattle.text_pieces.specs.Names.{referent}
use Rattle.trace_text.specs.ArrivalsText.{owners_read}
use Rattle.load_text.specs.LoadText.{entries_of, FaultAt}
use Rattle.load_text.specs.Loads.{IsLoad}
use Rattle.load_text.proofs.load_line.read_lines.Given as goal

abbrev pub invariant-loop-n : goal.invariant-loop-n
invariant-loop-n l = record {
  read : l.read.items ≡ entries_of l.tasks l.counters (take l.n (map referent l.lines));
  in_range : IsLoad (owners_read l.tasks l.counters) l.read.items;
  none : Loop (FaultAt l.tasks l.counters) (map referent l.lines) l.n None;
}
