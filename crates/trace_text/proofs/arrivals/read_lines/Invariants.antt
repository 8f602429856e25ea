use Rattle.std.proofs.Common.{◌≡◌, map, take, None}
use Rattle.sloth_base.specs.Arrivals.{AreArrivals}
use Rattle.sloth_base.proofs.Kept.{Loop}
use Rattle.text_pieces.specs.Names.{referent}
use Rattle.trace_text.specs.ArrivalsText.{arrivals_of, ArrivalFaultAt, owners_read}
use Rattle.trace_text.proofs.arrivals.read_lines.Given as goal

abbrev pub invariant-loop-n : goal.invariant-loop-n
invariant-loop-n l = record {
  read : l.read.items ≡ arrivals_of l.tasks l.counters (take l.n (map referent l.lines));
  in_range : AreArrivals (owners_read l.tasks l.counters) l.read.items;
  none : Loop (ArrivalFaultAt l.tasks l.counters) (map referent l.lines) l.n None;
}
