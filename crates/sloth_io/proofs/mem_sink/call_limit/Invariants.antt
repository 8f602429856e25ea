use Rattle.std.proofs.Common.{◌≡◌, drop}
use Rattle.sloth_io.specs.MemSink.{limit_of}
use Rattle.sloth_io.proofs.mem_sink.call_limit.Given as goal

abbrev pub invariant-loop-number : goal.invariant-loop-number
invariant-loop-number l = limit_of l.call l.fails ≡ limit_of l.call (drop l.number-index l.fails)
