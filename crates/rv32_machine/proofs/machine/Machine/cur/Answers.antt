use Rattle.std.proofs.Common.{◌∙◌}
use Rattle.rv32_machine.proofs.Taking.{cur_loads, cur_loaded}
use Rattle.rv32_machine.proofs.machine.Machine.cur.Goals as goal

pub unreachable-requires : goal.unreachable-requires
unreachable-requires g c = let e = cur_loads (g.B.Bus.memory c.args.self.now.bus) in let f = c.in-Err.ensures.err in cc (e, f)

pub returns-clause-is : goal.returns-clause-is
returns-clause-is g c = c.in-Ok.ensures.ok.1 ∙ cur_loaded (g.B.Bus.memory c.args.self.now.bus)
