use Rattle.std.proofs.Common.{◌≡◌, ◌∙◌}
use Rattle.rv32_machine.proofs.Taking.{level_loads, level_loaded}
use Rattle.rv32_machine.proofs.machine.Machine.level_of.Goals as goal

pub unreachable-requires : goal.unreachable-requires
unreachable-requires g c =
    let n : c.from.result ≡ c.args.line = cc in
    let e =
    level_loads (g.B.Bus.memory c.args.self.now.bus) c.args.line c.from.result n c.requires.in_range c.requires.there in
    let f = c.in-Err.ensures.err in
    cc (e, f)

pub returns-clause-is : goal.returns-clause-is
returns-clause-is g c =
    let n : c.from.result ≡ c.args.line = cc in
    c.in-Ok.ensures.ok.1
    ∙ level_loaded (g.B.Bus.memory c.args.self.now.bus) c.args.line c.from.result n c.requires.in_range
