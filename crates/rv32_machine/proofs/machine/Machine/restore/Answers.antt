use Rattle.std.proofs.Common.{◌≡◌, ◌∙◌, ap}
use Rattle.rv32_machine.specs.State.{state_of}
use Rattle.rv32_machine.proofs.Taking.{pending_stores, pending_stored}
use Rattle.rv32_machine.proofs.machine.Machine.restore.Goals as goal

pub unreachable-requires : goal.unreachable-requires
unreachable-requires g c =
    let n : c.from.result ≡ c.args.line = cc in
    let e = pending_stores (g.B.Bus.memory c.args.self.now.bus) c.args.line c.from.result n c.requires.in_range c.requires.there in
    let f = c.in-Err.ensures.err in
    cc (e, f)

pub returns-clause-state : goal.returns-clause-state
returns-clause-state g c =
    let n : c.from.result ≡ c.args.line = cc in
    ap (state_of c.args.before)
    (c.in-Ok.ensures.ok.1 ∙ pending_stored (g.B.Bus.memory c.args.self.now.bus) c.args.line c.from.result n c.requires.in_range)
