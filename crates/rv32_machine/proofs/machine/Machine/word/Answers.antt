use Rattle.std.proofs.Common.{◌≡◌, ◌∙◌, true, false}
use Rattle.rv32_instr.specs.Memory.{in_ram}
use Rattle.rv32_machine.proofs.Fetching.{fetch_refused, fetched_word}
use Rattle.rv32_machine.proofs.machine.Machine.word.Goals as goal

pub unreachable-requires : goal.unreachable-requires
unreachable-requires g c =
    let there : in_ram c.args.self.now.hart.pc 4 ≡ true = c.requires in
    let not_there : in_ram c.args.self.now.hart.pc 4 ≡ false =
    fetch_refused (g.B.Bus.memory c.args.self.now.bus) c.args.self.now.hart.pc c.in-Err.field-0 c.args.self.now.aligned c.in-Err.ensures.err in
    cc

pub returns-clause-is : goal.returns-clause-is
returns-clause-is g c = c.in-Ok.ensures.ok.1 ∙ fetched_word (g.B.Bus.memory c.args.self.now.bus) c.args.self.now.hart.pc
