use Rattle.std.proofs.Common.{◌∙◌, ap, refl}
use Rattle.rv32_instr.specs.Table.{Decode}
use Rattle.rv32_machine.proofs.Fetching.{fetch_in_ram, fetch_refused, fetched_word}
use Rattle.rv32_machine.proofs.machine.Machine.fetch.Goals as goal

pub returns-in-Ok-clause-ok : goal.returns-in-Ok-clause-ok
returns-in-Ok-clause-ok g c = (
  fetch_in_ram (g.B.Bus.memory c.args.self.now.bus) c.args.self.now.hart.pc c.args.self.now.aligned c.in-Ok.ensures.ok.0,
  c.in-Ok.ensures.ok.1 ∙ ap Decode (fetched_word (g.B.Bus.memory c.args.self.now.bus) c.args.self.now.hart.pc),
)

pub returns-in-Err-clause-err : goal.returns-in-Err-clause-err
returns-in-Err-clause-err g c = (
  fetch_refused (g.B.Bus.memory c.args.self.now.bus) c.args.self.now.hart.pc c.in-Err.field-0 c.args.self.now.aligned c.in-Err.ensures.err,
  refl,
)
