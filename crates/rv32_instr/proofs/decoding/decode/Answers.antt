use Rattle.std.proofs.Common.{Some, ap, sym, ◌∙◌, arith}
use Rattle.rv32_instr.proofs.Table.{decode_exact}
use Rattle.rv32_instr.proofs.decoding.decode.Goals as goal

pub returns-clause-exact : goal.returns-clause-exact
returns-clause-exact c =
    decode_exact c.args.word (Some c.of.result) (omega arith)
    (ap Some c.of.ensures ∙ sym c.in_ok-kind.was ∙ c.decode_kind.ensures)
