use Rattle.std.proofs.Common.{◌∙◌, ap, length, arith}
use Rattle.asm_lines.proofs.Counts.{lines_few}
use Rattle.why_text.proofs.naming.names_read.Goals as goal

pub names_lines-requires : goal.names_lines-requires
names_lines-requires c =
    let e = ap length (c.items.ensures ∙ c.in_ok-lines.ensures.lines) in
    let f = lines_few c.args.src.now in
    let t = c.requires in
    omega (arith, e, f, t)
