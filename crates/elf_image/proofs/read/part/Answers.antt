use Rattle.std.proofs.Common.{◌≡◌, ◌+◌, ◌-◌, ap, arith, drop, take}
use Rattle.elf_image.proofs.read.part.Goals as goal

pub returns : goal.returns
returns c =
    let n : c.args.at + c.args.size - c.args.at ≡ c.args.size = omega arith in
    ap (λ k. take k (drop c.args.at c.args.bytes.now)) n
