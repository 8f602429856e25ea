use Rattle.image_file.proofs.Standing.{two_stands}
use Rattle.std.proofs.Common.{rules}
use Rattle.image_file.proofs.header.read_u16.Goals as goal

-- src/read.rt:159:1
pub returns : goal.returns
returns c =
    record { stands = two_stands c.args.bytes.now c.args.at c.from_le_bytes.result c.requires (search rules) c.from_le_bytes.ensures }
