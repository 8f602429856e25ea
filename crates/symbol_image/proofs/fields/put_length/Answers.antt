use Rattle.std.proofs.Common.{◌++◌, ◌%◌, ap}
use Rattle.std.proofs.lemmas.Result.{IfOk-equal}
use Rattle.image_file.specs.Fields.{four_bytes}
use Rattle.symbol_image.proofs.Lengths.{four_wrapped}
use Rattle.symbol_image.proofs.fields.put_length.Goals as goal

pub returns : goal.returns
returns c =
    IfOk-equal c.put_u32.result c.put_u32.new.file.items (c.args.section.now.items ++ four_bytes (c.args.length % 4294967296))
    (c.args.section.now.items ++ four_bytes c.args.length) c.put_u32.ensures (ap (λ b. c.args.section.now.items ++ b) (four_wrapped c.args.length))
