use Rattle.std.proofs.Common.{◌++◌, ◌%◌, ap}
use Rattle.std.proofs.lemmas.Result.{IfOk-equal}
use Rattle.image_file.specs.Fields.{two_bytes}
use Rattle.symbol_image.proofs.Lengths.{two_wrapped}
use Rattle.symbol_image.proofs.fields.put_half.Goals as goal

pub returns : goal.returns
returns c =
    IfOk-equal c.put_u16.result c.put_u16.new.file.items (c.args.section.now.items ++ two_bytes (c.args.number % 65536))
    (c.args.section.now.items ++ two_bytes c.args.number) c.put_u16.ensures (ap (λ b. c.args.section.now.items ++ b) (two_wrapped c.args.number))
