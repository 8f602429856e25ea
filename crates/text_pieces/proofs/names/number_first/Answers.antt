use Rattle.text_pieces.proofs.Numbering.{number_more}
use Rattle.std.proofs.Common.{◌∙◌, sym}
use Rattle.text_pieces.proofs.names.number_first.Goals as goal

pub returns-in-Ok : goal.returns-in-Ok
returns-in-Ok c = number_more c.args.first.now c.insert.new.self c.args.name c.args.at c.in-Ok.ensures.updates (sym c.contains_key.ensures ∙ c.if-contains_key.false)
