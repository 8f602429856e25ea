use Rattle.std.proofs.Common.{◌∙◌, ap}
use Rattle.std.specs.Prelude.{is_some, bytes_eq}
use Rattle.text_pieces.proofs.Places.{position-any}
use Rattle.text_pieces.proofs.names.Names.has.Goals as goal

pub returns : goal.returns
returns c = c.is_some.ensures ∙ (ap is_some c.number.ensures ∙ position-any (bytes_eq c.args.word.now) c.args.self.now)
