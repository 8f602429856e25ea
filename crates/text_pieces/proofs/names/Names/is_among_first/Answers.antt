use Rattle.std.proofs.Common.{◌∙◌, ap, sym}
use Rattle.std.specs.Prelude.{bytes_eq}
use Rattle.text_pieces.proofs.Places.{any_take, below}
use Rattle.text_pieces.proofs.names.Names.is_among_first.Goals as goal

pub returns-in-Some : goal.returns-in-Some
returns-in-Some c = sym (any_take (bytes_eq c.args.word.now) c.args.count c.args.self.now ∙ ap (λ o. below o c.args.count) (sym c.number.ensures ∙ c.in-Some.is))

pub returns-in-None : goal.returns-in-None
returns-in-None c = sym (any_take (bytes_eq c.args.word.now) c.args.count c.args.self.now ∙ ap (λ o. below o c.args.count) (sym c.number.ensures ∙ c.in-None.is))
