use Rattle.std.proofs.Common.{sym, ◌∙◌, ap}
use Rattle.oil_parse.specs.Machine.{too_big}
use Rattle.oil_parse.proofs.Loop.{fits}
use Rattle.oil_parse.proofs.tree.Parser.read.Goals as goal

pub take-requires : goal.take-requires
take-requires c =
    fits c.args.self.now.expect c.args.token.now.kind c.args.token.now.span.now
    (ap (too_big c.args.self.now.expect) (sym c.token_shape-shape.ensures) ∙ (sym c.too_big.ensures ∙ c.if-too_big.false))
