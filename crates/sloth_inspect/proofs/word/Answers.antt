use Rattle.std.proofs.Common.{◌∙◌}
use Rattle.sloth_inspect.proofs.Loads.{word_loads, word_loaded}
use Rattle.sloth_inspect.proofs.word.Goals as goal

pub unreachable-requires : goal.unreachable-requires
unreachable-requires c =
    let none = word_loads c.args.bus.now c.args.offset c.requires.aligned c.requires.inside in
    let refused = c.in-Err.ensures.err in
    cc (none, refused)

pub returns-clause-is : goal.returns-clause-is
returns-clause-is c = c.in-Ok.ensures.ok.1 ∙ word_loaded c.args.bus.now c.args.offset
