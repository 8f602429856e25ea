use Rattle.std.proofs.Common.{◌<◌, subst, sym, inl, inr}
use Rattle.walk_sums.proofs.graph.unseen_next.Goals as goal

pub unseen_way-requires : goal.unseen_way-requires
unseen_way-requires c = λ j e. subst (λ n. j < n) (sym c.requires.count) (c.requires.inside c.args.from j (inl e))

pub unseen_way-requires-in-None : goal.unseen_way-requires-in-None
unseen_way-requires-in-None c = λ j e. subst (λ n. j < n) (sym c.requires.count) (c.requires.inside c.args.from j (inr e))
