use Rattle.std.proofs.Common.{rules, not}
use Rattle.std.proofs.lemmas.Fn.{filter_same}
use Rattle.debug_ways.specs.Points.{is_point}
use Rattle.debug_ways.proofs.points.take_point.Goals as goal

pub returns : goal.returns
returns c = filter_same _ (λ other. not (is_point c.args.point.now other)) _ (λ x b f' k. search rules) _ _ c.retain.ensures.filtered
