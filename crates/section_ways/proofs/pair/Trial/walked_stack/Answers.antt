use Rattle.std.proofs.Common.{◌∙◌, ◌++◌, ◌∷◌, [], List, get_or, ap, sym, subst}
use Rattle.walk_sums.specs.declared.standing.Standing.{Standing}
use Rattle.walk_sums.specs.Positions.{no_point}
use Rattle.section_ways.specs.Standings.{IsStart}
use Rattle.section_ways.proofs.Advances.{begun}
use Rattle.section_ways.proofs.pair.Trial.walked_stack.Goals as goal

pub take_all-requires : goal.take_all-requires
take_all-requires c =
    let t = c.args.self.now in
    let begins = c.if-not-begins.false in
    let at : Standing = record { point = get_or c.args.points.now 0 no_point; raised = c.is_always_raised-raised.result } in
    subst (IsStart t.config t.app t.above t.task) (sym (c.in_ok-push.ensures ∙ ap (λ (l : List Standing). l ++ at ∷ []) c.new-stack.ensures.items))
    (begun t.config t.app t.above t.task at (c.begins.ensures.body begins ∙ c.body-body.ensures.is) (c.begins.ensures.reached begins) c.is_always_raised-raised.ensures)
