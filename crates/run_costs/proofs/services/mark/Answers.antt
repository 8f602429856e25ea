use Rattle.std.proofs.Common.{refl, sym, ◌∙◌, arith}
use Rattle.std.proofs.lemmas.Bool.Decides.{not_from_Decides}
use Rattle.run_costs.proofs.Closing.{more_in, less_unmarked}
use Rattle.run_costs.proofs.services.mark.Goals as goal
use Rattle.run_costs.proofs.services.mark.Goals.{then-is_marked-via-then-is_marked, then-is_marked-via-else-is_marked+then-not-is_made}

pub returns-then-is_marked-clause-same : goal.returns-then-is_marked-clause-same
returns-then-is_marked-clause-same c =
    elim c.then-is_marked.branch [
      | then-is_marked-via-then-is_marked w ↦ λ _. (refl, λ made. sym c.is_marked.ensures ∙ w.if-is_marked.true)
      | then-is_marked-via-else-is_marked+then-not-is_made w ↦ λ _. (refl, λ made. absurd (not_from_Decides w.is_made.result w.is_made.ensures w.if-not-is_made.true made))
    ]

pub returns-clause-within : goal.returns-clause-within
returns-clause-within c =
    let count = c.requires.count in
    let inside = c.requires.inside in
    more_in c.args.walks.now.config c.args.walks.now.app c.args.makers.now.load.now c.args.marks.now c.args.task (omega (arith, count, inside)) c.requires.within inside
    (c.is_made.ensures.0 c.if-not-is_made.false)

pub returns-clause-marked : goal.returns-clause-marked
returns-clause-marked c = λ _.
    let count = c.requires.count in
    let inside = c.requires.inside in
    less_unmarked c.args.walks.now.config c.args.walks.now.app c.args.makers.now.load.now c.args.marks.now c.args.task (omega (arith, count, inside))
    (sym c.is_marked.ensures ∙ c.if-is_marked.false)
