use Rattle.std.proofs.Common.{◌∙◌, Bool, ap, sym, subst}
use Rattle.sloth_base.specs.declared.config.TaskDecl.{TaskDecl}
use Rattle.sloth_base.specs.Named.{declaration}
use Rattle.run_costs.specs.Rounds.{AreRounds}
use Rattle.run_costs.specs.Tables.{rounds_by}
use Rattle.run_costs.proofs.CleanRounds.{clean_rounds}
use Rattle.run_costs.proofs.rounds.task_rounds.Goals as goal

pub returns-then-is_marked : goal.returns-then-is_marked
returns-then-is_marked c =
    let w = c.args.walks.now in
    let extended = (declaration w.config c.args.task).extended in
    let clean = sym c.is_marked.ensures ∙ c.if-is_marked.true in
    subst (λ (b : Bool). AreRounds w.app b extended c.args.task c.args.weights.now c.extended_rounds.result) (sym clean)
    (clean_rounds w.app c.args.task c.args.weights.now c.round_sums-sums.result c.extended_rounds.result extended c.round_sums-sums.ensures
    (c.extended_rounds.ensures ∙ ap (λ (d : TaskDecl). rounds_by d.extended c.round_sums-sums.result) c.task.ensures.is))
