use Rattle.std.proofs.Common.{List, refl, sym, subst}
use Rattle.sloth_base.specs.declared.app.App.{App}
use Rattle.sloth_base.specs.declared.app.Func.{Func}
use Rattle.code_rules.specs.WellFormed.{WellFormed}
use Rattle.call_graph.specs.Tables.{HasTaskBody}
use Rattle.stack_bounds.proofs.Bodies.{bodies_of}
use Rattle.section_ways.proofs.pair.Trial.body.Goals as goal

pub body_of-requires : goal.body_of-requires
body_of-requires c =
    let i = c.self.inside in
    let config = i.walks.now.config in
    let app = c.app.result.now in
    subst (λ (funcs : List Func). HasTaskBody funcs i.task) (sym c.items.ensures)
    (bodies_of config app config.tasks app.funcs (subst (λ (a : App). WellFormed config a) (sym c.app.ensures.is) c.app.ensures.well_formed) refl refl i.task c.self.invariant.lower.0)
