use Rattle.std.proofs.Common.{◌≡◌, ◌∙◌, ap, subst, sym, length, List, ℕ, Bool}
use Rattle.sloth_base.specs.declared.app.App.{App}
use Rattle.sloth_base.specs.declared.app.Func.{Func}
use Rattle.sloth_base.specs.declared.config.Config.{Config}
use Rattle.sloth_base.specs.declared.config.TaskDecl.{TaskDecl}
use Rattle.code_rules.specs.WellFormed.{WellFormed}
use Rattle.stack_bounds.specs.Bounds.{AreBounds}
use Rattle.call_graph.specs.Tables.{AreCallable, IsTableInLimit, most_stacked}
use Rattle.stack_bounds.proofs.Bodies.{bodies_of, callable}
use Rattle.stack_bounds.proofs.Bounded.{made, bounds, rows}
use Rattle.stack_bounds.proofs.Rows.{same_stacks, stacks}
use Rattle.stack_bounds.proofs.Depths.{table_small}
use Rattle.stack_bounds.proofs.bound.Goals as goal

callables : (config : Config) (app : App) (funcs : List Func) → WellFormed config app → funcs ≡ app.funcs → AreCallable funcs
callables config app funcs w e = subst AreCallable (sym e) (callable config app w.in_range)

shared_is : (shared : ℕ) (tasks config_tasks : List TaskDecl) (yielding items : List Bool) (bytes more : List ℕ) → shared ≡ most_stacked tasks yielding bytes
    → tasks ≡ config_tasks → yielding ≡ items → bytes ≡ more → shared ≡ most_stacked config_tasks items more
shared_is shared tasks config_tasks yielding items bytes more is e f g =
    is ∙ ap (λ (x : List TaskDecl). most_stacked x yielding bytes) e
    ∙ ap (λ (x : List Bool). most_stacked config_tasks x bytes) f
    ∙ ap (λ (x : List ℕ). most_stacked config_tasks items x) g

pub task_bytes-requires-clause-small : goal.task_bytes-requires-clause-small
task_bytes-requires-clause-small c =
    let funcs = c.items-funcs.result.now in
    let able = callables c.args.verified.now.config c.args.verified.now.app funcs c.app.ensures.well_formed (c.items-funcs.ensures ∙ ap (λ (a : App). a.funcs) c.app.ensures.is) in
    subst (IsTableInLimit funcs) (sym c.deref.ensures.value) (table_small funcs (length funcs) c.in_ok-table.table.items able able.few c.in_ok-table.ensures)

pub task_bytes-requires-clause-bodies : goal.task_bytes-requires-clause-bodies
task_bytes-requires-clause-bodies c =
    bodies_of c.args.verified.now.config c.args.verified.now.app c.items-tasks.result.now c.items-funcs.result.now c.app.ensures.well_formed
    (c.items-tasks.ensures ∙ ap (λ (x : Config). x.tasks) c.config.ensures.is) (c.items-funcs.ensures ∙ ap (λ (a : App). a.funcs) c.app.ensures.is)

pub yielding_tasks-requires-clause-bodies : goal.yielding_tasks-requires-clause-bodies
yielding_tasks-requires-clause-bodies c =
    bodies_of c.args.verified.now.config c.args.verified.now.app c.items-tasks.result.now c.items-funcs.result.now c.app.ensures.well_formed
    (c.items-tasks.ensures ∙ ap (λ (x : Config). x.tasks) c.config.ensures.is) (c.items-funcs.ensures ∙ ap (λ (a : App). a.funcs) c.app.ensures.is)

pub most_stacked-shared-requires : goal.most_stacked-shared-requires
most_stacked-shared-requires c =
    let verified = c.args.verified.now in
    let tasks = c.items-tasks.ensures ∙ ap (λ (x : Config). x.tasks) c.config.ensures.is in
    let funcs = c.items-funcs.ensures ∙ ap (λ (x : App). x.funcs) c.app.ensures.is in
    let yielding = c.in_ok-yielding in
    let bytes = c.in_ok-bytes in
    same_stacks c.items-tasks.result.now verified.config.tasks c.deref-2.result.now yielding.yielding.items c.deref-3.result.now bytes.bytes.items tasks c.deref-2.ensures.value c.deref-3.ensures.value
    (stacks verified.config verified.app c.args.ranks.now yielding.yielding.items bytes.bytes.items
    (rows verified.config verified.app c.args.ranks.now c.in_ok-table.table.items yielding.yielding.items bytes.bytes.items
    (made verified.config verified.app c.args.ranks.now c.items-tasks.result.now c.items-funcs.result.now c.items.result.now
    c.in_ok-table.table.items c.deref.result.now yielding.yielding.items bytes.bytes.items
    c.app.ensures.well_formed c.requires tasks funcs c.items.ensures c.deref.ensures.value c.in_ok-table.ensures
    bytes.ensures.count bytes.ensures.bytes yielding.ensures.count yielding.ensures.yielding)))

pub returns : goal.returns
returns c =
    let verified = c.args.verified.now in
    let tasks = c.items-tasks.ensures ∙ ap (λ (x : Config). x.tasks) c.config.ensures.is in
    let funcs = c.items-funcs.ensures ∙ ap (λ (x : App). x.funcs) c.app.ensures.is in
    let yielding = c.in_ok-yielding in
    let bytes = c.in_ok-bytes in
    let tables = made verified.config verified.app c.args.ranks.now c.items-tasks.result.now c.items-funcs.result.now c.items.result.now
    c.in_ok-table.table.items c.deref.result.now yielding.yielding.items bytes.bytes.items
    c.app.ensures.well_formed c.requires tasks funcs c.items.ensures c.deref.ensures.value c.in_ok-table.ensures
    bytes.ensures.count bytes.ensures.bytes yielding.ensures.count yielding.ensures.yielding in
    let shared = shared_is c.most_stacked-shared.result c.items-tasks.result.now verified.config.tasks c.deref-2.result.now yielding.yielding.items c.deref-3.result.now bytes.bytes.items
    c.most_stacked-shared.ensures tasks c.deref-2.ensures.value c.deref-3.ensures.value in
    subst (λ (x : List ℕ). AreBounds verified.config verified.app (record { bytes = x; shared = c.most_stacked-shared.result })) (sym c.from_vec.ensures)
    (subst (λ (x : ℕ). AreBounds verified.config verified.app (record { bytes = bytes.bytes.items; shared = x })) (sym shared)
    (bounds verified.config verified.app c.args.ranks.now c.in_ok-table.table.items yielding.yielding.items bytes.bytes.items tables))
