use Rattle.std.proofs.Common.{◌≡◌, ◌∙◌, ap, refl, subst, length, List, ℕ, Bool}
use Rattle.std.proofs.lemmas.Result.{IfOk-weaker}
use Rattle.sloth_base.specs.declared.config.TaskDecl.{TaskDecl}
use Rattle.stack_bounds.specs.Bounds.{AreParts}
use Rattle.call_graph.specs.Tables.{AreOffsets}
use Rattle.stack_bounds.proofs.Bodies.{bodies_of}
use Rattle.stack_bounds.proofs.Parts.{parts}
use Rattle.stack_bounds.proofs.Rows.{AreRows, preempted}
use Rattle.stack_bounds.proofs.stacking.ranked_offsets.Goals as goal

-- offsets of the same lists
same_offsets : (tasks config_tasks : List TaskDecl) (yielding items : List Bool) (bytes more offsets : List ℕ) → tasks ≡ config_tasks → yielding ≡ items → bytes ≡ more
    → AreOffsets tasks yielding bytes offsets → AreOffsets config_tasks items more offsets
same_offsets tasks config_tasks yielding items bytes more offsets e f g h =
    subst (λ (x : List TaskDecl). AreOffsets x items more offsets) e
    (subst (λ (x : List Bool). AreOffsets tasks x more offsets) f (subst (λ (x : List ℕ). AreOffsets tasks yielding x offsets) g h))

pub yielding_tasks-requires-clause-bodies : goal.yielding_tasks-requires-clause-bodies
yielding_tasks-requires-clause-bodies c =
    bodies_of c.args.config.now c.args.app.now c.items-tasks.result.now c.items-funcs.result.now c.requires.well_formed c.items-tasks.ensures c.items-funcs.ensures

pub returns : goal.returns
returns c =
    let config = c.args.config.now in
    let app = c.args.app.now in
    let bounds = c.args.bounds.now in
    let ranks = c.args.ranks.now in
    let yielding = c.in_ok-yielding.yielding.items in
    let is = c.in_ok-yielding.ensures in
    let rows : AreRows config app ranks yielding bounds.bytes = record {
      verified = c.requires.well_formed;
      belong = c.requires.belong;
      bytes_count = c.requires.bounds.count;
      lengths = c.requires.bounds.lengths;
      yielding_count = is.count ∙ ap (λ (l : List TaskDecl). length l) c.items-tasks.ensures;
      yielding_are = preempted config app ranks c.items-tasks.result.now c.items-funcs.result.now c.items.result.now yielding
          c.items-tasks.ensures c.items-funcs.ensures c.items.ensures is.yielding;
    } in
    let made : (offsets : List ℕ) → AreOffsets c.items-tasks.result.now c.deref.result.now c.items-2.result.now offsets → AreParts config app bounds offsets =
    λ offsets are. parts config app ranks yielding bounds.bytes rows offsets
    (same_offsets c.items-tasks.result.now config.tasks c.deref.result.now yielding c.items-2.result.now bounds.bytes offsets
    c.items-tasks.ensures c.deref.ensures.value c.items-2.ensures are)
    bounds refl c.requires.bounds in
    IfOk-weaker _ _ _ (λ offsets are. made _ are) c.offsets_of_tasks.ensures
