use Rattle.std.proofs.Common.{ℕ, List, ap, sym, subst, ◌∙◌}
use Rattle.bound_rules.specs.Summaries.{IsCountedUp}
use Rattle.walk_sums.specs.Computed.{summary_by}
use Rattle.walk_sums.specs.Known.{IsSummaryFor}
use Rattle.walk_sums.proofs.Filling.{endless_by_loop, exact_by, exact_small}
use Rattle.walk_sums.proofs.Shaped.{loop_is, loop_none}
use Rattle.walk_sums.proofs.levels.Caller.summary_along.Goals as goal

pub returns-then-is_endless-clause-is : goal.returns-then-is_endless-clause-is
returns-then-is_endless-clause-is c =
    let paths = c.args.paths.now in
    endless_by_loop c.args.self.now c.requires.before c.requires.bounded paths c.requires.paths
    (loop_is paths.ways paths.steps paths.shape c.requires.paths.shape (sym c.is_endless.ensures ∙ c.if-is_endless.true))

pub returns-clause-is : goal.returns-clause-is
returns-clause-is c =
    let v = c.args.self.now in
    let paths = c.args.paths.now in
    let no_loop = loop_none paths.ways paths.steps paths.shape c.requires.paths.shape (sym c.is_endless.ensures ∙ c.if-is_endless.false) in
    let is = c.trail_summary.ensures ∙ ap (λ (l : List ℕ). summary_by v.known v.kind l c.deref-2.result.now) c.deref.ensures.value
    ∙ ap (summary_by v.known v.kind c.in_ok-on.on.items) c.deref-2.ensures.value in
    subst (IsSummaryFor v) (sym is)
    (exact_by v c.requires.before c.requires.bounded paths c.requires.paths no_loop c.in_ok-on.on.items c.in_ok-back.back.items c.in_ok-on.ensures.trails c.in_ok-back.ensures.trails)

pub returns-clause-small : goal.returns-clause-small
returns-clause-small c =
    let v = c.args.self.now in
    let paths = c.args.paths.now in
    let no_loop = loop_none paths.ways paths.steps paths.shape c.requires.paths.shape (sym c.is_endless.ensures ∙ c.if-is_endless.false) in
    let is = c.trail_summary.ensures ∙ ap (λ (l : List ℕ). summary_by v.known v.kind l c.deref-2.result.now) c.deref.ensures.value
    ∙ ap (summary_by v.known v.kind c.in_ok-on.on.items) c.deref-2.ensures.value in
    subst IsCountedUp (sym is)
    (exact_small v.config v.app v.weights v.kind v.known.level v.number _
    (exact_by v c.requires.before c.requires.bounded paths c.requires.paths no_loop c.in_ok-on.on.items c.in_ok-back.back.items c.in_ok-on.ensures.trails c.in_ok-back.ensures.trails))
