use Rattle.std.proofs.Common.{◌∙◌}
use Rattle.call_graph.proofs.Growing.{held_more}
use Rattle.shares_text.specs.declared.verdict.Verdict.{Verdict}
use Rattle.shares_text.specs.declared.verdict.Verdict.TheVariants as verdict
use Rattle.shares_text.specs.Verdicts.{IsVerdict}
use Rattle.shares_text.proofs.Judging.{judged}
use Rattle.shares_text.proofs.symbol_verdicts.verdicts.Goals as goal

pub loop-symbol-preserved : goal.loop-symbol-preserved
loop-symbol-preserved c =
    let config = c.args.config.now in
    let app = c.args.app.now in
    let judged_one =
    judged config app c.requires.well_formed c.loop-symbol.symbol c.args.tasks.now c.args.accesses.now c.deref.result.now c.items.result.now c.args.ceilings.now
    c.items.ensures (c.deref.ensures.value ∙ c.in_ok-uses.ensures) c.requires.contexts c.requires.accesses c.requires.many c.requires.ceilings
    c.in_ok-verdict.verdict c.in_ok-verdict.ensures in
    let g =
    held_more Verdict (λ y v. IsVerdict config app y v) c.loop-symbol.list.items c.push.new.list.items c.in_ok-verdict.verdict verdict.Unused c.loop-symbol.symbol
    c.loop-symbol.invariant.count c.loop-symbol.invariant.each c.in_ok-push.ensures judged_one in
    record { count = g.count; each = g.each }
