use Rattle.std.proofs.Common.{max, ap, ◌∙◌, arith}
use Rattle.walk_sums.proofs.Bodily.{facts_of}
use Rattle.run_costs.proofs.Greatest.{greatest_none, greatest_more, greatest_all}
use Rattle.run_windows.specs.RunWindows.{call_path}
use Rattle.run_costs.proofs.record.longest_service.Goals as goal

pub loop-code-init : goal.loop-code-init
loop-code-init c = greatest_none c.args.walks.now.config c.args.walks.now.app (facts_of c.args.walks.now.config c.args.walks.now.app c.requires.well_formed) c.args.task c.requires.inside c.args.all.now c.requires.all call_path

pub loop-code-preserved : goal.loop-code-preserved
loop-code-preserved c =
    greatest_more c.args.walks.now.config c.args.walks.now.app (facts_of c.args.walks.now.config c.args.walks.now.app c.requires.well_formed) c.args.task c.requires.inside c.args.all.now c.requires.all call_path c.loop-code.code c.loop-code.most c.max-most.result c.loop-code.invariant
    (c.max-most.ensures ∙ ap (λ n. max n c.loop-code.most) c.reached_path.ensures)

pub returns : goal.returns
returns c =
    let test = c.loop-code-test.false in
    greatest_all c.args.walks.now.config c.args.walks.now.app (facts_of c.args.walks.now.config c.args.walks.now.app c.requires.well_formed) c.args.task c.requires.inside c.args.all.now c.requires.all call_path c.loop-code.code c.loop-code.most (omega (arith, test)) c.loop-code.invariant
