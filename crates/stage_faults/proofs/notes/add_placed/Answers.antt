use Rattle.std.proofs.Common.{}
use Rattle.std.proofs.lemmas.Result.{on_ok_weaker}
use Rattle.stage_faults.proofs.Telling.{adds_case}
use Rattle.stage_faults.proofs.notes.add_placed.Goals as goal

pub returns-then-test : goal.returns-then-test
returns-then-test c =
    on_ok_weaker c.add.result
    (λ f part. adds_case part c.args.test c.args.line c.args.code c.args.notes.now.items c.add.new.notes.items c.if-test.true (f part))
    c.add.ensures
