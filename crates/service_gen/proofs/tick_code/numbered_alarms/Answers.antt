use Rattle.std.proofs.Common.{◌∙◌, ◌++◌, [], ◌∷◌, ap}
use Rattle.service_gen.specs.Alarms.{alarms_from}
use Rattle.service_gen.proofs.Numbering.{found_more}
use Rattle.service_gen.proofs.tick_code.numbered_alarms.Goals as goal

pub loop-i-preserved : goal.loop-i-preserved
loop-i-preserved c =
    let x = c.index-alarms-i in
    found_more c.args.counter c.loop-i.i c.args.alarms.now x.result c.loop-i.found.items _ _ c.loop-i-test.true
    (c.in_ok-add.ensures ∙ ap (λ d. c.loop-i.found.items ++ alarms_from c.args.counter c.loop-i.i (d ∷ [])) x.is)
    c.loop-i.invariant
