use Rattle.image_file.proofs.Told.{falls, rises_more}
use Rattle.std.proofs.lemmas.Bool.{false≢true}
use Rattle.image_file.proofs.header.are_ascending.Goals as goal

-- src/read.rt:344:13
pub returns-then-marks-i : goal.returns-then-marks-i
returns-then-marks-i c =
    (λ e. absurd (false≢true e), λ rising. absurd (falls c.args.marks.now c.loop-i.i _ c.loop-i.auto.i c.loop-i-test.true c.if-marks-i.true rising))

-- src/read.rt:342:5
pub loop-i-preserved : goal.loop-i-preserved
loop-i-preserved c =
    rises_more c.args.marks.now c.loop-i.i _ c.loop-i.auto.i c.loop-i-test.true c.if-marks-i.false c.loop-i.invariant
