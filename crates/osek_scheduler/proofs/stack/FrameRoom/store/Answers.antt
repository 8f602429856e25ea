use Rattle.std.proofs.Common.{◌∙◌, ◌<◌, ℕ, List, ap, set, length, arith}
use Rattle.std.proofs.lemmas.List.{length-take}
use Rattle.std.proofs.Math.Seq.{take-set-lt}
use Rattle.osek_scheduler.specs.State.{Frame}
use Rattle.osek_scheduler.proofs.stack.FrameRoom.store.Goals as goal

pub returns : goal.returns
returns c =
    let f = c.self.inside in
    let w = c.args.word in
    let v = c.args.value in
    let same = ap (λ (x : Frame). length x.words) c.self.view_is in
    let below : w < f.count = omega (arith, c.requires, same, length-take f.count f.words) in
    ap (λ (ws : List ℕ). record { func = f.func; item = f.item; words = ws }) (take-set-lt f.count f.words w v below)
    ∙ ap (λ (x : Frame). record x { words = set x.words w v }) c.self.view_is
