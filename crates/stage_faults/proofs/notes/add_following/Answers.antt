use Rattle.std.proofs.Common.{refl}
use Rattle.std.proofs.lemmas.Result.{on_ok_weaker}
use Rattle.stage_faults.proofs.Telling.{adds_none, adds_follower}
use Rattle.stage_faults.proofs.notes.add_following.Goals as goal

pub returns-then-test : goal.returns-then-test
returns-then-test c = on_ok_weaker c.push.result (λ e part. adds_follower part c.args.notes.now.items c.push.new.list.items _ e refl) c.push.ensures

pub returns : goal.returns
returns c = λ part. adds_none part (λ r. ⊥) c.args.notes.now.items (λ r f. f)
