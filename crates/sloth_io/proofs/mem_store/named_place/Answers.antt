use Rattle.std.proofs.Common.{arith}
use Rattle.sloth_io.proofs.Files.{absent, place_by}
use Rattle.sloth_io.proofs.mem_store.named_place.Goals as goal

pub returns-then-eq-clause-found : goal.returns-then-eq-clause-found
returns-then-eq-clause-found c =
    place_by c.args.name.now c.args.slots.now c.loop-place.place c.index-slots-place.result (omega arith) c.index-slots-place.is (cc) c.loop-place.invariant

pub returns-clause-none : goal.returns-clause-none
returns-clause-none c =
    absent c.args.name.now c.args.slots.now (λ k d lt. c.loop-place.invariant k d (omega arith))
