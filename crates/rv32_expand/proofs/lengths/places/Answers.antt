use Rattle.std.proofs.Common.{◌≡◌, sym, arith}
use Rattle.std.proofs.lemmas.Grind.{common_steps}
use Rattle.rv32_expand.specs.Long.{size_at}
use Rattle.rv32_expand.specs.Passes.{set_in_list}
use Rattle.rv32_expand.proofs.Growth.{place_first, place_next, place_few}
use Rattle.rv32_expand.proofs.lengths.places.Goals as goal

pub loop-index-init : goal.loop-index-init
loop-index-init c = record {
  count = grind (arith, common_steps);
  each = λ k h. absurd (omega arith);
  next = sym (place_first c.args.app.now c.args.body.now (set_in_list c.args.long.now));
  few = omega arith;
}

pub loop-index-preserved : goal.loop-index-preserved
loop-index-preserved c =
    let k = c.loop-index.invariant in
    let n = place_next c.args.app.now c.args.body.now (set_in_list c.args.long.now) c.loop-index.index in
    let w : c.size-place.result ≡ size_at c.args.app.now c.args.body.now (set_in_list c.args.long.now) c.loop-index.index = grind (arith, common_steps) in
    record {
      count = grind (arith, common_steps);
      each = λ q h. grind (arith, common_steps, k.each q);
      next = let e = k.next in omega (arith, n, e, w);
      few = let l = c.size-place.ensures.few in let f = k.few in omega (arith, l, f);
    }

pub returns : goal.returns
returns c =
    let k = c.loop-index.invariant in
    record {
      count = grind (arith, common_steps);
      each = λ q h. grind (arith, common_steps, k.each q);
      few = λ q h. place_few c.args.app.now c.args.body.now (set_in_list c.args.long.now) c.requires.small.frames q;
    }
