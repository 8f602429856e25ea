use Rattle.std.proofs.Common.{◌∙◌, ap, sym, take}
use Rattle.std.proofs.lemmas.List.Sums.{fold_more}
use Rattle.sloth_base.specs.declared.refusal.Code.TheVariants.{O15}
use Rattle.sloth_base.specs.Search.{fault_if}
use Rattle.sloth_base.proofs.Kept.{loop_more, loop_end, finds_true_is}
use Rattle.sloth_base.specs.declared.refusal.Part.TheVariants.{Oil}
use Rattle.sloth_base.specs.Cases.{fault_at}
use Rattle.oil_table.specs.Events.{number_masks, taken_bits_before, taken_more, lacks_bit, BitFault}
use Rattle.oil_table.proofs.events.events_without_bit.Goals as goal

pub loop-object-preserved : goal.loop-object-preserved
loop-object-preserved c =
    let objects = c.args.objects.now in
    let x = c.object-item.result in
    let k = c.loop-object.invariant in
    let i = c.loop-object.object-index in
    let e = c.fault_if-found.ensures ∙ ap (λ b. fault_if b (fault_at Oil x.line O15)) (c.lacks_bit.ensures ∙ ap (λ n. lacks_bit n x) k.taken) in
    record {
      finds = loop_more (BitFault objects) objects i x c.loop-object.least c.fault_if-found.result c.merge-least.result c.loop-object-test.true c.object-item.is
          (finds_true_is (lacks_bit (taken_bits_before objects (take i objects)) x) (fault_at Oil x.line O15) c.fault_if-found.result e) c.merge-least.ensures k.finds;
      taken = c.taken_more-taken.ensures ∙ ap (λ n. taken_more n x) k.taken ∙ ap (taken_more (taken_bits_before objects (take i objects))) c.object-item.is
          ∙ sym (fold_more taken_more (number_masks objects) objects i x c.loop-object-test.true);
    }

pub returns : goal.returns
returns c = loop_end (BitFault c.args.objects.now) c.args.objects.now c.loop-object.object-index c.loop-object.least c.loop-object-test.false c.loop-object.invariant.finds
