use Rattle.std.proofs.Common.{◌≡◌, ◌∙◌, ap, sym, take, length, arith}
use Rattle.std.proofs.lemmas.List.Sums.{fold_more}
use Rattle.sloth_base.specs.declared.refusal.Code.TheVariants.{O15}
use Rattle.sloth_base.specs.declared.refusal.Part.TheVariants.{Oil}
use Rattle.oil_table.specs.Events.{number_masks, taken_bits_before, taken_more, lacks_bit, BitFault}
use Rattle.stage_faults.proofs.Telling.{case_is, adds_nowhere, adds_more, adds_end}
use Rattle.stage_faults.proofs.oil_objects.add_events.Goals as goal

pub loop-object-init : goal.loop-object-init
loop-object-init c = record { told = adds_nowhere Oil (BitFault c.args.objects.now) c.args.notes.now.items; taken = c.number_masks-taken.ensures }

pub loop-object-preserved : goal.loop-object-preserved
loop-object-preserved c =
    let objects = c.args.objects.now in
    let x = c.object-item.result in
    let k = c.loop-object.invariant in
    let i = c.loop-object.object-index in
    let a = c.loop-object.notes.items in
    let b = c.add_named.new.notes.items in
    let lacks = lacks_bit (taken_bits_before objects (take i objects)) x in
    let found = case_is Oil lacks c.lacks_bit-lacks.result x.line O15 a b (c.lacks_bit-lacks.ensures ∙ ap (λ n. lacks_bit n x) k.taken) (c.in_ok-add_named.ensures Oil) in
    record {
      told = adds_more Oil (BitFault objects) objects i x c.args.notes.now.items a b c.loop-object-test.true c.object-item.is k.told found;
      taken = c.taken_more-taken.ensures ∙ ap (λ n. taken_more n x) k.taken ∙ ap (taken_more (taken_bits_before objects (take i objects))) c.object-item.is
          ∙ sym (fold_more taken_more (number_masks objects) objects i x c.loop-object-test.true);
    }

pub returns : goal.returns
returns c =
    let xs = c.args.objects.now in
    let e : c.loop-object.object-index ≡ length xs = omega arith in
    adds_end Oil (BitFault xs) xs c.loop-object.object-index c.args.notes.now.items c.loop-object.notes.items e c.loop-object.invariant.told
