use Rattle.std.proofs.Common.{◌≡◌, sym, subst}
use Rattle.std.specs.List.Sorted.{IsNonDecreasingBy}
use Rattle.std.proofs.lemmas.Result.{IfOk-weaker}
use Rattle.stage_faults.specs.Told.{note_order, told_from, AreInOrder, TellSame}
use Rattle.stage_faults.proofs.Places.{tell_permuted}
use Rattle.stage_faults.proofs.ToldOnce.{once_in_order, once_same}
use Rattle.stage_faults.proofs.notes.told_list.Goals as goal

pub returns-clause-in_order : goal.returns-clause-in_order
returns-clause-in_order c =
    let slice = c.as_slice.result.now in
    IfOk-weaker c.distinct.result (λ list. list.items ≡ told_from 0 slice) (λ list. AreInOrder list.items) (λ list e. once_in_order slice list.items e) c.distinct.ensures

pub returns-clause-same : goal.returns-clause-same
returns-clause-same c =
    let old = c.args.notes.now.items in
    let sorted = c.put_in_order.new.notes.items in
    let slice = c.as_slice.result.now in
    let put = c.in_ok-put_in_order.ensures in
    let value = sym c.as_slice.ensures.value in
    let same = subst (TellSame old) value (tell_permuted old sorted put.permutation) in
    let rises = subst (IsNonDecreasingBy note_order) value put.sorted in
    IfOk-weaker c.distinct.result (λ list. list.items ≡ told_from 0 slice) (λ list. TellSame old list.items) (λ list e. once_same old slice list.items same rises e) c.distinct.ensures
