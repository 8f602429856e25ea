use Rattle.std.proofs.Common.{◌≡◌, sym, subst}
use Rattle.std.specs.List.Sorted.{IsNonDecreasingBy}
use Rattle.std.proofs.lemmas.Result.{IfOk-weaker}
use Rattle.stage_faults.specs.Told.{note_order}
use Rattle.why_text.specs.NamedFaults.{first_of_each, NamesAll, StandApart}
use Rattle.why_text.proofs.NamedFaults.{names_sorted}
use Rattle.why_text.proofs.Apart.{each_names, each_sorted, each_apart}
use Rattle.why_text.proofs.naming.with_names.Goals as goal

pub returns-clause-names : goal.returns-clause-names
returns-clause-names c =
    let faults = c.args.faults.now in
    let list = c.as_slice.result.now in
    let put = c.in_ok-put_in_order.ensures in
    let value = sym c.as_slice.ensures.value in
    let all = subst (NamesAll faults) value (names_sorted faults c.in_ok-list.list.items c.put_in_order.new.notes.items c.in_ok-list.ensures put.permutation) in
    let rises = subst (IsNonDecreasingBy note_order) value put.sorted in
    IfOk-weaker c.first_of_each.result (λ r. r.items ≡ first_of_each list) (λ r. NamesAll faults r.items) (λ r e. each_names faults list r.items all rises e) c.first_of_each.ensures

pub returns-clause-sorted : goal.returns-clause-sorted
returns-clause-sorted c =
    let faults = c.args.faults.now in
    let list = c.as_slice.result.now in
    let put = c.in_ok-put_in_order.ensures in
    let value = sym c.as_slice.ensures.value in
    let all = subst (NamesAll faults) value (names_sorted faults c.in_ok-list.list.items c.put_in_order.new.notes.items c.in_ok-list.ensures put.permutation) in
    let rises = subst (IsNonDecreasingBy note_order) value put.sorted in
    IfOk-weaker c.first_of_each.result (λ r. r.items ≡ first_of_each list) (λ r. IsNonDecreasingBy note_order r.items) (λ r e. each_sorted faults list r.items all rises e) c.first_of_each.ensures

pub returns-clause-apart : goal.returns-clause-apart
returns-clause-apart c =
    let faults = c.args.faults.now in
    let list = c.as_slice.result.now in
    let put = c.in_ok-put_in_order.ensures in
    let value = sym c.as_slice.ensures.value in
    let all = subst (NamesAll faults) value (names_sorted faults c.in_ok-list.list.items c.put_in_order.new.notes.items c.in_ok-list.ensures put.permutation) in
    let rises = subst (IsNonDecreasingBy note_order) value put.sorted in
    IfOk-weaker c.first_of_each.result (λ r. r.items ≡ first_of_each list) (λ r. StandApart r.items) (λ r e. each_apart faults list r.items all rises e) c.first_of_each.ensures
