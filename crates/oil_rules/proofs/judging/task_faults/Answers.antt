use Rattle.std.proofs.Common.{◌≡◌, ◌∙◌, ap, sym, subst, take, ◌+◌, true, List}
use Rattle.std.specs.Prelude.{◌||◌, codes}
use Rattle.std.proofs.lemmas.List.Folds.{list_any_more}
use Rattle.sloth_base.specs.Search.{IsSearchResult, Somewhere}
use Rattle.sloth_base.proofs.Kept.{loop_more, loop_end, finds_if}
use Rattle.oil_parse.specs.declared.tree.OilAttr.{OilAttr}
use Rattle.oil_table.specs.Objects.{is_use, is_used, is_of_kind}
use Rattle.oil_rules.specs.References.{ReferenceContext}
use Rattle.oil_rules.specs.TaskFaults.{TaskFault}
use Rattle.oil_rules.proofs.judging.task_faults.Goals as goal

pub loop-number-preserved : goal.loop-number-preserved
loop-number-preserved c =
    let attrs = c.items-attrs.result.now in
    let events = c.args.events.now in
    let front = c.args.front.now in
    let x = c.index-attrs-number.result in
    let i = c.loop-number.number in
    let k = c.loop-number.invariant in
    record {
      finds = loop_more (TaskFault events front) attrs i x c.loop-number.least c.task_fault.result c.merge-least.result c.loop-number-test.true c.index-attrs-number.is
          (subst (λ (r : ReferenceContext). IsSearchResult (TaskFault r.events front r.attrs x) c.task_fault.result) k.behind c.task_fault.ensures)
          c.merge-least.ensures k.finds;
      is_given = c.is_given_with-given.ensures ∙ ap (λ b. b || is_use (codes "PRIORITY") x) k.is_given
          ∙ ap (λ (y : OilAttr). is_used (take i attrs) (codes "PRIORITY") || is_use (codes "PRIORITY") y) c.index-attrs-number.is
          ∙ sym (list_any_more (is_use (codes "PRIORITY")) attrs i x c.loop-number-test.true);
      behind = c.in_ok-before.ensures ∙ ap (λ (r : ReferenceContext). let s : ReferenceContext = record { events = r.events; attrs = take (i + 1) attrs } in s) k.behind;
    }

pub returns : goal.returns
returns c =
    let o = c.args.object.now in
    let P = TaskFault c.args.events.now c.args.front.now in
    finds_if (Somewhere P o.attrs) (is_of_kind (codes "TASK") o) c.loop-number.least
    (λ t. subst (λ (x : List OilAttr). IsSearchResult (Somewhere P x) c.loop-number.least) c.items-attrs.ensures
    (loop_end P c.items-attrs.result.now c.loop-number.number c.loop-number.least c.loop-number-test.false c.loop-number.invariant.finds))
    (λ f. let t : is_of_kind (codes "TASK") o ≡ true = sym c.is_of_kind.ensures ∙ c.if-not-is_of_kind.false in cc)
