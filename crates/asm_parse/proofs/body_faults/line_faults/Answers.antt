use Rattle.std.proofs.Common.{◌≡◌, ◌∙◌, ℕ, ◌+◌, List, ap, sym, subst, take, length, count_by}
use Rattle.std.specs.Prelude.{if◌then◌else◌}
use Rattle.std.proofs.Math.Nat.{add_assoc}
use Rattle.std.proofs.lemmas.List.{length-take-le}
use Rattle.sloth_base.specs.Search.{IsSearchResult}
use Rattle.sloth_base.proofs.Kept.{loop_more}
use Rattle.asm_scopes.specs.Statements.{is_label, is_item, name_of, label_names}
use Rattle.asm_parse.specs.NameFaults.{BodyLineFault, LineNameFault}
use Rattle.asm_parse.proofs.Fronts.{count_more, kept_front}
use Rattle.asm_parse.proofs.body_faults.line_faults.Goals as goal

pub loop-n-preserved : goal.loop-n-preserved
loop-n-preserved c =
    let xs = c.args.lines.now in
    let i = c.loop-n.n in
    let x = c.index-lines-n.result in
    let m = c.inner_fault-found.result in
    let k = c.loop-n.invariant in
    let front = take i xs in
    let scope = c.args.scope.now in
    let labels = c.args.labels.now in
    let number = c.args.at in
    let names : take c.loop-n.count labels ≡ label_names front =
    ap (take c.loop-n.count) c.requires.labels ∙ ap (λ (n : ℕ). take n (label_names xs)) k.labels ∙ kept_front is_label name_of xs i in
    let place : i ≡ length front = sym (length-take-le i xs c.loop-n.auto.n-end) in
    let one = subst (λ (e : List (List ℕ)). IsSearchResult (BodyLineFault scope labels e c.loop-n.items (number + i + 1) x) m) names c.inner_fault-found.ensures in
    let two = subst (λ (n : ℕ). IsSearchResult (BodyLineFault scope labels (label_names front) n (number + i + 1) x) m) k.items one in
    let found = subst (λ (n : ℕ). IsSearchResult (BodyLineFault scope labels (label_names front) (c.args.items + count_by is_item front) (number + n + 1) x) m) place two in
    record {
      finds = loop_more (LineNameFault scope labels c.args.items number) xs i x c.loop-n.least m c.merge-least.result c.loop-n-test.true c.index-lines-n.is found c.merge-least.ensures k.finds;
      labels = ap (λ n. c.loop-n.count + n) c.count_label-count.ensures ∙ ap (λ n. n + (if is_label x then 1 else 0)) k.labels
          ∙ count_more is_label xs i x c.loop-n-test.true c.index-lines-n.is;
      items = ap (λ n. c.loop-n.items + n) c.count_item-items.ensures ∙ ap (λ n. n + (if is_item x then 1 else 0)) k.items
          ∙ add_assoc c.args.items (count_by is_item front) (if is_item x then 1 else 0)
          ∙ ap (λ n. c.args.items + n) (count_more is_item xs i x c.loop-n-test.true c.index-lines-n.is);
    }
