use Rattle.std.proofs.Common.{◌≡◌, ◌∙◌, ◌++◌, ℕ, Bool, true, List, length, set, take, drop, Some, ap, sym, subst, arith}
use Rattle.std.proofs.lemmas.List.{length-set}
use Rattle.std.proofs.Math.Seq.{take-append_seam}
use Rattle.walk_sums.specs.CallOrder.{IsLeastRank}
use Rattle.walk_sums.proofs.CallOrdering.{IsOrdering}
use Rattle.walk_sums.proofs.Ranking.{one_more}
use Rattle.walk_sums.proofs.graph.callees_first.Goals as goal

pub loop-func-preserved : goal.loop-func-preserved
loop-func-preserved c =
    let app = c.args.app.now in
    let f = c.in-Some.func in
    let done = c.loop-func.done.items in
    let marks = c.keep.new.marks in
    let ranks = c.items-in-loop-func.result.now in
    let least = subst (λ (r : List ℕ). IsLeastRank r done (length r) (Some f)) c.items-in-loop-func.ensures
    (subst (λ (d : List Bool). IsLeastRank ranks d (length ranks) (Some f)) c.deref.ensures.value c.in-Some.ensures) in
    let is = c.in_ok-keep-in-Some.ensures.marks ∙ ap (λ (d : List Bool). set d f true) c.deref_mut.ensures.value in
    let same = ap (λ (d : List Bool). length d) is ∙ length-set done f true in
    let len = c.loop-func.done.ok.0 in
    let count : c.loop-func.done.len ≡ length marks = omega (arith, same, len) in
    let whole = ap (λ (n : ℕ). take n (marks ++ drop (length marks) done)) count ∙ take-append_seam marks (drop (length marks) done) in
    subst (λ (d : List Bool). IsOrdering app d c.keep.new.list.items) (sym (whole ∙ is))
    (subst (λ (k : List ℕ). IsOrdering app (set done f true) k) (sym c.in_ok-keep-in-Some.ensures.list)
    (one_more app c.args.ranks.now c.requires.belong c.requires.known done c.loop-func.order.items c.loop-func.invariant f least))
