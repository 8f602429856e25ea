use Rattle.std.proofs.Common.{◌≡◌, ◌≤◌, ◌∙◌, ◌++◌, ℕ, List, length, get_or, take, drop, ap, sym, subst, arith}
use Rattle.std.proofs.Math.Seq.{take-append_seam}
use Rattle.walk_sums.specs.Trails.{IsLongest}
use Rattle.walk_sums.specs.Loops.{AreAttained}
use Rattle.walk_sums.proofs.Settling.{settled_longest}
use Rattle.walk_sums.proofs.paths.settled.Goals as goal

pub returns-then-not-pass-clause-longest : goal.returns-then-not-pass-clause-longest
returns-then-not-pass-clause-longest c =
    let ways = c.args.ways.now in
    let steps = c.args.steps.now in
    let ends = c.args.ends.now in
    let new : List ℕ = c.pass.new.table in
    let rest : List ℕ = drop (length new) c.loop-table.table.items in
    let count = c.pass.ensures.attained.count in
    let old = c.loop-table.invariant.count in
    let ok = c.loop-table.table.ok.0 in
    let e : c.loop-table.table.len ≡ length new = omega (arith, count, old, ok) in
    let same : take c.loop-table.table.len (new ++ rest) ≡ new = ap (λ n. take n (new ++ rest)) e ∙ take-append_seam new rest in
    λ i lt. subst (λ (l : List ℕ). IsLongest ways steps ends i (get_or l i 0)) (sym same)
    (settled_longest ways steps ends c.requires.sizes c.requires.inside new c.pass.ensures.attained (λ k inside. c.if-not-pass.ensures.grown.1 k (let none : 0 ≤ k = omega arith in none) inside) i lt)

pub loop-table-preserved : goal.loop-table-preserved
loop-table-preserved c =
    let new : List ℕ = c.pass.new.table in
    let rest : List ℕ = drop (length new) c.loop-table.table.items in
    let count = c.pass.ensures.attained.count in
    let old = c.loop-table.invariant.count in
    let ok = c.loop-table.table.ok.0 in
    let e : c.loop-table.table.len ≡ length new = omega (arith, count, old, ok) in
    let same : take c.loop-table.table.len (new ++ rest) ≡ new = ap (λ n. take n (new ++ rest)) e ∙ take-append_seam new rest in
    subst (λ (l : List ℕ). AreAttained c.args.ways.now c.args.steps.now c.args.ends.now l) (sym same) c.pass.ensures.attained
