use Rattle.std.proofs.Common.{◌≡◌, ◌∙◌, ℕ, ◌+◌, Bool, ap, sym, subst, take, length, false, arith}
use Rattle.std.specs.List.{fold}
use Rattle.std.proofs.lemmas.List.{length-take-le}
use Rattle.std.proofs.lemmas.List.Sums.{fold_more}
use Rattle.std.proofs.Math.Seq.{take-length}
use Rattle.sloth_base.specs.declared.refusal.Code.TheVariants.{A1}
use Rattle.sloth_base.specs.Search.{IsSearchResult, Somewhere}
use Rattle.sloth_base.proofs.Kept.{loop_more, loop_end, both_are}
use Rattle.asm_lines.specs.Faults.{FaultAt, LineFault, SourceCase, after_line, is_end_inside}
use Rattle.sloth_base.specs.declared.refusal.Part.TheVariants.{Src}
use Rattle.sloth_base.proofs.Cases.{case_found}
use Rattle.asm_lines.proofs.source_line.source_fault.Goals as goal

pub loop-n-preserved : goal.loop-n-preserved
loop-n-preserved c =
    let xs = c.args.lines.now in
    let i = c.loop-n.n in
    let x = c.index-lines-n.result in
    let m = c.line_fault.result in
    let inside = c.loop-n.invariant.inside in
    let place : i ≡ length (take i xs) = sym (length-take-le i xs c.loop-n.auto.n-end) in
    let found = subst (λ (b : Bool). IsSearchResult (LineFault b (length (take i xs) + 1) x) m) inside
    (subst (λ (k : ℕ). IsSearchResult (LineFault c.loop-n.inside (k + 1) x) m) place c.line_fault.ensures) in
    record {
      finds = loop_more FaultAt xs i x c.loop-n.least m c.merge-least.result c.loop-n-test.true c.index-lines-n.is found c.merge-least.ensures c.loop-n.invariant.finds;
      inside = c.after_line-inside.ensures ∙ (ap (λ b. after_line b x) inside
          ∙ (ap (after_line (fold after_line false (take i xs))) c.index-lines-n.is ∙ sym (fold_more after_line false xs i x c.loop-n-test.true)));
    }

pub returns : goal.returns
returns c =
    let xs = c.args.lines.now in
    let e : c.loop-n.n ≡ length xs = omega arith in
    let inside = c.loop-n.invariant.inside ∙ ap (fold after_line false) (ap (λ k. take k xs) e ∙ take-length xs) in
    both_are (Somewhere FaultAt xs) (SourceCase (is_end_inside xs) (length xs) A1) c.loop-n.least c.fault_if-at_end.result c.merge.result
    (loop_end FaultAt xs c.loop-n.n c.loop-n.least c.loop-n-test.false c.loop-n.invariant.finds)
    (case_found Src (is_end_inside xs) c.loop-n.inside (length xs) A1 c.fault_if-at_end.result c.fault_if-at_end.ensures inside) c.merge.ensures
