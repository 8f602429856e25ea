use Rattle.std.proofs.Common.{◌≡◌, ◌∙◌, ℕ, ◌+◌, Bool, false, ap, sym, subst, take, length, refl, arith}
use Rattle.std.specs.Prelude.{◌||◌, ◌&&◌, not}
use Rattle.std.specs.List.{fold}
use Rattle.std.proofs.lemmas.List.{length-take-le}
use Rattle.std.proofs.lemmas.List.Sums.{fold_more}
use Rattle.std.proofs.lemmas.Result.{on_ok_weaker}
use Rattle.std.proofs.Math.Seq.{take-length}
use Rattle.sloth_base.specs.declared.refusal.Part.TheVariants.{Src}
use Rattle.sloth_base.specs.declared.refusal.Code.TheVariants.{A1}
use Rattle.sloth_base.specs.Search.{Somewhere}
use Rattle.asm_lines.specs.Faults.{SourceCase, after_line, is_end_inside}
use Rattle.stage_faults.specs.Told.{Adds}
use Rattle.stage_faults.specs.ToldLines.{is_misplaced, any_misplaced, is_told_end, ToldLine, ToldAt}
use Rattle.stage_faults.proofs.Telling.{case_is, adds_both, adds_nowhere, adds_more, adds_end}
use Rattle.stage_faults.proofs.Misplaced.{any_more}
use Rattle.stage_faults.proofs.narrow.add_all.Goals as goal

pub loop-n-init : goal.loop-n-init
loop-n-init c = record { told = adds_nowhere Src ToldAt c.args.notes.now.items; inside = refl; earlier = refl }

pub loop-n-preserved : goal.loop-n-preserved
loop-n-preserved c =
    let xs = c.args.lines.now in
    let i = c.loop-n.n in
    let x = c.index-lines-n.result in
    let k = c.loop-n.invariant in
    let front = take i xs in
    let a = c.loop-n.notes.items in
    let b = c.add_faults.new.notes.items in
    let place : i ≡ length front = sym (length-take-le i xs c.loop-n.auto.n-end) in
    let one = subst (λ (t : Bool). Adds Src (ToldLine t c.loop-n.earlier (i + 1) x) a b) k.inside c.in_ok-add_faults.ensures in
    let two = subst (λ (t : Bool). Adds Src (ToldLine (is_end_inside front) t (i + 1) x) a b) k.earlier one in
    let found = subst (λ (n : ℕ). Adds Src (ToldLine (is_end_inside front) (any_misplaced false front) (n + 1) x) a b) place two in
    record {
      told = adds_more Src ToldAt xs i x c.args.notes.now.items a b c.loop-n-test.true c.index-lines-n.is k.told found;
      inside = c.after_line-inside.ensures ∙ (ap (λ t. after_line t x) k.inside
          ∙ (ap (after_line (fold after_line false front)) c.index-lines-n.is ∙ sym (fold_more after_line false xs i x c.loop-n-test.true)));
      earlier = c.is_earlier-earlier.ensures ∙ (ap (λ t. t || is_misplaced c.loop-n.inside x) k.earlier
          ∙ (ap (λ t. any_misplaced false front || is_misplaced t x) k.inside ∙ sym (any_more xs i x c.loop-n-test.true c.index-lines-n.is)));
    }

pub returns : goal.returns
returns c =
    let xs = c.args.lines.now in
    let k = c.loop-n.invariant in
    let a = c.args.notes.now.items in
    let b = c.loop-n.notes.items in
    let d = c.add_bare.new.notes.items in
    let e : c.loop-n.n ≡ length xs = omega arith in
    let all : take c.loop-n.n xs ≡ xs = ap (λ n. take n xs) e ∙ take-length xs in
    let end : c.is_open-open.result ≡ is_told_end xs =
    c.is_open-open.ensures ∙ (ap (λ t. t && not c.loop-n.earlier) (k.inside ∙ ap (fold after_line false) all)
    ∙ ap (λ t. is_end_inside xs && not t) (k.earlier ∙ ap (any_misplaced false) all)) in
    on_ok_weaker c.add_bare.result
    (λ told.
    adds_both Src (Somewhere ToldAt xs) (SourceCase (is_told_end xs) (length xs) A1) a b d (adds_end Src ToldAt xs c.loop-n.n a b e k.told)
    (case_is Src (is_told_end xs) c.is_open-open.result (length xs) A1 b d end (told Src)))
    c.add_bare.ensures
