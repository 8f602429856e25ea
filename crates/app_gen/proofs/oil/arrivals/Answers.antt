use Rattle.std.proofs.Common.{◌≡◌, ◌∙◌, ◌+◌, ◌*◌, ◌%◌, refl, sym, ap, arith}
use Rattle.app_gen.specs.Draws.{draw, next_draw}
use Rattle.app_gen.specs.Load.{high_bits, gap, moment_before, line_of, first_arrivals}
use Rattle.app_gen.proofs.Steps.{draw_next}
use Rattle.app_gen.proofs.Moments.{moment_bound, moment_next, one_more}
use Rattle.app_gen.proofs.oil.arrivals.Goals as goal

pub overflow_add-at : goal.overflow_add-at
overflow_add-at c =
    let m = moment_bound c.args.draws.now c.loop-number._number in
    let at = c.loop-number.invariant.1 in
    let g = c.gap-at.ensures.short in omega (arith, m, at, g)

pub loop-number-init : goal.loop-number-init
unfolding draw moment_before first_arrivals
loop-number-init c = (refl, refl, c.new-arrivals.ensures.items)

pub loop-number-preserved : goal.loop-number-preserved
unfolding gap line_of
loop-number-preserved c =
    let x = c.args.draws.now in
    let k = c.loop-number._number in
    let before : c.loop-number.draws ≡ draw x (2 * k) = c.loop-number.invariant.0 in
    let first = c.next.ensures.drawn ∙ ap next_draw before ∙ sym (draw_next x (2 * k)) in
    let second = c.next-in-loop-number.ensures.drawn ∙ ap next_draw (c.next.ensures.last ∙ first) ∙ sym (draw_next x (2 * k + 1)) in
    let pair : 2 * k + 1 + 1 ≡ 2 * k + 2 = omega arith in
    let at = ap (λ m. m + c.gap-at.result) c.loop-number.invariant.1
    ∙ ap (λ g. moment_before x k + g) (c.gap-at.ensures.is ∙ ap (λ d. 1 + high_bits d % 900) first) in
    let line = c.line-line.ensures ∙ ap (λ d. high_bits d % c.args.tasks) (second ∙ ap (draw x) pair) in (
      c.next-in-loop-number.ensures.last ∙ second ∙ ap (draw x) (omega arith),
      at ∙ sym (moment_next x k),
      one_more x c.args.tasks k _ _ _ _ c.in_ok-push.ensures at line c.loop-number.invariant.2,
    )
