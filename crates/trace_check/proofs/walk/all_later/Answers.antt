use Rattle.std.proofs.Common.{◌≡◌, ◌∙◌, ℕ, true, sym, subst, get_or, arith}
use Rattle.std.specs.Prelude.{◌==◌, ◌||◌, not, ltb}
use Rattle.std.specs.Int.{bit_at}
use Rattle.sloth_base.specs.MemoryMap.{line_count}
use Rattle.osek_scheduler.specs.Next.{all_below}
use Rattle.osek_machine.proofs.Below.{not_all}
use Rattle.trace_check.specs.Moments.{all_later}
use Rattle.trace_check.proofs.walk.all_later.Goals as goal

pub returns-then-not-is_later : goal.returns-then-not-is_later
unfolding all_later
returns-then-not-is_later c =
    sym (not_all 32 c.loop-line.line (λ u. not (bit_at c.args.row u == 1) || ltb c.args.count (get_or c.args.moments.now u 0)) c.loop-line-test.true
    (sym c.is_later.ensures ∙ c.if-not-is_later.true))

pub returns : goal.returns
unfolding all_later
returns c =
    let past = c.loop-line-test.false in
    let within = c.loop-line.auto.line-end in
    let all : c.loop-line.line ≡ line_count = omega (arith, past, within) in
    let P : ℕ → Type 0 = λ n. all_below n (λ u. not (bit_at c.args.row u == 1) || ltb c.args.count (get_or c.args.moments.now u 0)) ≡ true in
    sym (subst P all c.loop-line.invariant)
