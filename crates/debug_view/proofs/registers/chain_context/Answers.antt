use Rattle.std.proofs.Common.{◌≡◌, ◌+◌, ◌-◌, ◌==◌, ◌∙◌, ⊎_elim, ap, sym, ℕ, false}
use Rattle.std.proofs.lemmas.Bool.Decides.{eqb_tells}
use Rattle.sloth_base.specs.Arithmetic.{sum32}
use Rattle.rv32_instr.specs.Memory.{Memory}
use Rattle.sloth_region.specs.Layout.{context_cur, context_below}
use Rattle.debug_view.specs.Contexts.{chain_context, word_or_zero}
use Rattle.debug_view.proofs.Linking.{link_more}
use Rattle.debug_view.proofs.registers.chain_context.Goals as goal

pub loop-left-preserved : goal.loop-left-preserved
loop-left-preserved c =
    let l = c.loop-left in
    let task = c.args.task in
    let linked : c.is_link.new.bus ≡ l.bus = c.is_link.ensures.same in
    let named : c.word_or_zero.result ≡ word_or_zero l.bus (sum32 l.address context_cur) =
    c.word_or_zero.ensures.word ∙ ap (λ (bus : Memory). word_or_zero bus (sum32 l.address context_cur)) linked in
    let read : c.word_or_zero.new.bus ≡ l.bus = c.word_or_zero.ensures.same ∙ linked in
    let next : c.word_or_zero-address.result ≡ word_or_zero l.bus (sum32 l.address context_below) =
    c.word_or_zero-address.ensures.word ∙ ap (λ (bus : Memory). word_or_zero bus (sum32 l.address context_below)) read in
    let last : c.word_or_zero-address.new.bus ≡ l.bus = c.word_or_zero-address.ensures.same ∙ read in
    let other : (c.word_or_zero.result == task + 1) ≡ false =
    ⊎_elim (λ u. absurd (c.if-word_or_zero-task.false u.1)) (λ u. u.0) (eqb_tells c.word_or_zero.result (task + 1)) in (
      ap (λ (bus : Memory). chain_context bus (l.left - 1) c.word_or_zero-address.result task) last
          ∙ ap (λ (at : ℕ). chain_context l.bus (l.left - 1) at task) next
          ∙ link_more l.bus l.left l.address task c.loop-left-test.true (sym c.is_link.ensures.is ∙ c.if-is_link.true) (ap (λ (n : ℕ). n == task + 1) (sym named) ∙ other)
          ∙ l.invariant.0,
      last ∙ l.invariant.1,
    )
