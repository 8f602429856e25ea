use Rattle.std.proofs.Common.{◌≡◌, List, [], ◌∷◌, ◌++◌, ap, ◌∙◌, append_assoc}
use Rattle.rv32_instr.specs.declared.InstrKind.{InstrKind}
use Rattle.rv32_instr.specs.declared.InstrKind.TheVariants.{Mret}
use Rattle.masked_code.specs.Kernel.{idle_loop_test, taking_up_code}
use Rattle.masked_code.specs.Pieces.{restoring_code}
use Rattle.block_parts.proofs.pieces.leave.Goals as goal

four : (all old first second third last : List InstrKind) → all ≡ (((old ++ first) ++ second) ++ third) ++ last → all ≡ old ++ (first ++ (second ++ (third ++ last)))
four all old first second third last e =
    e ∙ append_assoc ((old ++ first) ++ second) third last ∙ append_assoc (old ++ first) second (third ++ last) ∙ append_assoc old first (second ++ (third ++ last))

pub returns : goal.returns
returns c =
    four c.put-2.new.code.items c.args.code.now.items taking_up_code idle_loop_test (restoring_code 27 5 1) (Mret ∷ [])
    (c.in_ok-put-2.ensures ∙ ap (λ kind. c.restore.new.code.items ++ kind ∷ []) c.mret.ensures
    ∙ ap (λ (x : List InstrKind). x ++ Mret ∷ []) (c.in_ok-restore.ensures
    ∙ ap (λ (x : List InstrKind). x ++ restoring_code 27 5 1) (c.in_ok-put.ensures ∙ ap (λ kind. c.take_up.new.code.items ++ kind ∷ []) (rw c.past.ensures at c.beq.ensures) ∙ ap (λ (x : List InstrKind). x ++ idle_loop_test) c.in_ok-take_up.ensures)))
