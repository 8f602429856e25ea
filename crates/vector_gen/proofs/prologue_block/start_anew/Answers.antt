use Rattle.std.proofs.Common.{◌≡◌, List, [], ◌∷◌, ◌++◌, ap, ◌∙◌, append_assoc}
use Rattle.rv32_instr.specs.declared.InstrKind.{InstrKind}
use Rattle.rv32_instr.specs.declared.InstrKind.TheVariants.{Mret}
use Rattle.masked_code.specs.Pieces.{clearing_code, words_clearing_code}
use Rattle.vector_gen.specs.Pieces.{beginning_code}
use Rattle.vector_gen.proofs.prologue_block.start_anew.Goals as goal

four : (all old a b d e : List InstrKind) → all ≡ (((old ++ a) ++ b) ++ d) ++ e → all ≡ old ++ (a ++ (b ++ (d ++ e)))
four all old a b d e h = h ∙ append_assoc ((old ++ a) ++ b) d e ∙ append_assoc (old ++ a) b (d ++ e) ∙ append_assoc old a (b ++ (d ++ e))

pub returns : goal.returns
returns c =
    four c.put.new.code.items c.args.code.now.items (beginning_code c.args.frame c.args.first) (words_clearing_code c.args.words 0 2) (clearing_code 25 5) (Mret ∷ [])
    (c.in_ok-put.ensures ∙ ap (λ kind. c.clear.new.code.items ++ kind ∷ []) c.mret.ensures
    ∙ ap (λ (x : List InstrKind). x ++ Mret ∷ []) (c.in_ok-clear.ensures
    ∙ ap (λ (x : List InstrKind). x ++ clearing_code 25 5) (c.in_ok-clear_words.ensures
    ∙ ap (λ (x : List InstrKind). x ++ words_clearing_code c.args.words 0 2) c.in_ok-begin.ensures)))
