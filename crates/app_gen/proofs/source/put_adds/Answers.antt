use Rattle.std.proofs.Common.{◌≡◌, ℕ, List, ◌*◌, ◌%◌, ◌++◌, ◌∙◌, ap, append_assoc}
use Rattle.std.specs.Prelude.{codes, decimal}
use Rattle.std.proofs.lemmas.Result.{on_ok_weaker}
use Rattle.app_gen.specs.Pieces.{number_behind}
use Rattle.app_gen.specs.Source.{adding_text}
use Rattle.app_gen.proofs.source.put_adds.Goals as goal

regrouped : (a b c d e f g h : List ℕ) → a ++ b ++ c ++ d ++ e ++ f ++ g ++ h ≡ a ++ b ++ c ++ (d ++ e) ++ (f ++ g) ++ h
regrouped a b c d e f g h = simp append_assoc

pub returns : goal.returns
unfolding adding_text number_behind
returns c =
    let old = c.args.text.now.items in
    let r = decimal (c.args.task % 4) in
    let same =
    regrouped (codes "GetResource R") r (codes "\nlw t1, tab[t0 & 252]\nadd t1, t1, t0\n") (codes "sw t1, tab+") (decimal (4 * c.args.task)) (codes "\nReleaseResource R") r (codes "\n") in
    on_ok_weaker c.line.result (λ h. h ∙ ap (λ t. old ++ t) same) c.line.ensures
