use Rattle.std.proofs.Common.{◌∙◌, ℕ, Bool, [], ◌∷◌, ◌++◌, codes, ap, sym}
use Rattle.std.proofs.lemmas.Result.{on_ok_weaker}
use Rattle.map_text.specs.PieceNames.{joined}
use Rattle.symbol_image.specs.Symbols.{scheduler_words, word_symbol}
use Rattle.symbol_image.proofs.symbol.push_scheduler.Goals as goal

pub returns-then-exists : goal.returns-then-exists
returns-then-exists c =
    let symbols = c.args.all.now.items in
    on_ok_weaker c.push_word.result
    (λ h. h ∙ (ap (λ (n : ℕ). symbols ++ word_symbol (joined (codes "saved") (codes "RES_SCHEDULER")) n ∷ []) c.scheduler_level-level.ensures
    ∙ ap (λ (exists : Bool). symbols ++ scheduler_words exists) (sym c.if-exists.true)))
    c.push_word.ensures
