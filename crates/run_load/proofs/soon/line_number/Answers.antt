use Rattle.std.proofs.Common.{◌≡◌, ◌∙◌, ℕ, List, length, map, sym, ap}
use Rattle.std.specs.Borrow.{Bor}
use Rattle.std.proofs.lemmas.List.{length-map}
use Rattle.text_pieces.specs.Names.{referent}
use Rattle.text_pieces.specs.Lines.{lines}
use Rattle.run_load.specs.Soon.{line_among}
use Rattle.run_load.proofs.soon.line_number.Goals as goal

pub returns : goal.returns
returns c =
    let read : List (Bor (List ℕ)) = c.as_slice.result.now in
    let same : map referent read ≡ lines c.args.text.now = ap (map referent) c.as_slice.ensures.value ∙ c.in_ok-lines.ensures in
    c.line_among.ensures
    ∙ (ap (λ k. line_among k c.args.place (map referent read)) (sym (length-map read referent))
    ∙ ap (λ ls. line_among (length ls) c.args.place ls) same)
