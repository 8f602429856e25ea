use Rattle.std.proofs.Common.{◌∙◌, ◌++◌, ◌∷◌, [], List, ℕ, append_assoc, ap}
use Rattle.std.specs.Prelude.{replicate}
use Rattle.std.proofs.lemmas.List.{replicate_more}
use Rattle.asm_parse.proofs.apps.padded_bytes.Goals as goal

pub loop-i-preserved : goal.loop-i-preserved
loop-i-preserved c =
    let first = c.args.first.now in
    let i = c.loop-i.i in
    c.in_ok-push.ensures ∙ ap (λ (l : List ℕ). l ++ 0 ∷ []) c.loop-i.invariant ∙ append_assoc first (replicate i 0) (0 ∷ [])
    ∙ ap (λ (l : List ℕ). first ++ l) (replicate_more i 0)
