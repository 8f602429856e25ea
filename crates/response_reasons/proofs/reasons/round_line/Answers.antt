use Rattle.std.proofs.Common.{◌∙◌, inl, inr, refl, sym}
use Rattle.std.proofs.lemmas.Result.{IfOk-weaker}
use Rattle.std.proofs.lemmas.Bool.Decides.{not_from_Decides}
use Rattle.run_windows.specs.RunWindows.{IsLeastOf}
use Rattle.walk_sums.specs.declared.levels.Kind.TheVariants as kinds
use Rattle.response_reasons.specs.Loops.{HasTurnLoop}
use Rattle.response_reasons.specs.Reasons.{HasRoundLoop}
use Rattle.response_reasons.proofs.RoundLoops.{of_rounds, of_turns}
use Rattle.response_reasons.proofs.reasons.round_line.Goals as goal

pub turn_line-requires-clause-summed : goal.turn_line-requires-clause-summed
turn_line-requires-clause-summed c = inr (inl (refl, inr refl))

pub turn_line-requires-else-is_marked-clause-summed : goal.turn_line-requires-else-is_marked-clause-summed
turn_line-requires-else-is_marked-clause-summed c = inr (inl (refl, inl refl))

pub returns-then-is_marked : goal.returns-then-is_marked
returns-then-is_marked c =
    let w = c.args.walks.now in
    let weights = c.args.weights.now in
    let k = c.args.k in
    IfOk-weaker c.turn_line.result (IsLeastOf (HasTurnLoop w.config w.app weights kinds.Rounds k)) (IsLeastOf (HasRoundLoop w.config w.app weights k))
    (λ line l. of_rounds w.config w.app weights k line (c.requires.clean.0 (sym c.is_marked.ensures ∙ c.if-is_marked.true)) l) c.turn_line.ensures

pub returns-else-is_marked : goal.returns-else-is_marked
returns-else-is_marked c =
    let w = c.args.walks.now in
    let weights = c.args.weights.now in
    let k = c.args.k in
    IfOk-weaker c.turn_line-else-is_marked.result (IsLeastOf (HasTurnLoop w.config w.app weights kinds.Turns k)) (IsLeastOf (HasRoundLoop w.config w.app weights k))
    (λ line l. of_turns w.config w.app weights k line (not_from_Decides _ c.requires.clean (sym c.is_marked.ensures ∙ c.if-is_marked.false)) l) c.turn_line-else-is_marked.ensures
