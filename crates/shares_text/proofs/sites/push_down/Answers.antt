use Rattle.std.proofs.Common.{◌+◌, ◌-◌, ◌++◌, List, filter, ap, sym, ◌∙◌}
use Rattle.std.proofs.lemmas.List.{append_assoc}
use Rattle.shares_text.specs.declared.sites.CallSite.{CallSite}
use Rattle.shares_text.specs.Sites.{is_of_rank, down_from}
use Rattle.shares_text.proofs.Gathering.{down_step}
use Rattle.shares_text.proofs.sites.push_down.Goals as goal

pub loop-step-preserved : goal.loop-step-preserved
loop-step-preserved c =
    let ranks = c.args.ranks.now in
    let calls = c.args.calls.now in
    let n = c.args.top - c.loop-step.step in
    let rest = down_from ranks calls (c.args.top - (c.loop-step.step + 1)) in
    ap (λ (l : List CallSite). l ++ rest) c.in_ok-push_rank.ensures
    ∙ (append_assoc c.loop-step.ordered.items (filter (is_of_rank ranks n) calls) rest
    ∙ (sym (ap (λ (l : List CallSite). c.loop-step.ordered.items ++ l) (down_step ranks calls c.args.top c.loop-step.step c.loop-step-test.true)) ∙ c.loop-step.invariant))
