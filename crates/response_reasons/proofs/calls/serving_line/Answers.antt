use Rattle.std.proofs.Common.{◌≡◌, ◌∙◌, ℕ, ◌+◌, ◌<◌, ◌≤◌, List, length, Option, ap, sym, subst, arith}
use Rattle.run_windows.specs.RunWindows.{IsLeastOf}
use Rattle.run_windows.proofs.Leasts.{Below, none_below, one_below_more}
use Rattle.walk_sums.proofs.Bodily.{facts_of}
use Rattle.response_reasons.specs.Calls.{server_line}
use Rattle.response_reasons.proofs.Servers.{IsServer, server_least, all_served}
use Rattle.response_reasons.proofs.calls.serving_line.Goals as goal

pub loop-k-init : goal.loop-k-init
loop-k-init c = let w = c.args.walks.now in none_below (IsServer w.config w.app c.args.costs.now c.args.h c.args.counted)

pub loop-k-preserved : goal.loop-k-preserved
loop-k-preserved c =
    let w = c.args.walks.now in
    let costs = c.args.costs.now in
    let h = c.args.h in
    let counted = c.args.counted in
    let k = c.loop-k.k in
    let lines = c.in_ok-lines.lines.items in
    let lt = subst (λ (n : ℕ). k < n) c.tasks-k-end.ensures.is c.loop-k-test.true in
    let same : c.server_line.result ≡ server_line w.app costs h lines k = c.server_line.ensures ∙ ap (λ (l : List (Option ℕ)). server_line w.app costs h l k) c.deref.ensures.value in
    let here : IsLeastOf (IsServer w.config w.app costs h counted k) c.server_line.result =
    subst (IsLeastOf (IsServer w.config w.app costs h counted k)) (sym same)
    (server_least w.config w.app costs h (facts_of w.config w.app c.tasks-k-end.ensures.well_formed) counted lines c.in_ok-lines.ensures k lt) in
    subst (IsLeastOf (Below (IsServer w.config w.app costs h counted) (k + 1))) (sym c.lesser-least.ensures)
    (one_below_more (IsServer w.config w.app costs h counted) k c.loop-k.least c.server_line.result c.loop-k.invariant here)

pub returns : goal.returns
returns c =
    let w = c.args.walks.now in
    let costs = c.args.costs.now in
    let over = subst (λ (n : ℕ). n ≤ c.loop-k.k) c.tasks-k-end.ensures.is c.loop-k-test.false in
    let most = subst (λ (n : ℕ). c.loop-k.k ≤ n) c.tasks-k-end.ensures.is c.loop-k.auto.k-end in
    let same : c.loop-k.k ≡ length w.config.tasks = omega (arith, over, most) in
    all_served w.config w.app costs c.args.h c.args.counted c.loop-k.least
    (subst (λ n. IsLeastOf (Below (IsServer w.config w.app costs c.args.h c.args.counted) n) c.loop-k.least) same c.loop-k.invariant)
