use Rattle.std.proofs.Common.{◌≡◌, ◌∙◌, ℕ, ◌+◌, ◌<◌, ◌≤◌, ◌⊎◌, List, length, get_or, Option, ap, sym, subst, arith}
use Rattle.sloth_base.specs.declared.app.Func.{Func}
use Rattle.sloth_base.specs.Named.{function, operation, item_of}
use Rattle.bound_rules.specs.declared.bound.Body.{Body}
use Rattle.run_windows.specs.Costs.{lesser}
use Rattle.run_windows.specs.RunWindows.{IsLeastOf}
use Rattle.run_windows.proofs.Leasts.{Below, none_below, least_either, one_below_more}
use Rattle.walk_sums.specs.declared.graph.Ways.{Ways}
use Rattle.walk_sums.specs.Graph.{AreInside}
use Rattle.walk_sums.specs.KnownBodies.{no_body}
use Rattle.response_reasons.specs.LoopCode.{LoopCode, IsLoopCode, IsLineOfLoop, called_line}
use Rattle.response_reasons.proofs.Items.{IsLoopLine, IsCalledLine, IsItemLine, all_lines, twice_inside, loop_line, called_least}
use Rattle.response_reasons.proofs.loops.Loops.line.Goals as goal

pub own_line-requires-clause-inside : goal.own_line-requires-clause-inside
own_line-requires-clause-inside c =
    subst AreInside (sym c.deref.ensures.value)
    (twice_inside c.args.self.now (subst IsLoopCode c.self.view_is c.self.invariant) c.args.level c.args.number c.requires.known c.in_ok-twice.twice.items c.in_ok-twice.ensures)

pub loop-item-init : goal.loop-item-init
loop-item-init c =
    let v = c.args.self.now in
    none_below (IsItemLine v.walks.config v.walks.app v.weights v.kind c.args.level c.args.number)

pub loop-item-preserved : goal.loop-item-preserved
loop-item-preserved c =
    let v = c.args.self.now in
    let number = c.args.number in
    let level = c.args.level in
    let i = c.loop-item.item in
    let least = c.loop-item.least in
    let here = c.in_ok-here.here in
    let called = c.called_line-called.result in
    let whole = c.args.whole.now in
    let own = c.args.own.now in
    let is = subst IsLoopCode c.self.view_is c.self.invariant in
    let func : c.numbered_function-func.result.now ≡ function v.walks.app number =
    c.numbered_function-func.ensures ∙ ap (λ (x : LoopCode). function x.walks.app number) c.self.view_is in
    let body : c.numbered_body-body.result.now ≡ get_or v.walks.bodies number no_body =
    c.numbered_body-body.ensures ∙ ap (λ (x : LoopCode). get_or x.walks.bodies number no_body) c.self.view_is in
    let before : i < length c.items-item-end.result.now = c.loop-item-test.true in
    let one : length c.items-item-end.result.now ≡ length c.numbered_function-func.result.now.items = ap length c.items-item-end.ensures in
    let two : length c.numbered_function-func.result.now.items ≡ length (function v.walks.app number).items = ap (λ (f : Func). length f.items) func in
    let lt : i < length (function v.walks.app number).items = omega (arith, before, one, two) in
    let found : IsLeastOf (IsLineOfLoop (function v.walks.app number) c.in_ok-twice.twice.items i) here =
    subst (λ (f : Func). IsLeastOf (IsLineOfLoop f c.in_ok-twice.twice.items i) here) func
    (subst (λ (w : List Ways). IsLeastOf (IsLineOfLoop c.numbered_function-func.result.now w i) here) c.deref.ensures.value c.in_ok-here.ensures) in
    let mine = loop_line v is level number c.requires.known c.in_ok-twice.twice.items c.in_ok-twice.ensures i lt here found in
    let same : called ≡ called_line (get_or v.walks.bodies number no_body) level whole own i (item_of (function v.walks.app number) i).op =
    c.called_line-called.ensures
    ∙ (ap (λ (b : Body). called_line b level whole own i (item_of c.numbered_function-func.result.now i).op) body
    ∙ ap (λ (f : Func). called_line (get_or v.walks.bodies number no_body) level whole own i (item_of f i).op) func) in
    let theirs : IsLeastOf (IsCalledLine v.walks.config v.walks.app v.weights v.kind level number i) called =
    subst (IsLeastOf (IsCalledLine v.walks.config v.walks.app v.weights v.kind level number i)) (sym same)
    (called_least v is level number c.requires.known whole own c.requires.whole c.requires.own i lt) in
    let both = least_either (IsLoopLine v.walks.config v.walks.app v.weights v.kind level number i) (IsCalledLine v.walks.config v.walks.app v.weights v.kind level number i)
    here called mine theirs in
    let next = one_below_more (IsItemLine v.walks.config v.walks.app v.weights v.kind level number) i least (lesser here called) c.loop-item.invariant both in
    subst (IsLeastOf (Below (IsItemLine v.walks.config v.walks.app v.weights v.kind level number) (i + 1))) (sym (c.lesser-least.ensures ∙ ap (lesser least) c.lesser.ensures)) next

pub returns : goal.returns
returns c =
    let v = c.args.self.now in
    let number = c.args.number in
    let func : c.numbered_function-func.result.now ≡ function v.walks.app number =
    c.numbered_function-func.ensures ∙ ap (λ (x : LoopCode). function x.walks.app number) c.self.view_is in
    let over = c.loop-item-test.false in
    let most = c.loop-item.auto.item-end in
    let one : length c.items-item-end.result.now ≡ length c.numbered_function-func.result.now.items = ap length c.items-item-end.ensures in
    let two : length c.numbered_function-func.result.now.items ≡ length (function v.walks.app number).items = ap (λ (f : Func). length f.items) func in
    let same : c.loop-item.item ≡ length (function v.walks.app number).items = omega (arith, over, most, one, two) in
    all_lines v.walks.config v.walks.app v.weights v.kind c.args.level number c.loop-item.least
    (subst (λ n. IsLeastOf (Below (IsItemLine v.walks.config v.walks.app v.weights v.kind c.args.level number) n) c.loop-item.least) same c.loop-item.invariant)
