use Rattle.std.proofs.Common.{◌≡◌, ◌∙◌, ◌+◌, ◌<◌, List, length, get_or, ap, sym, subst, arith}
use Rattle.sloth_base.specs.declared.app.App.{App}
use Rattle.sloth_base.specs.declared.app.Func.{Func}
use Rattle.sloth_base.specs.Named.{function}
use Rattle.bound_rules.specs.declared.bound.Body.{Body}
use Rattle.run_windows.specs.RunWindows.{IsLeastOf}
use Rattle.run_windows.proofs.Leasts.{Below, none_below, one_below_more}
use Rattle.walk_sums.specs.KnownBodies.{no_body}
use Rattle.walk_sums.proofs.Bodily.{facts_of}
use Rattle.response_reasons.specs.Calls.{item_line}
use Rattle.response_reasons.proofs.CallLines.{IsItemLine, all_lines, item_least}
use Rattle.response_reasons.proofs.calls.function_line.Goals as goal

pub numbered_function-func-requires : goal.numbered_function-func-requires
numbered_function-func-requires c = subst (λ (a : App). c.args.number < length a.funcs) (sym c.app.ensures.is) c.requires.known

pub numbered_body-body-requires : goal.numbered_body-body-requires
numbered_body-body-requires c =
    let known = c.requires.known in
    let count = c.bodies.ensures.walked.bodies.count in
    subst (λ (b : List Body). c.args.number < length b) (sym c.bodies.ensures.is) (omega (arith, known, count))

pub loop-item-init : goal.loop-item-init
loop-item-init c = none_below (IsItemLine c.args.walks.now.app c.args.counted c.args.number)

pub loop-item-preserved : goal.loop-item-preserved
loop-item-preserved c =
    let w = c.args.walks.now in
    let f = c.args.number in
    let counted = c.args.counted in
    let i = c.loop-item.item in
    let least = c.loop-item.least in
    let lines = c.args.lines.now in
    let func : c.numbered_function-func.result.now ≡ function w.app f = c.numbered_function-func.ensures ∙ ap (λ (a : App). function a f) c.app.ensures.is in
    let body : c.numbered_body-body.result.now ≡ get_or w.bodies f no_body = c.numbered_body-body.ensures ∙ ap (λ (b : List Body). get_or b f no_body) c.bodies.ensures.is in
    let before : i < length c.items-item-end.result.now = c.loop-item-test.true in
    let one : length c.items-item-end.result.now ≡ length c.numbered_function-func.result.now.items = ap length c.items-item-end.ensures in
    let two : length c.numbered_function-func.result.now.items ≡ length (function w.app f).items = ap (λ (g : Func). length g.items) func in
    let lt : i < length (function w.app f).items = omega (arith, before, one, two) in
    let same : c.item_line.result ≡ item_line counted (function w.app f) (get_or w.bodies f no_body) lines i =
    c.item_line.ensures
    ∙ (ap (λ (b : Body). item_line counted c.numbered_function-func.result.now b lines i) body
    ∙ ap (λ (g : Func). item_line counted g (get_or w.bodies f no_body) lines i) func) in
    let here : IsLeastOf (IsItemLine w.app counted f i) c.item_line.result =
    subst (IsLeastOf (IsItemLine w.app counted f i)) (sym same)
    (item_least w.config w.app (facts_of w.config w.app c.app.ensures.well_formed) counted f c.requires.known (get_or w.bodies f no_body)
    (c.bodies.ensures.walked.bodies.each f c.requires.known) lines c.requires.called i lt) in
    subst (IsLeastOf (Below (IsItemLine w.app counted f) (i + 1))) (sym c.lesser-least.ensures)
    (one_below_more (IsItemLine w.app counted f) i least c.item_line.result c.loop-item.invariant here)

pub returns : goal.returns
returns c =
    let w = c.args.walks.now in
    let f = c.args.number in
    let func : c.numbered_function-func.result.now ≡ function w.app f = c.numbered_function-func.ensures ∙ ap (λ (a : App). function a f) c.app.ensures.is in
    let over = c.loop-item-test.false in
    let most = c.loop-item.auto.item-end in
    let one : length c.items-item-end.result.now ≡ length c.numbered_function-func.result.now.items = ap length c.items-item-end.ensures in
    let two : length c.numbered_function-func.result.now.items ≡ length (function w.app f).items = ap (λ (g : Func). length g.items) func in
    let same : c.loop-item.item ≡ length (function w.app f).items = omega (arith, over, most, one, two) in
    all_lines w.config w.app (facts_of w.config w.app c.app.ensures.well_formed) c.args.counted f c.requires.known (get_or w.bodies f no_body)
    (c.bodies.ensures.walked.bodies.each f c.requires.known) c.args.lines.now c.requires.called c.loop-item.least
    (subst (λ n. IsLeastOf (Below (IsItemLine w.app c.args.counted f) n) c.loop-item.least) same c.loop-item.invariant)
