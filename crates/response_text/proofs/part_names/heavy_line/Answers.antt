use Rattle.std.proofs.Common.{◌≡◌, ◌∙◌, ℕ, ◌+◌, List, length, get_or, ap, sym, subst, arith}
use Rattle.sloth_base.specs.declared.app.Func.{Func}
use Rattle.sloth_base.specs.Named.{function}
use Rattle.bound_rules.specs.declared.bound.BodyWeights.{BodyWeights}
use Rattle.bound_rules.specs.Weights.{no_weights}
use Rattle.run_windows.specs.RunWindows.{IsLeastOf}
use Rattle.run_windows.proofs.Leasts.{Below, none_below, one_below_more}
use Rattle.response_text.specs.PartNames.{HasNumber}
use Rattle.response_text.proofs.part_names.heavy_line.Goals as goal

pub weights_at-own-requires : goal.weights_at-own-requires
weights_at-own-requires c =
    let lt = c.loop-number-test.true in
    let one : length c.items-number-end.result.now ≡ length c.args.app.now.funcs = ap length c.items-number-end.ensures in
    let count = c.requires.count in
    omega (arith, lt, one, count)

pub loop-number-init : goal.loop-number-init
loop-number-init c = none_below (λ f. HasNumber (function c.args.app.now f) (get_or c.args.weights.now f no_weights).ending c.args.late)

pub loop-number-preserved : goal.loop-number-preserved
loop-number-preserved c =
    let app = c.args.app.now in
    let weights = c.args.weights.now in
    let late = c.args.late in
    let number = c.loop-number.number in
    let line = c.body_line-line.result in
    let Kind : ℕ → ℕ → Type 0 = λ f. HasNumber (function app f) (get_or weights f no_weights).ending late in
    let ending : c.items.result.now ≡ (get_or weights number no_weights).ending = c.items.ensures ∙ ap (λ (w : BodyWeights). w.ending) c.weights_at-own.ensures in
    let here : IsLeastOf (Kind number) line =
    subst (λ (l : List ℕ). IsLeastOf (HasNumber (function app number) l late) line) ending
    (subst (λ (f : Func). IsLeastOf (HasNumber f c.items.result.now late) line) c.numbered_function.ensures c.body_line-line.ensures) in
    subst (IsLeastOf (Below Kind (number + 1))) (sym c.lesser-least.ensures) (one_below_more Kind number c.loop-number.least line c.loop-number.invariant here)

pub returns : goal.returns
returns c =
    let over = c.loop-number-test.false in
    let most = c.loop-number.auto.number-end in
    let one : length c.items-number-end.result.now ≡ length c.args.app.now.funcs = ap length c.items-number-end.ensures in
    let same : c.loop-number.number ≡ length c.args.app.now.funcs = omega (arith, over, most, one) in
    subst (λ n. IsLeastOf (Below (λ f. HasNumber (function c.args.app.now f) (get_or c.args.weights.now f no_weights).ending c.args.late) n) c.loop-number.least) same
    c.loop-number.invariant
