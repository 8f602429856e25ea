-- What task code in range says of numbers.
use Rattle.std.proofs.Common.{ℕ, ◌<◌, ◌≤◌, ⊎_elim, length, get_or, ap, arith}
use Rattle.std.proofs.lemmas.List.{get_or_past}
use Rattle.std.proofs.lemmas.List.Sums.{sum-map, get_or-le-sum_by}
use Rattle.std.proofs.lemmas.Bool.{cases_lt}
use Rattle.sloth_base.specs.Named.{function, no_function}
use Rattle.sloth_base.specs.declared.app.App.{App}
use Rattle.sloth_base.specs.declared.app.Func.{Func}
use Rattle.sloth_base.specs.declared.app.Label.{Label}
use Rattle.sloth_base.specs.Named.{label_of, no_label}
use Rattle.sloth_base.specs.Limits.{frame_limit}
use Rattle.code_rules.specs.AppRange.{IsTaskCode}
use Rattle.rv32_expand.specs.Passes.{IsCountable}

-- a frame has no more words than the limit
pub frame_of : (app : App) → IsTaskCode app → (func : ℕ) → (function app func).frame_words ≤ frame_limit
frame_of app code func =
    ⊎_elim
    (λ (h : func < length app.funcs). let b = code.1.bodies func no_function h in b.frame)
    (λ (h : length app.funcs ≤ func). let e = ap (λ (f : Func). f.frame_words) (get_or_past app.funcs func no_function h) in omega (arith, e))
    (cases_lt func (length app.funcs))

label_in : (body : Func) → ((k : ℕ) → k < length body.labels → (label_of body k).item ≤ length body.items) → (k : ℕ) → (label_of body k).item ≤ length body.items
label_in body inside k =
    ⊎_elim (λ h. inside k h)
    (λ (h : length body.labels ≤ k). let e = ap (λ (l : Label). l.item) (get_or_past body.labels k no_label h) in omega (arith, e))
    (cases_lt k (length body.labels))

-- the words of each body can be counted, and its labels are in it
pub small : (app : App) (code : IsTaskCode app) (func : ℕ) (d : Func) → func < length app.funcs → IsCountable app (get_or app.funcs func d)
small app code func d h =
    let b = code.1.bodies func d h in
    record {
      frames = frame_of app code;
      items =
          let l = code.1.limits.few_items in
          let o = get_or-le-sum_by (λ (f : Func). length f.items) app.funcs func d h in
          let s = sum-map (λ (f : Func). length f.items) app.funcs in
          omega (arith, l, o, s);
      labels = λ label. label_in (get_or app.funcs func d) (λ k l. let p = b.labels k no_label l in p.place) label;
    }
