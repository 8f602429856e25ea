-- Bodies that differ in the lists of their labels alone.
use Rattle.std.proofs.Common.{◌≡◌, ℕ, ◌<◌, inl, inr, List, [], ◌∷◌, length, map, get_or, sym, ap, ◌∙◌, arith}
use Rattle.std.proofs.Math.ListN.{get_or-map}
use Rattle.std.proofs.lemmas.List.{length-map, ext_get_or}
use Rattle.sloth_base.specs.declared.app.App.{App}
use Rattle.sloth_base.specs.declared.app.Func.{Func}
use Rattle.sloth_base.specs.declared.app.Label.{Label}
use Rattle.sloth_base.specs.Named.{no_function, function, no_label, label_of, item_of}
use Rattle.code_rules.specs.Code.{is_followed, way, IsPathStep, IsPath}
use Rattle.holds_infer.specs.Filling.{bare_label, bare_func, bare_app, SameButLists}

pub bare_label_of : (f : Func) (k : ℕ) → label_of (bare_func f) k ≡ bare_label (label_of f k)
bare_label_of f k = get_or-map bare_label f.labels k no_label

pub bare_function : (app : App) (b : ℕ) → function (bare_app app) b ≡ bare_func (function app b)
bare_function app b = get_or-map bare_func app.funcs b no_function

pub functions_same : (app other : App) → SameButLists app other → (b : ℕ) → bare_func (function app b) ≡ bare_func (function other b)
functions_same app other e b = sym (bare_function app b) ∙ ap (λ x. function x b) e ∙ bare_function other b

pub count_functions : (app other : App) → SameButLists app other → length app.funcs ≡ length other.funcs
count_functions app other e = sym (length-map app.funcs bare_func) ∙ ap (λ x. length x.funcs) e ∙ length-map other.funcs bare_func

module _ (f g : Func) (same : bare_func f ≡ bare_func g) where
  pub items_same : f.items ≡ g.items
  items_same = ap (λ x. x.items) same

  pub item_same : (i : ℕ) → item_of f i ≡ item_of g i
  item_same i = ap (λ x. item_of x i) same

  pub labels_same : (k : ℕ) → bare_label (label_of f k) ≡ bare_label (label_of g k)
  labels_same k = sym (bare_label_of f k) ∙ ap (λ x. label_of x k) same ∙ bare_label_of g k

  pub place_same : (k : ℕ) → (label_of f k).item ≡ (label_of g k).item
  place_same k = ap (λ x. x.item) (labels_same k)

  pub count_same : length f.labels ≡ length g.labels
  count_same = sym (length-map f.labels bare_label) ∙ ap (λ x. length x.labels) same ∙ length-map g.labels bare_label

  pub goes_same : (i j : ℕ) → IsPathStep f i j → IsPathStep g i j
  goes_same i j (inl a) = inl (ap (λ x. is_followed x.op) (sym (item_same i)) ∙ a.0, a.1)
  goes_same i j (inr a) = inr (a.0, ap (λ x. way x.op) (sym (item_same i)) ∙ a.1, a.2 ∙ place_same a.0)

  pub path_same : (i j : ℕ) (between : List ℕ) → IsPath f i between j → IsPath g i between j
  path_same i j [] p = p
  path_same i j (k ∷ between) p = (goes_same i k p.0, path_same k j between p.1)

  -- with the same lists the bodies are the same
  pub body_same : ((k : ℕ) → k < length f.labels → (label_of f k).holds ≡ (label_of g k).holds) → f ≡ g
  body_same h = ap (λ ls. record { name = f.name; line = f.line; task = f.task; frame_words = f.frame_words; items = f.items; labels = ls }) labels ∙ rest
    where
      label : (k : ℕ) → k < length f.labels → label_of f k ≡ label_of g k
      label k l =
          ap (λ (x : List ℕ). record { name = (label_of f k).name; line = (label_of f k).line; item = (label_of f k).item; holds = x }) (h k l)
          ∙ ap (λ (x : Label). record { name = x.name; line = x.line; item = x.item; holds = (label_of g k).holds }) (labels_same k)

      labels : f.labels ≡ g.labels
      labels = ext_get_or no_label f.labels g.labels count_same label

      rest : record { name = f.name; line = f.line; task = f.task; frame_words = f.frame_words; items = f.items; labels = g.labels } ≡ g
      rest = ap (λ (x : Func). record { name = x.name; line = x.line; task = x.task; frame_words = x.frame_words; items = x.items; labels = g.labels }) same

-- bodies that are the same one by one but for their lists
pub same_bodies : (fs gs : List Func) → length gs ≡ length fs → ((b : ℕ) → b < length fs → bare_func (get_or fs b no_function) ≡ bare_func (get_or gs b no_function))
    → map bare_func fs ≡ map bare_func gs
same_bodies fs gs count each =
    ext_get_or (bare_func no_function) (map bare_func fs) (map bare_func gs) (length-map fs bare_func ∙ sym count ∙ sym (length-map gs bare_func))
    (λ b l.
    let m : b < length fs = let n = length-map fs bare_func in omega (arith, n, l) in
    get_or-map bare_func fs b no_function ∙ each b m ∙ sym (get_or-map bare_func gs b no_function))

-- with the same bodies all is the same
pub app_same : (app other : App) → SameButLists app other → ((b : ℕ) → b < length app.funcs → function app b ≡ function other b) → app ≡ other
app_same app other e h =
    ap (λ fs. record { funcs = fs; symbols = app.symbols }) (ext_get_or no_function app.funcs other.funcs (count_functions app other e) h)
    ∙ ap (λ (x : App). record { funcs = other.funcs; symbols = x.symbols }) e
