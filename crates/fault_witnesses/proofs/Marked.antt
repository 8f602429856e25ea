-- Places at which all labels say what is held.
use Rattle.std.proofs.Common.{◌≡◌, ◌∙◌, ℕ, ◌+◌, ◌<◌, Bool, true, false, List, get_or, ⊎_elim, sym, ap, subst, arith}
use Rattle.std.proofs.lemmas.Bool.{cases_lt}
use Rattle.sloth_base.specs.declared.app.Func.{Func}
use Rattle.sloth_base.specs.declared.app.Label.{Label}
use Rattle.sloth_base.specs.Named.{label_of}
use Rattle.code_rules.specs.Code.{held_list_at}

-- what is judged of the first n labels
abbrev pub AreJudged : Func → ℕ → List Bool → Type 0
AreJudged f n marks = (k : ℕ) → get_or marks k false ≡ true → (l : ℕ) → l < n → (label_of f l).item ≡ k → (label_of f l).holds ≡ held_list_at f k

pub judged_one : (f : Func) (n : ℕ) (old new : List Bool) (label : Label) → label ≡ label_of f n
    → ((k : ℕ) → get_or new k false ≡ true → get_or old k false ≡ true) → (get_or new label.item false ≡ true → label.holds ≡ held_list_at f label.item)
    → AreJudged f n old → AreJudged f (n + 1) new
judged_one f n old new label is kept agreed before k t l less at = ⊎_elim
    (λ lt. before k (kept k t) l lt at)
    (λ ge.
    let same : l ≡ n = omega (arith, less, ge) in
    let own : label ≡ label_of f l = is ∙ ap (label_of f) (sym same) in
    let place : label.item ≡ k = ap (λ (x : Label). x.item) own ∙ at in
    sym (ap (λ (x : Label). x.holds) own) ∙ agreed (subst (λ p. get_or new p false ≡ true) (sym place) t) ∙ ap (held_list_at f) place)
    (cases_lt l n)
