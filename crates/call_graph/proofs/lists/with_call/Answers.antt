use Rattle.std.proofs.Common.{ℕ, ◌<◌, ap, sym, subst, ◌∙◌, refl}
use Rattle.std.proofs.lemmas.Bool.{eq-eqb}
use Rattle.call_graph.specs.Rows.{is_call}
use Rattle.call_graph.proofs.lists.with_call.Goals as goal

pub with-requires : goal.with-requires
with-requires c =
    let g = c.in-Invoke.func in
    subst (λ (n : ℕ). n < 64) (sym c.func.view_is) (c.requires g (ap (is_call g) c.in-Invoke.is ∙ eq-eqb g g refl))
