use Rattle.std.proofs.Common.{rules, ◌≡◌, ◌∙◌, ℕ, Some, None, refl, sym, ap, subst}
use Rattle.std.specs.Prelude.{Option}
use Rattle.walk_sums.specs.declared.sections.Sum.{Sum}
use Rattle.walk_sums.specs.declared.sections.Sum.TheVariants as sum
use Rattle.run_windows.specs.Costs.{lesser}
use Rattle.run_costs.specs.Rounds.{with_entry, round_cost, many}
use Rattle.run_costs.proofs.record.round_cost.Goals as goal

-- by the lesser of what the load says and the sum, if one has a limit
abbrev with_lesser : (entry : ℕ) → Option ℕ → Option ℕ
with_lesser entry None = None
with_lesser entry (Some own) = with_entry entry own

round_is : (entry : ℕ) (work : Option ℕ) (s : Sum) → with_lesser entry (lesser work (many s)) ≡ round_cost entry work s
round_is entry (Some own) (sum.Counts n) = refl
round_is entry (Some own) sum.Huge = refl
round_is entry (Some own) sum.Endless = refl
round_is entry None (sum.Counts n) = refl
round_is entry None sum.Huge = refl
round_is entry None sum.Endless = refl

found_by : (entry : ℕ) (work : Option ℕ) (s : Sum) (many_is told least : Option ℕ) → many_is ≡ many s → least ≡ lesser work many_is → told ≡ with_lesser entry least
    → told ≡ round_cost entry work s
found_by entry work s many_is told least m l t =
    t ∙ (ap (with_lesser entry) (l ∙ ap (lesser work) m) ∙ round_is entry work s)

pub returns-in_err-own : goal.returns-in_err-own
returns-in_err-own c =
    subst (λ (o : Option ℕ). o ≡ round_cost c.args.entry c.args.work c.args.sum) (sym c.from_residual.ensures)
    (found_by c.args.entry c.args.work c.args.sum c.many.result None c.lesser.result c.many.ensures c.lesser.ensures (sym (ap (with_lesser c.args.entry) c.in_err-own.was)))

pub returns : goal.returns
returns c =
    let told : c.checked_add.result ≡ with_entry c.args.entry c.in_ok-own.own = search rules in
    found_by c.args.entry c.args.work c.args.sum c.many.result c.checked_add.result c.lesser.result c.many.ensures c.lesser.ensures
    (told ∙ sym (ap (with_lesser c.args.entry) c.in_ok-own.was))
