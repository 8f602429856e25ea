use Rattle.std.proofs.Common.{◌≤◌, ◌∙◌, List, ℕ, length, ap, sym, subst, arith}
use Rattle.sloth_base.specs.Arrivals.{AreArrivals}
use Rattle.sloth_base.specs.declared.service.Arrival.{Arrival}
use Rattle.sloth_base.specs.Limits.{file_limit}
use Rattle.std.specs.List.{All}
use Rattle.app_gen.specs.Source.{source_text}
use Rattle.app_gen.specs.Load.{owners_of}
use Rattle.app_gen.proofs.Moments.{are_arrivals, early_until}
use Rattle.app_gen.proofs.Short.{short-oil, short-source}
use Rattle.app_gen.proofs.source.sample.Goals as goal

pub returns-clause-short_oil : goal.returns-clause-short_oil
returns-clause-short_oil c =
    let P : List ℕ → Type 0 = λ t. length t ≤ file_limit in
    subst P (sym (c.from_vec.ensures ∙ c.in_ok-oil_text.ensures)) (short-oil c.args.tasks (omega arith))

pub returns-clause-short_src : goal.returns-clause-short_src
returns-clause-short_src c =
    let P : List ℕ → Type 0 = λ t. length t ≤ file_limit in
    let is = c.from_vec-2.ensures ∙ c.in_ok-source_text.ensures.text ∙ ap (λ x. source_text x c.args.tasks) c.from_seed-draws.ensures in
    subst P (sym is) (short-source c.args.seed c.args.tasks (omega arith) (omega arith) (omega arith))

pub returns-clause-in_range : goal.returns-clause-in_range
returns-clause-in_range c =
    let P : List Arrival → Type 0 = λ t. AreArrivals (owners_of c.args.tasks) t in
    let is = c.from_vec-3.ensures ∙ c.in_ok-arrivals.ensures in
    subst P (sym is) (are_arrivals _ c.args.tasks (omega arith) 1000 (omega arith))

pub returns-clause-early : goal.returns-clause-early
returns-clause-early c =
    let P : List Arrival → Type 0 = λ t. All (λ a. a.at ≤ 901000) t in
    let is = c.from_vec-3.ensures ∙ c.in_ok-arrivals.ensures in
    subst P (sym is) (early_until _ c.args.tasks 1000)
