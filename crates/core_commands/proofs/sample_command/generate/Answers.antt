use Rattle.std.proofs.Common.{◌∙◌, ℕ, List, length, sym, subst}
use Rattle.sloth_base.specs.Arrivals.{AreArrivals}
use Rattle.sloth_source.specs.OilText.{OilText}
use Rattle.core_commands.proofs.Declared.{thirty-tasks, no-counters}
use Rattle.core_commands.proofs.sample_command.generate.Goals as goal

-- the text that is built declares 30 tasks and no counters
pub returns-clause-in_range : goal.returns-clause-in_range
returns-clause-in_range c =
    let config = c.in_ok-built.built.config in
    let configuration = c.in_ok-built.ensures.accepted.configuration in
    let P : List ℕ → Type 0 = λ text. OilText text config in
    let Q : ℕ → ℕ → Type 0 = λ tasks counters. AreArrivals (record { tasks = tasks; counters = counters }) c.in_ok-oil.field-0.arrivals in
    let text = subst P (c.items.ensures ∙ c.in_ok-oil.ensures.oil) configuration in
    let declared = thirty-tasks config text in
    let none = no-counters config text in
    subst (Q (length config.tasks)) (sym none) (subst (λ (n : ℕ). Q n 0) (sym declared) c.in_ok-oil.ensures.in_range)
