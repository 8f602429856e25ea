use Rattle.std.proofs.Common.{◌∙◌, ◌-◌, ℕ, List, sym, ap, take, length}
use Rattle.code_rules.specs.Code.{without_last}
use Rattle.osek_scheduler.proofs.Lists.{without-take}
use Rattle.osek_scheduler.proofs.number_lists.Held.release.Goals as goal

pub returns : goal.returns
returns c =
    let items = c.self.inside.resources.items in
    c.truncate.ensures.items
    ∙ (ap (λ n. take n items) c.saturating_sub.ensures
    ∙ (ap (λ (xs : List ℕ). take (length xs - 1) items) c.as_slice-count.ensures.value ∙ (sym (without-take items) ∙ ap without_last c.self.view_is)))
