-- Texts have one answer of a task at most.
use Rattle.std.proofs.Common.{◌≡◌, ◌∙◌, ℕ, ◌≤◌, List, length, true, false, Option, Some, None, refl, sym, ap, subst, arith}
use Rattle.sloth_base.specs.declared.config.Config.{Config}
use Rattle.sloth_base.specs.declared.app.App.{App}
use Rattle.sloth_source.proofs.Unique.{one_meaning}
use Rattle.sloth_source.specs.TaskNames.{task_named}
use Rattle.load_text.specs.declared.load_line.Entry.{Entry}
use Rattle.run_windows.specs.Costs.{comes}
use Rattle.run_windows.specs.Longest.{number_of, IsLongest}
use Rattle.run_windows.specs.declared.costs.RunCosts.{RunCosts}
use Rattle.run_costs.proofs.OneCosts.{one_record}
use Rattle.response_reasons.specs.declared.reasons.Reason.{Reason}
use Rattle.response_reasons.proofs.OneReason.{one_if}
use Rattle.response_text.specs.declared.part_lines.PartNames.{PartNames}
use Rattle.response_text.specs.declared.task_text.Response.{Response}
use Rattle.response_text.specs.declared.task_text.Told.{Told}
use Rattle.response_text.specs.PartNames.{ArePartNames}
use Rattle.response_text.specs.Reasons.{is_numberless, IsReason}
use Rattle.response_text.specs.TaskText.{response_of, AreBothParts, task_lines, HasParts, HasPartsOf, HasLoadParts, OneTaskText}
use Rattle.response_text.proofs.OneNames.{one_names}
use Rattle.response_text.proofs.OneParts.{same_told_number, one_both_parts}

module _ (config : Config) (app : App) (load : List Entry) where
  same_told : (t : ℕ) (r s : Response) (why because : Option Reason) (x y : List ℕ) → r ≡ s → why ≡ because → x ≡ y
      → task_lines config app load t r why x ≡ task_lines config app load t s because y
  same_told t r s why because x y e f g =
      ap (λ (v : Response). task_lines config app load t v why x) e
      ∙ (ap (λ (v : Option Reason). task_lines config app load t s v x) f ∙ ap (task_lines config app load t s because) g)

  one_told : (t : ℕ) (one other : Told) → HasParts config app load t one → HasParts config app load t other → one ≡ other
  one_told t one other a b =
      let costs : a.costs ≡ b.costs = one_record config app load a.costs b.costs a.are_costs b.are_costs in
      let back = sym costs in
      let there = a.costs in
      let count = a.are_costs.count in
      let le : length config.tasks ≤ length there.costs.tasks = omega (arith, count) in
      let longest : IsLongest there.longest there.late there.costs t true b.anywhere =
      subst (λ (c : RunCosts). IsLongest c.longest c.late c.costs t true b.anywhere) back b.is_longest in
      let behind : IsLongest there.longest there.late there.costs t false b.behind =
      subst (λ (c : RunCosts). IsLongest c.longest c.late c.costs t false b.behind) back b.is_behind in
      let because : IsReason config app there.costs t (response_of (comes there.costs t) b.anywhere b.behind) b.why =
      subst (λ (c : RunCosts). IsReason config app c.costs t (response_of (comes c.costs t) b.anywhere b.behind) b.why) back b.is_why in
      let are_names : ArePartNames config app load there b.names = subst (λ (c : RunCosts). ArePartNames config app load c b.names) back b.are_names in
      let are_parts : AreBothParts config app there b.names t b.anywhere b.behind b.parts =
      subst (λ (c : RunCosts). AreBothParts config app c b.names t b.anywhere b.behind b.parts) back b.are_parts in
      let is : other ≡ task_lines config app load t (response_of (comes there.costs t) b.anywhere b.behind) b.why b.parts =
      subst (λ (c : RunCosts). other ≡ task_lines config app load t (response_of (comes c.costs t) b.anywhere b.behind) b.why b.parts) back b.is in
      let names = one_names config app load there a.names b.names a.are_names are_names in
      let both = subst (λ (n : PartNames). AreBothParts config app there n t b.anywhere b.behind b.parts) (sym names) are_parts in
      let parts = one_both_parts config app there a.names t le a.anywhere b.anywhere a.behind b.behind a.parts b.parts a.is_longest longest a.is_behind behind a.are_parts both in
      let E : Option ℕ → Response = λ n. record { comes = comes there.costs t; anywhere = n; behind = number_of a.behind } in
      let F : Option ℕ → Response = λ n. record { comes = comes there.costs t; anywhere = number_of b.anywhere; behind = n } in
      let response : response_of (comes there.costs t) a.anywhere a.behind ≡ response_of (comes there.costs t) b.anywhere b.behind =
      ap E (same_told_number there t true a.anywhere b.anywhere a.is_longest longest) ∙ ap F (same_told_number there t false a.behind b.behind a.is_behind behind) in
      let why = subst (λ (r : Response). IsReason config app there.costs t r a.why) response a.is_why in
      let reason = one_if config app there.costs t (is_numberless (response_of (comes there.costs t) b.anywhere b.behind)) a.why b.why why because in
      a.is ∙ (same_told t (response_of (comes there.costs t) a.anywhere a.behind) (response_of (comes there.costs t) b.anywhere b.behind) a.why b.why a.parts b.parts response reason parts ∙ sym is)

  one_of : (task : Option ℕ) (one other : Option Told) → HasPartsOf config app load task one → HasPartsOf config app load task other → one ≡ other
  one_of (Some t) (Some one) (Some other) a b = ap Some (one_told t one other a b)
  one_of (Some t) (Some one) None a b = absurd b
  one_of (Some t) None other a b = absurd a
  one_of None (Some one) other a b = absurd a
  one_of None None (Some other) a b = absurd b
  one_of None None None a b = refl

one_for : (config : Config) (app : App) (load name : List ℕ) (one other : Option Told) → HasLoadParts config app load name one → HasLoadParts config app load name other → one ≡ other
one_for config app load name one other a b =
    let same : b.load ≡ a.load = b.is_load.load_is ∙ sym a.is_load.load_is in
    one_of config app a.load (task_named config name) one other a.has (subst (λ (l : List Entry). HasPartsOf config app l (task_named config name) other) same b.has)

pub one_task_text : OneTaskText
one_task_text oil src load name one other a b =
    let same = one_meaning oil src b.config a.config b.app a.app b.accepted a.accepted in
    one_for a.config a.app load name one other a.has
    (subst (λ (x : App). HasLoadParts a.config x load name other) same.1 (subst (λ (c : Config). HasLoadParts c b.app load name other) same.0 b.has))
