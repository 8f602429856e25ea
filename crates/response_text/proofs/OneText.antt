-- Texts have one answer at most.
use Rattle.std.proofs.Common.{◌≡◌, ◌∙◌, ℕ, ◌<◌, Bool, true, false, List, ◌++◌, length, Option, sym, ap, subst}
use Rattle.sloth_base.specs.declared.config.Config.{Config}
use Rattle.sloth_base.specs.declared.app.App.{App}
use Rattle.sloth_source.proofs.Unique.{one_meaning}
use Rattle.load_text.specs.declared.load_line.Entry.{Entry}
use Rattle.run_windows.specs.declared.costs.Costs.{Costs}
use Rattle.run_windows.specs.RunWindows.{IsRunBound}
use Rattle.run_windows.specs.Demand.{IsDemand}
use Rattle.run_windows.proofs.OneLeast.{one_least}
use Rattle.run_responses.specs.TickWindows.{IsTickNumber}
use Rattle.run_windows.proofs.OneBound.{one_demand}
use Rattle.run_responses.proofs.TickBounds.{one_tick_number}
use Rattle.run_windows.specs.declared.costs.RunCosts.{RunCosts}
use Rattle.run_costs.proofs.OneCosts.{one_record}
use Rattle.response_text.specs.declared.task_text.Told.{Told}
use Rattle.response_text.specs.declared.task_text.Response.{Response}
use Rattle.response_reasons.specs.declared.reasons.Reason.{Reason}
use Rattle.response_text.specs.Lines.{response_at, reason_at, response_lines, counter_rows, demand_line, has_open}
use Rattle.response_text.specs.ResponseText.{IsTaskResponse, AreResponses, told_of, HasResponses, HasLoadResponses, OneText}
use Rattle.response_text.specs.Reasons.{is_numberless, IsReason, AreReasons}
use Rattle.response_text.proofs.FirstTasks.{same_lines, same_open}
use Rattle.response_reasons.proofs.OneReason.{one_if}

-- a task has one response
one_response : (longest late : ℕ) (costs : Costs) (t : ℕ) (one other : Response) → IsTaskResponse longest late costs t one → IsTaskResponse longest late costs t other → one ≡ other
one_response longest late costs t one other a b =
    let anywhere = one_least (IsRunBound longest late costs t true) one.anywhere other.anywhere a.anywhere b.anywhere in
    let behind = one_least (IsRunBound longest late costs t false) one.behind other.behind a.behind b.behind in
    let E : Bool → Response = λ x. record { comes = x; anywhere = one.anywhere; behind = one.behind } in
    let F : Option ℕ → Response = λ x. record { comes = other.comes; anywhere = x; behind = one.behind } in
    let G : Option ℕ → Response = λ x. record { comes = other.comes; anywhere = other.anywhere; behind = x } in
    ap E (a.comes ∙ sym b.comes) ∙ (ap F anywhere ∙ ap G behind)

module _ (config : Config) (app : App) (load : List Entry) where
  -- the same is told of the same responses, reasons, ticks and demand
  same_told : (one other : List Response) (why because : List (Option Reason)) (m n p q : Option ℕ) → ((t : ℕ) → t < length config.tasks → response_at one t ≡ response_at other t)
      → ((t : ℕ) → t < length config.tasks → reason_at why t ≡ reason_at because t) → m ≡ n → p ≡ q → told_of config app load one why m p ≡ told_of config app load other because n q
  same_told one other why because m n p q each reasons ticks e =
      let count = length config.tasks in
      ap (λ l. told_by l m p (has_open load one count)) (same_lines config app load one other why because count each reasons)
      ∙ (ap (λ v. told_by (response_lines config app load other because count) v p (has_open load one count)) ticks
      ∙ (ap (λ d. told_by (response_lines config app load other because count) n d (has_open load one count)) e
      ∙ ap (λ b. told_by (response_lines config app load other because count) n q b) (same_open load one other count each)))
    where
      told_by : List ℕ → Option ℕ → Option ℕ → Bool → Told
      told_by l v d b = record { text = (l ++ counter_rows config load v (length config.counters)) ++ demand_line d; is_open = b }

  one_told : (one other : Told) → HasResponses config app load one → HasResponses config app load other → one ≡ other
  one_told one other a b =
      let costs : a.costs ≡ b.costs = one_record config app load a.costs b.costs a.are_costs b.are_costs in
      let there : AreResponses a.costs.longest a.costs.late a.costs.costs (length config.tasks) b.responses =
      subst (λ (c : RunCosts). AreResponses c.longest c.late c.costs (length config.tasks) b.responses) (sym costs) b.are_responses in
      let tick : IsTickNumber a.costs.longest a.costs.late a.costs.costs b.tick = subst (λ (c : RunCosts). IsTickNumber c.longest c.late c.costs b.tick) (sym costs) b.is_tick in
      let demand : IsDemand a.costs.costs b.demand = subst (λ (c : RunCosts). IsDemand c.costs b.demand) (sym costs) b.is_demand in
      let same : (t : ℕ) → t < length config.tasks → response_at a.responses t ≡ response_at b.responses t =
      λ t lt. one_response a.costs.longest a.costs.late a.costs.costs t (response_at a.responses t) (response_at b.responses t) (a.are_responses.each t lt) (there.each t lt) in
      let why : AreReasons config app a.costs.costs b.responses (length config.tasks) b.reasons =
      subst (λ (c : RunCosts). AreReasons config app c.costs b.responses (length config.tasks) b.reasons) (sym costs) b.are_reasons in
      a.is
      ∙ (same_told a.responses b.responses a.reasons b.reasons a.tick b.tick a.demand b.demand same
      (λ t lt. one_if config app a.costs.costs t (is_numberless (response_at b.responses t)) (reason_at a.reasons t) (reason_at b.reasons t)
      (subst (λ (r : Response). IsReason config app a.costs.costs t r (reason_at a.reasons t)) (same t lt) (a.are_reasons.each t lt)) (why.each t lt))
      (one_tick_number a.costs.longest a.costs.late a.costs.costs a.tick b.tick a.is_tick tick)
      (one_demand a.costs.costs a.demand b.demand a.is_demand demand) ∙ sym b.is)

one_for : (config : Config) (app : App) (load : List ℕ) (one other : Told) → HasLoadResponses config app load one → HasLoadResponses config app load other → one ≡ other
one_for config app load one other a b =
    let same : b.load ≡ a.load = b.is_load.load_is ∙ sym a.is_load.load_is in
    one_told config app a.load one other a.has (subst (λ (l : List Entry). HasResponses config app l other) same b.has)

pub one_text : OneText
one_text oil src load one other a b =
    let same = one_meaning oil src b.config a.config b.app a.app b.accepted a.accepted in
    one_for a.config a.app load one other a.has
    (subst (λ (x : App). HasLoadResponses a.config x load other) same.1 (subst (λ (c : Config). HasLoadResponses c b.app load other) same.0 b.has))
