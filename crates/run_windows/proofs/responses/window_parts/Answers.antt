use Rattle.std.proofs.Common.{◌≡◌, List, length, arith, sym, subst, ap, ◌∙◌}
use Rattle.std.proofs.lemmas.List.{take_at}
use Rattle.run_windows.specs.declared.costs.TaskCosts.{TaskCosts}
use Rattle.run_windows.specs.declared.costs.Made.{Made}
use Rattle.run_windows.specs.declared.costs.Window.{Window}
use Rattle.run_windows.specs.Costs.{window_limit}
use Rattle.run_windows.specs.Settling.{IsFound}
use Rattle.run_windows.specs.Windows.{numbers_of, IsLeast}
use Rattle.run_windows.specs.RunWindows.{run_window}
use Rattle.run_windows.proofs.WindowParts.{found_some, are_parts}
use Rattle.run_windows.proofs.responses.window_parts.Goals as goal

pub returns : goal.returns
returns c =
    let run = c.args.run.now in
    let costs = run.costs in
    let new : List Made = c.settle.new.numbers in
    let many = c.settle.ensures.count in
    let room = c.in_ok-numbers.ensures in
    let tasks = ap (λ (l : List TaskCosts). length l) c.items.ensures in
    let len = c.in_ok-numbers.numbers.ok.0 in
    let made : new ≡ c.from_vec.result = sym (c.from_vec.ensures ∙ take_at new _ c.in_ok-numbers.numbers.len (omega (arith, many, room, tasks, len))) in
    let least =
    found_some run.longest run.late costs c.args.h c.args.window new c.settle.result c.requires.number
    (subst (λ (v : Window). IsFound window_limit costs v new c.settle.result) c.window_of-bounded.ensures c.settle.ensures.found) c.unwrap_or-counts.result c.unwrap_or-counts.ensures in
    are_parts run.longest run.late costs c.args.h c.args.window _ c.requires.number c.requires.some c.lead_of.ensures c.begun_item.ensures c.start_counts.ensures.is c.service_of.ensures
    (subst (λ (n : List Made). IsLeast costs (run_window run.longest run.late costs c.args.h c.args.window.opens c.args.window.start) (numbers_of n) c.unwrap_or-counts.result)
    made least)
