-- Each entry with a round takes counts.
use Rattle.std.proofs.Common.{ℕ, ◌+◌, ◌≤◌, min, cond, Bool, true, false, List, Option, Some, None, sym, subst, arith}
use Rattle.std.specs.Prelude.{nat_lt}
use Rattle.sloth_base.specs.declared.config.Config.{Config}
use Rattle.sloth_base.specs.declared.app.App.{App}
use Rattle.sloth_base.specs.Named.{declaration, function, body_of}
use Rattle.load_text.specs.declared.load_line.Entry.{Entry}
use Rattle.load_text.specs.Loads.{work}
use Rattle.code_lengths.specs.LongestPaths.{entry_path}
use Rattle.walk_sums.specs.declared.sections.Sum.{Sum}
use Rattle.walk_sums.specs.declared.sections.Sum.TheVariants as sum
use Rattle.run_windows.specs.declared.costs.Costs.{Costs}
use Rattle.run_windows.specs.Costs.{reckoned}
use Rattle.run_windows.specs.Settling.{TakeCounts}
use Rattle.run_costs.specs.Rounds.{with_entry, round_cost}
use Rattle.run_costs.specs.RunCosts.{round_entry, AreRunCosts}

entry_some : (extended resumed : Bool) (words : ℕ) → 1 ≤ entry_path extended resumed words
entry_some false resumed words = omega arith
entry_some true false words = omega arith
entry_some true true words = omega arith

round_some : (config : Config) (app : App) (clean resumed : Bool) (t : ℕ) → 1 ≤ round_entry config app clean resumed t
round_some config app clean resumed t =
    let one = entry_some (declaration config t).extended true (function app (body_of app.funcs t)).frame_words in
    omega (arith, one)

entry_counts : (entry own : ℕ) → 1 ≤ entry → 1 ≤ reckoned (with_entry entry own)
entry_counts entry own le = by (nat_lt 4294967295 (entry + own))
  where
    by : (b : Bool) → 1 ≤ reckoned (cond b None (Some (entry + own)))
    by true = omega arith
    by false = omega (arith, le)

cost_some : (entry : ℕ) (w : Option ℕ) (s : Sum) → 1 ≤ entry → 1 ≤ reckoned (round_cost entry w s)
cost_some entry (Some own) (sum.Counts n) le = entry_counts entry (min own n) le
cost_some entry (Some own) sum.Huge le = entry_counts entry own le
cost_some entry (Some own) sum.Endless le = entry_counts entry own le
cost_some entry None (sum.Counts own) le = entry_counts entry own le
cost_some entry None sum.Huge le = omega arith
cost_some entry None sum.Endless le = omega arith

pub run_take_counts : (config : Config) (app : App) (load : List Entry) (costs : Costs) → AreRunCosts config app load costs → TakeCounts costs
run_take_counts config app load costs are t lt =
    let count = are.tasks.count in
    let own = are.tasks.each t (omega (arith, lt, count)) in (
      subst (λ n. 1 ≤ reckoned n) (sym own.first) (cost_some (round_entry config app own.clean false t) (work load t) own.told.first (round_some config app own.clean false t)),
      subst (λ n. 1 ≤ reckoned n) (sym own.next) (cost_some (round_entry config app own.clean true t) (work load t) own.told.later (round_some config app own.clean true t)),
    )
