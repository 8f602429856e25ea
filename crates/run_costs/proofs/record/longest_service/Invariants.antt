use Rattle.run_costs.specs.Services.{IsGreatestTo}
use Rattle.run_windows.specs.RunWindows.{call_path}
use Rattle.run_costs.proofs.record.longest_service.Given as goal

abbrev pub invariant-loop-code : goal.invariant-loop-code
invariant-loop-code l = IsGreatestTo l.walks.app l.task call_path l.code l.most
