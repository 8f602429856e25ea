use Rattle.std.proofs.Common.{ℕ, ◌/◌, sym, subst, ap, arith}
use Rattle.std.specs.Prelude.{Option}
use Rattle.run_windows.specs.Arrivals.{arrivals}
use Rattle.run_windows.specs.Cycles.{IsRate}
use Rattle.run_windows.proofs.LowerBounds.{no_rate, divided_rate}
use Rattle.run_windows.proofs.curves.arrival_rate.Goals as goal

pub returns-in_default : goal.returns-in_default
returns-in_default c counts x h = no_rate counts (arrivals x c.args.distance)

pub returns-in_default-2 : goal.returns-in_default-2
returns-in_default-2 c counts x h = no_rate counts (arrivals x c.args.distance)

pub returns-in-Some : goal.returns-in-Some
returns-in-Some c counts x h =
    let some = c.if-distance-ne0.true in
    subst (λ (o : Option ℕ). IsRate (c.args.rate / c.from.result) counts (arrivals x o)) (sym c.in-Some.is)
    (divided_rate c.args.rate c.in-Some.distance (c.args.rate / c.from.result) counts x (omega (arith, some)) (ap (λ (k : ℕ). c.args.rate / k) c.from.ensures) h)
