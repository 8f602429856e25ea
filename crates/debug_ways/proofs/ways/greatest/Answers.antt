use Rattle.std.proofs.Common.{◌≡◌, ◌≤◌, ◌<◌, ◌-◌, ◌+◌, ℕ, arith, ◌∙◌, sym, ap}
use Rattle.std.specs.Prelude.{Option, unwrap_or}
use Rattle.debug_ways.specs.Cursor.{cursor_run}
use Rattle.debug_ways.specs.Runs.{Run}
use Rattle.debug_ways.specs.Ways.{Tests, ends_back, greatest_below, last_hit}
use Rattle.debug_ways.proofs.Searching.{window-of}
use Rattle.debug_ways.proofs.ways.greatest.Goals as goal

pub returns-in-Some-clause-count : goal.returns-in-Some-clause-count
returns-in-Some-clause-count g c =
    let r : Run = cursor_run g.M.Machine.run c.args.cursor.now in
    let t : Tests = g.H.Hits.tests c.args.hits.now in
    let from : ℕ = c.saturating_sub-from.result in
    let to : ℕ = c.loop-to.to in
    let below : from ≤ to = omega (arith, c.saturating_sub-from.ensures) in
    let last = c.last_hit.ensures.last ∙ ap (λ (x : Run). last_hit (ends_back x t) (to - from) from) c.loop-to.invariant.run in
    let all = window-of (ends_back r t) from to c.last_hit.result below last in
    sym (all ∙ ap (λ (o : Option ℕ). unwrap_or o (greatest_below (ends_back r t) from)) c.in-Some.is) ∙ c.loop-to.invariant.greatest

pub loop-to-preserved : goal.loop-to-preserved
loop-to-preserved g c =
    let r : Run = cursor_run g.M.Machine.run c.args.cursor.now in
    let t : Tests = g.H.Hits.tests c.args.hits.now in
    let from : ℕ = c.saturating_sub-from.result in
    let to : ℕ = c.loop-to.to in
    let below : from ≤ to = omega (arith, c.saturating_sub-from.ensures) in
    let last = c.last_hit.ensures.last ∙ ap (λ (x : Run). last_hit (ends_back x t) (to - from) from) c.loop-to.invariant.run in
    let all = window-of (ends_back r t) from to c.last_hit.result below last in
    record {
      run = c.last_hit.ensures.run ∙ c.loop-to.invariant.run;
      within = omega (arith, below, c.loop-to.invariant.within);
      wide = omega (arith, c.saturating_mul-width.ensures, c.loop-to.invariant.wide);
      greatest = sym (all ∙ ap (λ (o : Option ℕ). unwrap_or o (greatest_below (ends_back r t) from)) c.in_default.is) ∙ c.loop-to.invariant.greatest;
    }
