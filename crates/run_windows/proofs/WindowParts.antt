-- Of what the number of a window is made.
use Rattle.std.specs.Prelude.{unwrap_or}
use Rattle.std.proofs.Common.{◌≡◌, ℕ, ◌+◌, ◌-◌, ◌<◌, Bool, true, false, cond, List, Option, Some, None, sym, subst, arith}
use Rattle.run_windows.specs.declared.costs.Costs.{Costs}
use Rattle.run_windows.specs.declared.costs.Made.{Made}
use Rattle.run_windows.specs.declared.costs.Window.{Window}
use Rattle.run_windows.specs.declared.costs.Longest.{Longest}
use Rattle.run_windows.specs.declared.responses.Parts.{Parts}
use Rattle.run_windows.specs.Costs.{window_limit}
use Rattle.run_windows.specs.Arrivals.{tick_counts}
use Rattle.run_windows.specs.Windows.{numbers_of, is_target_made, round_counts, IsLeast}
use Rattle.run_windows.specs.Settling.{IsFound}
use Rattle.run_windows.specs.RunWindows.{margin, lead_of, start_counts, start_service, front_of, begun_item, run_window, IsNumber}
use Rattle.run_windows.specs.Longest.{AreParts}
use Rattle.run_windows.proofs.Settling.{least_filled}

module _ (longest late : ℕ) (costs : Costs) (h : ℕ) (l : Longest) where
  abbrev pub w : Window
  w = run_window longest late costs h l.opens l.start

  -- a window with a number has a solution within the limit
  pub found_some : (numbers : List Made) (found : Option ℕ) → IsNumber longest late costs h l.opens l.start (Some l.number) → IsFound window_limit costs w numbers found
      → (counts : ℕ) → counts ≡ unwrap_or found 0 → IsLeast costs w (numbers_of numbers) counts
  found_some numbers (Some c) number (least, le) counts e = subst (IsLeast costs w (numbers_of numbers)) (sym e) least
  found_some numbers None (b, (n, d, least, few, is), e) none counts f = let over = none n d least.solves in absurd (omega (arith, over, few))

  sum_so : (opens made : Bool) (x b d counts stretch item section service rounds ticks : ℕ) → x ≡ b + lead_of opens late - margin longest late → b ≡ cond made d 0 → d ≡ counts → 0 < x
      → counts ≡ margin longest late + (begun_item longest l.start + front_of opens costs h l.start) + rounds + ticks → stretch ≡ lead_of opens late
      → item ≡ begun_item longest l.start → section ≡ start_counts costs h l.start → service ≡ cond opens 0 (start_service costs h l.start)
      → x ≡ stretch + item + section + service + rounds + ticks
  sum_so true true x b d counts stretch item section service rounds ticks e is same some filled p q r s = omega (arith, e, is, same, filled, p, q, r, s)
  sum_so true false x b d counts stretch item section service rounds ticks e is same some filled p q r s = absurd (omega (arith, e, is, some))
  sum_so false true x b d counts stretch item section service rounds ticks e is same some filled p q r s = omega (arith, e, is, same, filled, p, q, r, s)
  sum_so false false x b d counts stretch item section service rounds ticks e is same some filled p q r s = absurd (omega (arith, e, is, some))

  -- the parts add up
  pub are_parts : (p : Parts) → IsNumber longest late costs h l.opens l.start (Some l.number) → 0 < l.number
      → p.stretch ≡ lead_of l.opens late → p.item ≡ begun_item longest l.start → p.section ≡ start_counts costs h l.start
      → p.service ≡ cond l.opens 0 (start_service costs h l.start) → IsLeast costs w (numbers_of p.numbers) p.counts → AreParts longest late costs h l p
  are_parts p (b, (n, d, other, few, is), e) some stretch item section service least = record {
    stretch = stretch;
    item = item;
    section = section;
    service = service;
    least = least;
    sum = sum_so l.opens (is_target_made w.target n) l.number b d p.counts p.stretch p.item p.section p.service (round_counts (numbers_of p.numbers) 0 costs.tasks)
        (tick_counts p.counts costs.counters) e is same some (least_filled costs w (numbers_of p.numbers) p.counts least) stretch item section service;
  }
    where
      same : d ≡ p.counts
      same = let a = other.least_counts (numbers_of p.numbers) p.counts least.solves in let c = least.least_counts n d other.solves in omega (arith, a, c)
