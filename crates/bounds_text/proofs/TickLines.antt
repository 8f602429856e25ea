-- The lines of the first counters.
use Rattle.std.proofs.Common.{◌≡◌, ◌+◌, ℕ, [], ◌++◌, refl, ap}
use Rattle.std.proofs.Math.Numerals.{add-one}
use Rattle.sloth_base.specs.declared.config.Config.{Config}
use Rattle.bounds_text.specs.Latency.{tick_line, tick_lines}

pub no-lines : (config : Config) → tick_lines config 0 ≡ []
unfolding tick_lines
no-lines config = refl

pub one-line-more : (config : Config) (k : ℕ) → tick_lines config (k + 1) ≡ tick_lines config k ++ tick_line config k
unfolding tick_lines
one-line-more config k = ap (tick_lines config) (add-one k)
