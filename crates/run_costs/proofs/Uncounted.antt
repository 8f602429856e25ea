-- Tasks that do not come to what counts.
use Rattle.std.proofs.Common.{◌≡◌, ℕ, ◌<◌, Bool, ltb, length, ap, sym, ◌∙◌}
use Rattle.std.proofs.lemmas.Bool.{true≢false}
use Rattle.sloth_base.specs.declared.config.Config.{Config}
use Rattle.sloth_base.specs.declared.app.App.{App}
use Rattle.sloth_base.specs.Named.{body_of}
use Rattle.osek_scheduler.proofs.Facts.{Facts}
use Rattle.walk_sums.specs.declared.counted.Counted.{Counted}
use Rattle.walk_sums.specs.Counted.{counted_weights}
use Rattle.run_costs.specs.Rounds.{AreRounds}
use Rattle.run_costs.specs.Tables.{no_sums}
use Rattle.run_costs.specs.Tops.{IsTop}
use Rattle.run_costs.proofs.Coming.{reaches_decided}
use Rattle.run_costs.proofs.Nothing.{rounds_none}

-- their rounds have no sums
pub uncounted : (config : Config) (app : App) → Facts config app → (t : ℕ) → t < length config.tasks → (c : Counted) (top : ℕ) → IsTop config app c (body_of app.funcs t) top → top ≡ 0
    → (clean extended : Bool) → AreRounds app clean extended t (counted_weights c app) no_sums
uncounted config app w t declared c top is e clean extended =
    rounds_none c app t (λ reached. true≢false (sym ((reaches_decided config app w t declared c top is).1 reached) ∙ ap (ltb 0) e)) clean extended
