-- Task code whose frames can be told.
use Rattle.std.specs.Prelude.{ℕ, ◌+◌, ◌≤◌, ◌<◌, All}
use Rattle.sloth_base.specs.Limits.{frame_limit, item_limit}
use Rattle.sloth_base.specs.declared.app.App.{App}
use Rattle.sloth_base.specs.declared.limits.Places.{Places}
use Rattle.map_text.specs.LineRows.{item_address, item_count}

-- task code within its limits, whose items stand below the end of addresses
pub record HasFrames (app : App) (places : Places) (code_end : ℕ) : Type 0 where
  pub few : item_count app.funcs ≤ item_limit
  pub words : All (λ f. f.frame_words ≤ frame_limit) app.funcs
  pub room : (k : ℕ) → item_address places code_end k + 8 < 4294967296
