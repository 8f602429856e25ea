-- What is known of each function from its calls.
use Rattle.std.specs.Prelude.{ℕ, ◌<◌, ◌≡◌, false, length, get_or, Decides}
use Rattle.sloth_base.specs.declared.app.App.{App}
use Rattle.code_rules.specs.Code.{HasCall, ReachesTaking, ReachesPause, TaskReaches}
use Rattle.call_graph.specs.declared.lists.Ranks.{Ranks}
use Rattle.call_graph.specs.Bits.{is_member}

-- one entry for each function
pub record CoversFunctions (app : App) (ranks : Ranks) : Type 0 where
  pub rank : length ranks.rank ≡ length app.funcs
  pub resources : length ranks.resources ≡ length app.funcs
  pub pauses : length ranks.pauses ≡ length app.funcs
  pub users : length ranks.users ≡ length app.funcs

-- the ranks belong to the task code
pub record RanksOf (app : App) (ranks : Ranks) : Type 0 where
  pub covers : CoversFunctions app ranks
  -- a rank is above that of every function that is called
  pub above : (f g : ℕ) → HasCall app f g → get_or ranks.rank g 0 < get_or ranks.rank f 0
  -- the resources that each function reaches taking
  pub resources : (f r : ℕ) → f < length app.funcs → Decides (is_member (get_or ranks.resources f 0) r) (ReachesTaking app f r)
  -- whether it reaches a WaitEvent or a Schedule
  pub pauses : (f : ℕ) → f < length app.funcs → Decides (get_or ranks.pauses f false) (ReachesPause app f)
  -- the tasks that reach it
  pub users : (f t : ℕ) → f < length app.funcs → Decides (is_member (get_or ranks.users f 0) t) (TaskReaches app t f)
