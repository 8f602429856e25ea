-- What is gathered from closed rows, function by function.
use Rattle.std.specs.Prelude.{ℕ, ◌<◌, ◌≡◌, false, List, length, map, get_or, count_ones}
use Rattle.sloth_base.specs.declared.app.Func.{Func}
use Rattle.call_graph.specs.declared.lists.Ranks.{Ranks}
use Rattle.call_graph.specs.Bits.{is_member}
use Rattle.call_graph.specs.Reached.{takes_by, pauses_by, used_by}

-- ranks and sets of all functions, as the closed rows give them
pub record AreGathered (funcs : List Func) (rows : List ℕ) (ranks : Ranks) : Type 0 where
  pub rank_count : length ranks.rank ≡ length funcs
  pub rank : ranks.rank ≡ map count_ones rows
  pub resource_count : length ranks.resources ≡ length funcs
  pub resources : (f r : ℕ) → f < length funcs → is_member (get_or ranks.resources f 0) r ≡ takes_by funcs f (get_or rows f 0) r
  pub pause_count : length ranks.pauses ≡ length funcs
  pub pauses : (f : ℕ) → f < length funcs → get_or ranks.pauses f false ≡ pauses_by funcs f (get_or rows f 0)
  pub user_count : length ranks.users ≡ length funcs
  pub users : (f t : ℕ) → f < length funcs → is_member (get_or ranks.users f 0) t ≡ used_by funcs rows f t
