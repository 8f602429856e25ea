-- How many counts of its task an item takes at most: its expansion, and of a service its code.
use Rattle.std.specs.Prelude.{ℕ, ◌<◌, ◌≡◌, max, false, List, [], length, get_or}
use Rattle.sloth_base.specs.declared.app.App.{App}
use Rattle.sloth_base.specs.declared.app.Func.{Func}
use Rattle.sloth_base.specs.declared.app.Op.{Op}
use Rattle.sloth_base.specs.declared.app.Op.TheVariants as op
use Rattle.sloth_base.specs.declared.service.Service.{Service}
use Rattle.sloth_base.specs.declared.service.Service.TheVariants as service
use Rattle.sloth_base.specs.Named.{function}
use Rattle.rv32_expand.specs.Passes.{AreShortest}
use Rattle.code_lengths.specs.LongestPaths.{served_path, leaving_path}
use Rattle.osek_blocking.specs.Walks.{chains_itself}

-- ---- expansions

-- the length of an item, by those of each body
abbrev pub length_of : (lengths : List (List ℕ)) → (f i : ℕ) → ℕ
length_of lengths f i = get_or (get_or lengths f []) i 0

-- the lengths of the items of each body, where its long branches are the least set of them
pub record AreLengths (app : App) (lengths : List (List ℕ)) : Type 0 where
  pub count : length lengths ≡ length app.funcs
  pub each : (f : ℕ) → f < length app.funcs → AreShortest app (function app f) (get_or lengths f [])

-- ---- services

-- What a service adds to its caller's counts where the caller goes on. Whether it does is told on the way through ChainTask, so of that one the longer
-- way counts.
abbrev pub served_counts : Service → ℕ
served_counts service.ChainTask = leaving_path service.ChainTask false
served_counts served = served_path served

-- what an operation adds to the length of its item where its task goes on
abbrev pub going_counts : Op → ℕ
going_counts (op.Serve call) = served_counts call.service
going_counts _ = 0

-- and where the task leaves with it, if it may
abbrev pub leaving_counts : Func → Op → ℕ
leaving_counts f (op.Serve call) = leaving_path call.service (chains_itself f (op.Serve call))
leaving_counts f _ = 0

-- and where either may be
abbrev pub ending_counts : Func → Op → ℕ
ending_counts f o = max (going_counts o) (leaving_counts f o)
