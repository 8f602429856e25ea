-- The greatest sums of rounds, what rounds cost, and how often they make a task Ready.
use Rattle.std.specs.Prelude.{ℕ, ◌+◌, ◌≡◌, ◌==◌, nat_lt, min, cond, Bool, true, false, List, Option, Some, None}
use Rattle.sloth_base.specs.declared.app.App.{App}
use Rattle.bound_rules.specs.declared.bound.BodyWeights.{BodyWeights}
use Rattle.walk_sums.specs.declared.sections.Sum.{Sum}
use Rattle.walk_sums.specs.declared.sections.Sum.TheVariants as sum
use Rattle.walk_sums.specs.declared.sections.RoundSums.{RoundSums}
use Rattle.walk_sums.specs.declared.counted.Counted.{Counted}
use Rattle.walk_sums.specs.declared.counted.Counted.TheVariants as counts
use Rattle.walk_sums.specs.Rounds.{IsTurn}
use Rattle.walk_sums.specs.Told.{IsToldSum, AreToldRounds}

-- ---- sums

-- The sums of the first rounds of task t, and of its rounds behind a WaitEvent: of an extended task that is clean. One that is basic has none of these,
-- and one that is not clean has no rounds but its turns; then both are those of all its rounds.
abbrev pub AreRounds : App → (clean extended : Bool) → (t : ℕ) → (weights : List BodyWeights) → RoundSums → Type 0
AreRounds app true true t weights told = AreToldRounds app t weights told
AreRounds app true false t weights told =
    (later : Sum) × AreToldRounds app t weights (record { first = told.first; later = later }) × (told.later ≡ told.first)
AreRounds app false extended t weights told = IsToldSum (IsTurn app t) weights told.first × (told.later ≡ told.first)

-- ---- costs

-- an entry and so many counts; none above 4,294,967,295
abbrev pub with_entry : (entry own : ℕ) → Option ℕ
with_entry entry own = cond (nat_lt 4294967295 (entry + own)) None (Some (entry + own))

-- an entry and a round: by the greatest sum, or by what the load says of the task's work where that is less; none where neither has a limit
abbrev pub round_cost : (entry : ℕ) → (work : Option ℕ) → Sum → Option ℕ
round_cost entry (Some own) (sum.Counts n) = with_entry entry (min own n)
round_cost entry (Some own) s = with_entry entry own
round_cost entry None (sum.Counts n) = with_entry entry n
round_cost entry None s = None

-- ---- makings

-- how often at most, where it may be more than once; none where there is no limit
abbrev pub many : Sum → Option ℕ
many (sum.Counts count) = Some count
many s = None

-- and where it is once at most
abbrev pub one : Sum → ℕ
one (sum.Counts count) = min count 1
one s = 1

abbrev pub made : (once : Bool) → Sum → Option ℕ
made once s = cond once (Some (one s)) (many s)

-- what counts as an activation of task j by task k: of itself only its ChainTask
abbrev pub activations_of : (k j : ℕ) → Counted
activations_of k j = cond (k == j) (counts.Chains j) (counts.Activations j)
