-- The rounds of a task in a list of stages come together to no more than each may, for each that begins: of a number of the entry and of the events in turns.
use Rattle.std.proofs.Common.{◌≡◌, ℕ, ◌+◌, ◌*◌, ◌≤◌, ◌&&◌, ◌||◌, not, List, ◌++◌, Bool, true, false, cond, refl, ap}
use Rattle.std.specs.List.{AllByRecursion}
use Rattle.std.proofs.lemmas.Bool.{false≢true, and_parts}
use Rattle.sloth_base.specs.declared.config.Config.{Config}
use Rattle.sloth_base.specs.declared.app.App.{App}
use Rattle.sloth_base.specs.declared.service.Event.{Event}
use Rattle.sloth_base.specs.declared.service.Event.TheVariants as event
use Rattle.osek_scheduler.specs.State.{System, task}
use Rattle.osek_scheduler.specs.Apart.{IsActive}
use Rattle.run_counts.specs.Stages.{Stage, is_turn}
use Rattle.sim_induction.specs.Events.{has_frames}
use Rattle.run_counts.specs.Rounds.{goes_on_waiting, opens_round, total}
use Rattle.response_laws.specs.Sums.{count}
use Rattle.response_laws.specs.Turns.{in_turn, at_entry, begins_first, begins_next, round_behind, if_turn, if_entry}
use Rattle.response_laws.specs.Bounded.{EachFirst, EachNext}
use Rattle.response_laws.proofs.Linked.{Known, Linked}
use Rattle.response_laws.proofs.Shares.{IsApart, IsNoneAtRest, entry_alone}
use Rattle.response_laws.proofs.Shares as shares
use Rattle.response_laws.proofs.Steps.{turn_active}

-- a WaitEvent that goes on is in a turn
pub waiting_turn : (t : ℕ) (e : Event) → goes_on_waiting t e ≡ true → is_turn t e ≡ true
waiting_turn t (event.Call u served status) is = (and_parts _ _ is).0
waiting_turn t e is = absurd (false≢true is)

-- a round that begins in either way opens one
pub first_opens : (cuts : Bool) (t : ℕ) (x : Stage) → begins_first t x ≡ true → opens_round cuts t x.stamped.event ≡ true
first_opens cuts t x is = ap (λ b. b || (cuts && goes_on_waiting t x.stamped.event)) (and_parts (at_entry t x) (not (has_frames (task x.found t).frames)) is).0

pub next_opens : (cuts : Bool) (t : ℕ) (x : Stage) → begins_next cuts t x ≡ true → opens_round cuts t x.stamped.event ≡ true
next_opens cuts t x is = by (at_entry t x) (has_frames (task x.found t).frames) (cuts && goes_on_waiting t x.stamped.event) is
  where
    by : (a b c : Bool) → ((a && b) || c) ≡ true → (a || c) ≡ true
    by true b c is = refl
    by false b c is = is

module _ (cuts : Bool) (t : ℕ) (f : Stage → ℕ) where
  -- what a stage has as an entry of the task and in a turn of it
  abbrev pub by_task : Stage → ℕ
  by_task x = if_entry t f x + if_turn t f x

  pub turn_apart : IsApart cuts t f (if_turn t f)
  turn_apart x is = ap {B = ℕ} (λ b. cond b (f x) 0) (entry_alone t x.stamped.event is).0

  -- more stages, more of the round
  pub longer : (xs ys : List Stage) → total (if_turn t f) (round_behind cuts t xs) ≤ total (if_turn t f) (round_behind cuts t (xs ++ ys))
  longer = shares.longer cuts t f (if_turn t f)

  -- the rest of the round in which they begin, and one round for each that begins
  pub rounds_of : (run : List Stage) (most more : ℕ) → EachFirst run cuts t f most → EachNext run cuts t f more
      → (before xs behind : List Stage) → run ≡ before ++ (xs ++ behind)
      → total by_task xs ≤ total (if_turn t f) (round_behind cuts t xs) + (count (begins_first t) xs * most + count (begins_next cuts t) xs * more)
  rounds_of run most more each again = shares.rounds_of cuts t f (if_turn t f) run most more each again turn_apart

pub turn_rests : (t : ℕ) (f : Stage → ℕ) (config : Config) (app : App) (x : Stage) → Known config app x → (IsActive x.found t → ⊥) → if_turn t f x ≡ 0
turn_rests t f config app x k away = by (in_turn t x) refl
  where
    by : (b : Bool) → in_turn t x ≡ b → ◌≡◌ {A = ℕ} (cond b (f x) 0) 0
    by true is = absurd (away (turn_active config app t x k is))
    by false other = refl

-- where the task is not Active, none of its rounds goes on
pub no_round : (cuts : Bool) (t : ℕ) (f : Stage → ℕ) (config : Config) (app : App) (at : ℕ) (s : System) (xs : List Stage) → Linked at s xs
    → AllByRecursion (Known config app) xs → (IsActive s t → ⊥) → total (if_turn t f) (round_behind cuts t xs) ≤ 0
no_round cuts t f config app = shares.no_round cuts t f (if_turn t f) config app (turn_rests t f config app)
