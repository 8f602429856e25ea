-- The rounds of a task by its own counts: those that stand in front of an entry or a tick that preempts it are its own too, and not the entry's or the tick's.
use Rattle.std.proofs.Common.{◌≡◌, ℕ, ◌+◌, ◌*◌, ◌≤◌, List, ◌++◌, Bool, true, false, cond, refl, ap, arith}
use Rattle.std.specs.List.{AllByRecursion}
use Rattle.std.proofs.lemmas.Bool.{true≢false}
use Rattle.sloth_base.specs.declared.config.Config.{Config}
use Rattle.sloth_base.specs.declared.app.App.{App}
use Rattle.osek_scheduler.specs.State.{System}
use Rattle.osek_scheduler.specs.Apart.{IsActive}
use Rattle.osek_scheduler.specs.InTime.{is_admit}
use Rattle.osek_scheduler.proofs.Facts.{Facts}
use Rattle.run_counts.specs.Stages.{Stage, unseen, spanned, own, is_running}
use Rattle.run_counts.specs.Rounds.{round_of, total}
use Rattle.response_laws.specs.Bounded.{EachOf}
use Rattle.response_laws.specs.Shares.{share_of}
use Rattle.run_counts.proofs.Running.{others_rest}
use Rattle.response_laws.specs.Sums.{count}
use Rattle.response_laws.specs.Turns.{in_turn, at_entry, begins_first, begins_next, round_behind, if_entry}
use Rattle.response_laws.proofs.Linked.{Known, Linked}
use Rattle.response_laws.proofs.LowerSpending.{admit_own}
use Rattle.response_laws.proofs.Shares.{IsApart, IsNoneAtRest}
use Rattle.response_laws.proofs.Shares as shares
use Rattle.response_laws.proofs.Steps.{turn_active}
use Rattle.response_laws.proofs.Sums.{total-le, each_stage}

module _ (config : Config) (app : App) (t : ℕ) where
  pub own_apart : (cuts : Bool) → IsApart cuts t spanned (share_of config t)
  own_apart cuts x is = ap {B = ℕ} (λ b. cond b 0 (own config t x)) is

  pub own_at_rest : (x : Stage) → Known config app x → (IsActive x.found t → ⊥) → own config t x ≡ 0
  own_at_rest x k away = by (is_running config x.found t) (in_turn t x) (others_rest config x.found t away) refl
    where
      by : (runs turn : Bool) → runs ≡ false → in_turn t x ≡ turn → ◌≡◌ {A = ℕ} (cond runs (unseen x) 0 + cond turn (spanned x) 0) 0
      by runs true rests is = absurd (away (turn_active config app t x k is))
      by true false rests is = absurd (true≢false rests)
      by false false rests is = refl

  pub own_rests : (x : Stage) → Known config app x → (IsActive x.found t → ⊥) → share_of config t x ≡ 0
  own_rests x k away = by (at_entry t x) (own config t x) (own_at_rest x k away)
    where
      by : (entry : Bool) (n : ℕ) → n ≡ 0 → cond entry 0 n ≡ 0
      by true n none = refl
      by false n none = none

  -- the rest of the round in which the stages begin, and one round for each that begins
  pub own_rounds_of : (cuts : Bool) (run : List Stage) (most more : ℕ)
      → EachOf run cuts t (begins_first t) spanned (share_of config t) most → EachOf run cuts t (begins_next cuts t) spanned (share_of config t) more
      → (before xs behind : List Stage) → run ≡ before ++ (xs ++ behind)
      → total (λ x. if_entry t spanned x + share_of config t x) xs
      ≤ total (share_of config t) (round_behind cuts t xs) + (count (begins_first t) xs * most + count (begins_next cuts t) xs * more)
  own_rounds_of cuts run most more each again = shares.rounds_of cuts t spanned (share_of config t) run most more each again (own_apart cuts)

  -- where the task is not Active, none of its rounds goes on
  pub own_no_round : (cuts : Bool) (at : ℕ) (s : System) (xs : List Stage) → Linked at s xs → AllByRecursion (Known config app) xs → (IsActive s t → ⊥)
      → total (share_of config t) (round_behind cuts t xs) ≤ 0
  own_no_round cuts = shares.no_round cuts t spanned (share_of config t) config app own_rests

  -- up to where the next round begins the task has no more counts of its own than up to where the round ends
  pub own_within_round : Facts config app → (cuts : Bool) (at : ℕ) (s : System) (xs : List Stage) → Linked at s xs → AllByRecursion (Known config app) xs
      → total (share_of config t) (round_behind cuts t xs) ≤ total (own config t) (round_of cuts t xs)
  own_within_round w cuts at s xs l k =
      let ends = shares.within_round cuts t spanned (share_of config t) config app w own_rests at s xs l k in
      let less = total-le (share_of config t) (own config t) (round_of cuts t xs) (each_stage (λ x. share_of config t x ≤ own config t x) (λ x. by (at_entry t x) (own config t x)) (round_of cuts t xs)) in
      omega (arith, ends, less)
    where
      by : (b : Bool) (n : ℕ) → cond b 0 n ≤ n
      by true n = omega arith
      by false n = omega arith

-- an admission has none
pub admitted_share : (config : Config) (t : ℕ) (x : Stage) → is_admit x.stamped ≡ true → share_of config t x ≡ 0
admitted_share config t x admits =
    let none = admit_own config t x admits in
    let less = by (at_entry t x) (own config t x) in
    omega (arith, none, less)
  where
    by : (b : Bool) (n : ℕ) → cond b 0 n ≤ n
    by true n = omega arith
    by false n = omega arith
