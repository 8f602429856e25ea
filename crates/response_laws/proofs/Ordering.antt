-- How events of a run stand to the ones in front of them and behind.
use Rattle.std.proofs.Common.{◌≡◌, ℕ, suc, ◌+◌, ◌<◌, ◌≤◌, List, [], ◌∷◌, ◌++◌, Bool, true, false, cond, refl, subst, arith}
use Rattle.std.specs.Prelude.{AllPairs}
use Rattle.std.specs.List.{AllByRecursion}
use Rattle.std.proofs.lemmas.List.Elements.{recursion_from_All}
use Rattle.sloth_base.specs.declared.config.Config.{Config}
use Rattle.sloth_base.specs.declared.app.App.{App}
use Rattle.sloth_base.specs.declared.service.Stamped.{Stamped}
use Rattle.osek_scheduler.specs.State.{System}
use Rattle.osek_scheduler.specs.InTime.{IsOrdered, StandsBefore, is_admit}
use Rattle.run_counts.specs.Stages.{state_behind, stage, stages, end_of}
use Rattle.response_laws.proofs.Linked.{each_append}

-- what the events ahead of an event owe
pub ahead : (e : Stamped) (events : List Stamped) → AllPairs IsOrdered (e ∷ events) → AllByRecursion (IsOrdered e) events × AllPairs IsOrdered events
ahead e events pairs = (
  recursion_from_All (IsOrdered e) events (λ k d lt. pairs 0 (suc k) d (omega arith) (omega (arith, lt))),
  λ i j d lt within. pairs (suc i) (suc j) d (omega (arith, lt)) (omega (arith, within)),
)

-- each event in front of one owes it what their kinds say
pub ordered_front : (front : List Stamped) (e : Stamped) (rest : List Stamped) → AllPairs IsOrdered (front ++ e ∷ rest) → AllByRecursion (λ x. IsOrdered x e) front
ordered_front [] e rest pairs = tt
ordered_front (x ∷ front) e rest pairs =
    let both = ahead x (front ++ e ∷ rest) pairs in
    ((each_append (IsOrdered x) front (e ∷ rest) both.0).1.0, ordered_front front e rest both.1)

-- of two that are no admissions the first ends before the second begins
pub ends_before : (x e : Stamped) → IsOrdered x e → is_admit e ≡ false → is_admit x ≡ false → x.stamp.at < e.stamp.from
ends_before x e ordered other first =
    subst (λ b. StandsBefore false b x.stamp e.stamp) other (subst (λ b. StandsBefore b (is_admit e) x.stamp e.stamp) first ordered)

-- an admission in front of another event is of no later moment than its last count
pub admits_before : (x e : Stamped) → IsOrdered x e → is_admit e ≡ false → is_admit x ≡ true → x.stamp.at ≤ e.stamp.at
admits_before x e ordered other first =
    subst (λ b. StandsBefore true b x.stamp e.stamp) other (subst (λ b. StandsBefore b (is_admit e) x.stamp e.stamp) first ordered)

-- an admission behind another event is of a moment behind its first count
pub admits_behind : (x e : Stamped) → IsOrdered x e → is_admit e ≡ true → is_admit x ≡ false → x.stamp.from < e.stamp.at
admits_behind x e ordered admits first =
    subst (λ b. StandsBefore false b x.stamp e.stamp) admits (subst (λ b. StandsBefore b (is_admit e) x.stamp e.stamp) first ordered)

module _ (config : Config) (app : App) (k : ℕ) where
  -- stages of events that end before count k, where these are no admissions, end by k
  pub all_end : (at : ℕ) (s : System) (events : List Stamped) → at ≤ k → AllByRecursion (λ x. is_admit x ≡ false → x.stamp.at < k) events
      → AllByRecursion (λ x. end_of x ≤ k) (stages config app at s events)
  all_end at s [] le each = tt
  all_end at s (e ∷ events) le each =
      let here = by (is_admit e) each.0 in (here, all_end (end_of (stage config app at s e)) (state_behind config app e.event s) events here each.1)
    where
      by : (b : Bool) → (b ≡ false → e.stamp.at < k) → cond b at (e.stamp.at + 1) ≤ k
      by true below = le
      by false below = let lt = below refl in omega (arith, lt)
