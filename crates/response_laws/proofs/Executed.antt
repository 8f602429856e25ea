-- What the item weighs that an event executes is what the position weighs at which its task stands.
use Rattle.std.proofs.Common.{◌≡◌, ℕ, ◌≤◌, List, [], ◌∷◌, true, refl, ap, ◌∙◌, arith}
use Rattle.std.specs.List.{AllByRecursion}
use Rattle.std.proofs.lemmas.Bool.{false≢true, eqb-true}
use Rattle.sloth_base.specs.declared.service.Event.{Event}
use Rattle.sloth_base.specs.declared.service.Event.TheVariants as event
use Rattle.osek_scheduler.specs.State.{Frame, task}
use Rattle.bound_rules.specs.declared.bound.BodyWeights.{BodyWeights}
use Rattle.bound_rules.specs.Weights.{going_weight, ending_weight}
use Rattle.walk_sums.specs.Weights.{going_at, ending_at}
use Rattle.osek_blocking.specs.Walks.{Position}
use Rattle.run_counts.specs.Stages.{Stage}
use Rattle.run_counts.specs.Rounds.{is_left, next_going, next_ending, executed_weight}
use Rattle.response_laws.specs.Walked.{standing, is_executed, is_back, FitsItem}

module _ (weights : List BodyWeights) where
  -- what an event executes weighs what the item does at which its task stands
  going_is : (fs : List Frame) → next_going weights fs ≡ going_at weights (standing fs)
  going_is [] = refl
  going_is (frame ∷ outer) = refl

  ending_is : (fs : List Frame) → next_ending weights fs ≡ ending_at weights (standing fs)
  ending_is [] = refl
  ending_is (frame ∷ outer) = refl

  abbrev pub executed_by : Stage → ℕ
  executed_by x = executed_weight weights x.found x.stamped.event

  weighs_item : (t : ℕ) (x : Stage) → FitsItem t executed_by (going_at weights) (ending_at weights) x
  weighs_item t x = record { goes = by_going x.stamped.event; leaves = by_leaving x.stamped.event; returns = by_returning x.stamped.event }
    where
      by_going : (e : Event) → is_executed t e ≡ true → executed_weight weights x.found e ≤ going_at weights (standing (task x.found t).frames)
      by_going (event.Run u func item result) is =
          let same = going_is (task x.found u).frames ∙ ap (λ v. going_at weights (standing (task x.found v).frames)) (eqb-true u t is) in omega (arith, same)
      by_going (event.Call u served status) is =
          let same = going_is (task x.found u).frames ∙ ap (λ v. going_at weights (standing (task x.found v).frames)) (eqb-true u t is) in omega (arith, same)
      by_going e is = absurd (false≢true is)

      by_leaving : (e : Event) → is_left t e ≡ true → executed_weight weights x.found e ≤ ending_at weights (standing (task x.found t).frames)
      by_leaving (event.Left u served) is =
          let same = ending_is (task x.found u).frames ∙ ap (λ v. ending_at weights (standing (task x.found v).frames)) (eqb-true u t is) in omega (arith, same)
      by_leaving e is = absurd (false≢true is)

      by_returning : (e : Event) → is_back t e ≡ true → executed_weight weights x.found e ≤ 0
      by_returning (event.Back u) is = omega arith
      by_returning e is = absurd (false≢true is)

  pub all_weigh : (t : ℕ) (xs : List Stage) → AllByRecursion (FitsItem t executed_by (going_at weights) (ending_at weights)) xs
  all_weigh t [] = tt
  all_weigh t (x ∷ xs) = (weighs_item t x, all_weigh t xs)

  pub lighter : ((f i : ℕ) → going_weight weights f i ≤ ending_weight weights f i) → (at : Position) → going_at weights at ≤ ending_at weights at
  lighter grows [] = omega arith
  lighter grows (here ∷ outer) = grows here.func here.item
