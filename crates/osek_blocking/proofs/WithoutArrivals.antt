-- Without arrivals a run has no admits, so it is the only one of its length.
use Rattle.std.proofs.Common.{◌≡◌, ℕ, ◌+◌, ◌<◌, ◌⊎◌, inl, inr, List, [], ◌∷◌, Bool, true, cond, Option, Some, None, refl, ap, ◌∙◌, arith}
use Rattle.std.specs.Prelude.{◌==◌, ◌&&◌, All}
use Rattle.std.proofs.lemmas.Bool.{eq-eqb}
use Rattle.std.proofs.lemmas.List.Elements.{All-head, All-tail}
use Rattle.std.proofs.lemmas.List.Sums.{sum_by-cons}
use Rattle.sloth_base.specs.Options.{is_number}
use Rattle.sloth_base.specs.declared.config.Config.{Config}
use Rattle.sloth_base.specs.declared.service.Stamped.{Stamped}
use Rattle.osek_scheduler.specs.State.{opening}
use Rattle.osek_scheduler.specs.InTime.{InTime, IsStamped, AreAllAdmitted, AreLeftOut, admits_at}
use Rattle.sloth_base.specs.Events.{admitted_line}
use Rattle.osek_scheduler.proofs.Leading.{follows_leads}
use Rattle.osek_blocking.specs.NextEvents.{AreOwn, RunsWithoutArrivals}
use Rattle.osek_blocking.proofs.Only.{one_run}

-- an admit of task t at a moment
abbrev admits : ℕ → ℕ → Stamped → Bool
admits k t e = is_number t (admitted_line e.event) && (e.stamp.at == k)

-- an event is counted in front of the others
counted : (k t : ℕ) (e : Stamped) (events : List Stamped) → admits_at k t (e ∷ events) ≡ cond (admits k t e) 1 0 + admits_at k t events
counted k t e events = sum_by-cons (λ (x : Stamped). cond (admits k t x) 1 0) e events

-- an admit is counted at its moment
admits_itself : (e : Stamped) (t : ℕ) → admitted_line e.event ≡ Some t → admits e.stamp.at t e ≡ true
admits_itself e t is =
    ap (λ line. is_number t line && (e.stamp.at == e.stamp.at)) is
    ∙ (ap (λ b. b && (e.stamp.at == e.stamp.at)) (eq-eqb t t refl) ∙ eq-eqb e.stamp.at e.stamp.at refl)

module _ (n : ℕ) where
  -- events of which none is admitted below n, and all end there, are no admits
  own : (events : List Stamped) → All (IsStamped n) events → ((k t : ℕ) → k < n → admits_at k t events ≡ 0) → AreOwn events
  own [] stamped none = tt
  own (e ∷ events) stamped none =
      (by (admitted_line e.event) refl, own events (All-tail (IsStamped n) e events stamped) (λ k t below. let c = counted k t e events in let z = none k t below in omega (arith, c, z)))
    where
      by : (line : Option ℕ) → admitted_line e.event ≡ line → admitted_line e.event ≡ None
      by None is = is
      by (Some t) is =
          let here = All-head (IsStamped n) e events stamped in
          let one = ap (λ b. cond b 1 0 + admits_at e.stamp.at t events) (admits_itself e t is) in
          let c = counted e.stamp.at t e events in
          let z = none e.stamp.at t here.below in
          absurd (omega (arith, one, c, z))

  without_arrivals : (config : Config) (events : List Stamped) → InTime config n [] events → AreOwn events
  without_arrivals config events h = own events h.stamped (by h.admitted)
    where
      by : AreAllAdmitted n [] events ⊎ ((k : ℕ) × AreLeftOut config n [] events k) → (k t : ℕ) → k < n → admits_at k t events ≡ 0
      by (inl all) = all
      by (inr left) = absurd (omega (arith, left.1.first.1))

pub only_run : RunsWithoutArrivals
only_run config app n events wf run in_time =
    let mine = without_arrivals n config events in_time in
    let leads = follows_leads config app [] (opening config app) events run.0 run.1 in
    record {
      own = mine;
      alone = λ others end long own leads-there. (one_run config app others events end run.0 wf long own leads-there mine leads).0;
    }
