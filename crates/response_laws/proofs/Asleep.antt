-- Where no lower task is Active and no event is one's, lower tasks have no counts.
use Rattle.std.proofs.Common.{◌≡◌, ℕ, ◌+◌, ◌<◌, ◌≤◌, ◌⊎◌, List, [], ◌∷◌, Bool, true, false, cond, refl, sym, ap, subst, arith, inl, inr}
use Rattle.std.specs.List.{AllByRecursion}
use Rattle.std.proofs.lemmas.Bool.{cases_Bool, false≢true}
use Rattle.sloth_base.specs.declared.config.Config.{Config}
use Rattle.sloth_base.specs.declared.app.App.{App}
use Rattle.sloth_base.specs.declared.service.Event.{Event}
use Rattle.sloth_base.specs.declared.service.Event.TheVariants as event
use Rattle.sloth_base.specs.Events.{is_boot}
use Rattle.osek_scheduler.specs.State.{System, task}
use Rattle.osek_scheduler.specs.Steps.{OsekStep}
use Rattle.osek_scheduler.specs.Apart.{static_priority, IsActive}
use Rattle.osek_blocking.proofs.Effects.{Effect}
use Rattle.osek_blocking.proofs.Ordering.{effect}
use Rattle.run_counts.specs.Stages.{Stage, own, end_of, is_running}
use Rattle.run_counts.specs.Rounds.{total}
use Rattle.run_counts.proofs.Running.{Decides-is_running}
use Rattle.run_counts.proofs.States.{not_suspended}
use Rattle.response_laws.specs.Sums.{count}
use Rattle.response_laws.specs.Turns.{is_other}
use Rattle.response_laws.specs.Shares.{lower_own}
use Rattle.response_laws.proofs.Linked.{Known, Linked}
use Rattle.response_laws.proofs.LowerSpending.{same_at, own_of_one}
use Rattle.response_laws.proofs.Starting.{over_itself}

module _ (config : Config) (app : App) (h : ℕ) where
  -- no task below h is Active
  abbrev pub AreIdle : System → Type 0
  AreIdle s = (t : ℕ) → static_priority config t < static_priority config h → IsActive s t → ⊥

  nothing_here : (x : Stage) → Known config app x → is_other config h x ≡ false → AreIdle x.found → lower_own config h x ≤ 0
  nothing_here x k other idle =
      let le = own_of_one config app h x k other h (λ t lt lower n. rests t lower (cases_Bool (is_running config x.found t))) in
      let none = ap {B = ℕ} (λ b. cond b 0 (own config h x)) (over_itself config h) in
      omega (arith, le, none)
    where
      rests : (t : ℕ) → static_priority config t < static_priority config h → (is_running config x.found t ≡ true) ⊎ (is_running config x.found t ≡ false)
          → is_running config x.found t ≡ false
      rests t lower (inr off) = off
      rests t lower (inl is) = absurd (idle t lower ((Decides-is_running config x.found t).0 is).0)

  pub idle_spend : (at : ℕ) (s : System) (xs : List Stage) → Linked at s xs → AllByRecursion (Known config app) xs → AreIdle s → count (is_other config h) xs ≤ 0
      → total (lower_own config h) xs ≤ 0
  idle_spend at s [] l k idle none = omega arith
  idle_spend at s (x ∷ xs) l k idle none =
      by (is_other config h x) refl none (λ still few. idle_spend (end_of x) x.next xs l.2 k.1 still few)
    where
      here : AreIdle x.found
      here = subst AreIdle (sym l.1) idle

      by : (o : Bool) → is_other config h x ≡ o → cond o 1 0 + count (is_other config h) xs ≤ 0
          → (AreIdle x.next → count (is_other config h) xs ≤ 0 → total (lower_own config h) xs ≤ 0) → lower_own config h x + total (lower_own config h) xs ≤ 0
      by true is none again = absurd (omega (arith, none))
      by false is none again =
          let own = nothing_here x k.0 is here in
          let rest = again (λ t lower active. here t lower (same_at config app h x k.0 is t lower active).0) (omega (arith, none)) in
          omega (arith, own, rest)

  -- so it is behind boot
  pub boot_idle : (x : Stage) → Known config app x → is_boot x.stamped.event ≡ true → AreIdle x.next
  boot_idle x k boots t lower = by x.stamped.event k.step (effect config app x.found x.next k.ordered x.stamped.event k.step) boots
    where
      by : (e : Event) → OsekStep config app e x.found x.next → Effect config x.found x.next e → is_boot e ≡ true → IsActive x.next t → ⊥
      by event.Boot step f boots active = not_suspended (task x.found t).state (f.same t active).0 (k.valid.asleep step.0 t)
      by event.Idle step f boots active = false≢true boots
      by event.Stray step f boots active = false≢true boots
      by e step f boots active = false≢true boots
