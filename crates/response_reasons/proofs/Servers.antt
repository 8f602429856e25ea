-- The least lines of services in front of windows, task by task and code by code.
use Rattle.std.proofs.Common.{◌≡◌, ◌==◌, ℕ, ◌<◌, ◌≤◌, inl, inr, Bool, true, false, cond, List, length, Option, Some, None, refl, sym, ◌∙◌, subst, arith}
use Rattle.std.proofs.lemmas.Bool.{false≢true, eqb-true, eq-eqb}
use Rattle.sloth_base.specs.declared.config.Config.{Config}
use Rattle.sloth_base.specs.declared.app.App.{App}
use Rattle.sloth_base.specs.declared.service.Service.{Service}
use Rattle.sloth_base.specs.declared.service.Service.TheVariants as service
use Rattle.sloth_base.specs.Named.{body_of}
use Rattle.sloth_base.specs.ServiceCodes.{code_of, service_of}
use Rattle.sloth_base.proofs.Services.{of_code}
use Rattle.osek_scheduler.proofs.Facts.{Facts}
use Rattle.osek_scheduler.proofs.Stacks.{has_body}
use Rattle.run_windows.specs.declared.costs.Costs.{Costs}
use Rattle.run_windows.specs.RunWindows.{IsLeastOf, may_serve, call_path, services_front}
use Rattle.run_windows.proofs.Leasts.{same_least, Below}
use Rattle.walk_sums.specs.declared.counted.Counted.{Counted}
use Rattle.walk_sums.specs.declared.counted.Counted.TheVariants as counts
use Rattle.response_reasons.specs.LoopCode.{line_at}
use Rattle.response_reasons.specs.Calls.{ComesTo, AreCallLines, HasServer, HasLongestServer, HasFreeServer, HasCodedServer, HasActivator, server_line}

module _ (config : Config) (app : App) (costs : Costs) (h : ℕ) where
  -- ---- tasks

  -- task k may serve, and comes to what counts
  abbrev pub IsServer : Counted → (k line : ℕ) → Type 0
  IsServer c k line = (may_serve costs h k ≡ true) × ComesTo app c (body_of app.funcs k) line

  pub server_least : Facts config app → (c : Counted) (lines : List (Option ℕ)) → AreCallLines app c lines → (k : ℕ) → k < length config.tasks
      → IsLeastOf (IsServer c k) (server_line app costs h lines k)
  server_least w c lines are k declared = by (may_serve costs h k) refl
    where
      by : (b : Bool) → may_serve costs h k ≡ b → IsLeastOf (IsServer c k) (cond b (line_at lines (body_of app.funcs k)) None)
      by true e =
          same_least (ComesTo app c (body_of app.funcs k)) (IsServer c k) (line_at lines (body_of app.funcs k)) (λ n comes. (e, comes)) (λ n is. is.1)
          (are.each (body_of app.funcs k) (has_body config app w k declared).0)
      by false e = λ m is. false≢true (sym e ∙ is.0)

  -- of all tasks
  pub all_served : (c : Counted) (least : Option ℕ) → IsLeastOf (Below (IsServer c) (length config.tasks)) least → IsLeastOf (HasServer config app costs h c) least
  all_served c least =
      same_least (Below (IsServer c) (length config.tasks)) (HasServer config app costs h c) least (λ n b. (b.0, b.1, b.2.0, b.2.1)) (λ n s. (s.0, s.1, (s.2, s.3)))

  -- ---- services

  -- of one of which the path is the longest, and of one of which it is not
  pub of_longest : (s : Service) (least : Option ℕ) → (call_path s == services_front costs h 0 costs.tasks) ≡ true → IsLeastOf (HasServer config app costs h (counts.Calls s)) least
      → IsLeastOf (HasLongestServer config app costs h s) least
  of_longest s least e =
      same_least (HasServer config app costs h (counts.Calls s)) (HasLongestServer config app costs h s) least
      (λ n serves. (eqb-true (call_path s) (services_front costs h 0 costs.tasks) e, serves)) (λ n l. l.1)

  pub of_shorter : (s : Service) → (call_path s == services_front costs h 0 costs.tasks) ≡ false → (m : ℕ) → HasLongestServer config app costs h s m → ⊥
  of_shorter s e m l = false≢true (sym e ∙ eq-eqb (call_path s) (services_front costs h 0 costs.tasks) l.0)

  some_same : (a b : Service) → Some a ≡ Some b → a ≡ b
  some_same a b e = cc

  no_service : (s : Service) → None ≡ Some s → ⊥
  no_service s e = cc

  -- of that of a code
  pub of_code_some : (code : ℕ) (s : Service) (least : Option ℕ) → service_of code ≡ Some s → IsLeastOf (HasLongestServer config app costs h s) least
      → IsLeastOf (HasCodedServer config app costs h code) least
  of_code_some code s least e =
      same_least (HasLongestServer config app costs h s) (HasCodedServer config app costs h code) least (λ n l. (s, e, l))
      (λ n x. subst (λ r. HasLongestServer config app costs h r n) (some_same x.0 s (sym x.1 ∙ e)) x.2)

  pub of_code_none : (code : ℕ) → service_of code ≡ None → (m : ℕ) → HasCodedServer config app costs h code m → ⊥
  of_code_none code e m x = no_service x.0 (sym e ∙ x.1)

  code_few : (s : Service) → code_of s < 16
  code_few service.ActivateTask = omega arith
  code_few _ = omega arith

  -- of all codes
  pub all_coded : (count : ℕ) (least : Option ℕ) → 16 ≤ count → IsLeastOf (Below (HasCodedServer config app costs h) count) least → IsLeastOf (HasFreeServer config app costs h) least
  all_coded count least le =
      same_least (Below (HasCodedServer config app costs h) count) (HasFreeServer config app costs h) least (λ n b. (b.2.0, b.2.2))
      (λ n x. let few = code_few x.0 in (code_of x.0, omega (arith, few, le), (x.0, of_code x.0, x.1)))

  -- ---- activations

  pub of_chain : (j line : ℕ) → IsLeastOf (HasServer config app costs h (counts.Chains j)) (Some line) → IsLeastOf (HasActivator config app costs h j) (Some line)
  of_chain j line l = (inl l.0, above)
    where
      above : (m : ℕ) → HasActivator config app costs h j m → line ≤ m
      above m (inl chains) = l.1 m chains
      above m (inr activates) = absurd (activates.0 line l.0)

  pub of_activation : (j : ℕ) (least : Option ℕ) → ((m : ℕ) → HasServer config app costs h (counts.Chains j) m → ⊥)
      → IsLeastOf (HasServer config app costs h (counts.CallsFor service.ActivateTask j)) least → IsLeastOf (HasActivator config app costs h j) least
  of_activation j least none =
      same_least (HasServer config app costs h (counts.CallsFor service.ActivateTask j)) (HasActivator config app costs h j) least (λ n activates. inr (none, activates)) from
    where
      from : (n : ℕ) → HasActivator config app costs h j n → HasServer config app costs h (counts.CallsFor service.ActivateTask j) n
      from n (inl chains) = absurd (none n chains)
      from n (inr activates) = activates.1
