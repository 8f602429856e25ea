-- The longest service that a task reaches, code by code.
use Rattle.std.proofs.Common.{◌≡◌, ℕ, ◌+◌, ◌<◌, ◌≤◌, ◌⊎◌, inl, inr, Bool, true, false, cond, max, List, [], length, Option, Some, None, refl, ap, sym, ◌∙◌, arith, ⊎_elim}
use Rattle.std.specs.Prelude.{Decides}
use Rattle.std.proofs.lemmas.Bool.{cases_lt}
use Rattle.sloth_base.specs.declared.config.Config.{Config}
use Rattle.sloth_base.specs.declared.app.App.{App}
use Rattle.sloth_base.specs.declared.service.Service.{Service}
use Rattle.sloth_base.specs.declared.service.Service.TheVariants as service
use Rattle.sloth_base.specs.ServiceCodes.{code_of, service_of}
use Rattle.sloth_base.proofs.Services.{of_code}
use Rattle.osek_scheduler.proofs.Facts.{Facts}
use Rattle.run_costs.specs.CostsOf.{AreEach, ReachesService, IsGreatest}
use Rattle.run_costs.specs.Services.{AreServiceTops, reaches, reached_path, IsGreatestTo}
use Rattle.run_costs.proofs.Coming.{reaches_decided}

code_few : (s : Service) → code_of s < 16
code_few service.ActivateTask = omega arith
code_few _ = omega arith

module _ (config : Config) (app : App) (w : Facts config app) (t : ℕ) (declared : t < length config.tasks) (all : List (List ℕ)) (are : AreEach 16 [] (AreServiceTops config app) all) where
  pub reach_decided : (s : Service) → Decides (reaches all s t) (ReachesService app t s)
  reach_decided s = reaches_decided config app w t declared _ _ ((are.each (code_of s) (code_few s) s (of_code s)).each t declared)

  module _ (path : Service → ℕ) where
    pub greatest_none : IsGreatestTo app t path 0 0
    greatest_none = record { none_above = λ s lt r. absurd (let wrong : ⊥ = omega (arith, lt) in wrong); attained = inl refl }

    -- that of the service of a code is the path of some service that the task reaches, or 0
    at_code : (o : Option Service) → (reached_path path all t o ≡ 0) ⊎ ((s : Service) × ReachesService app t s × (path s ≡ reached_path path all t o))
    at_code None = inl refl
    at_code (Some s) = by (reaches all s t) refl
      where
        by : (b : Bool) → reaches all s t ≡ b → (cond (reaches all s t) (path s) 0 ≡ 0) ⊎ ((r : Service) × ReachesService app t r × (path r ≡ cond (reaches all s t) (path s) 0))
        by true e = inr (s, (reach_decided s).0 e, sym (ap (λ b. cond b (path s) 0) e))
        by false e = inl (ap (λ b. cond b (path s) 0) e)

    pub greatest_more : (code most next : ℕ) → IsGreatestTo app t path code most → next ≡ max (reached_path path all t (service_of code)) most → IsGreatestTo app t path (code + 1) next
    greatest_more code most next g e = record {
      none_above = λ s lt r. ⊎_elim
          (λ before. let le = g.none_above s before r in omega (arith, le, e))
          (λ le. here s (let same : code_of s ≡ code = omega (arith, lt, le) in same) r)
          (cases_lt (code_of s) code);
      attained = some (at_code (service_of code)) g.attained (cases_lt (reached_path path all t (service_of code)) most);
    }
      where
        here : (s : Service) → code_of s ≡ code → ReachesService app t s → path s ≤ next
        here s same r =
            let is : service_of code ≡ Some s = ap service_of (sym same) ∙ of_code s in
            let e1 = ap (reached_path path all t) is ∙ ap (λ b. cond b (path s) 0) ((reach_decided s).1 r) in
            omega (arith, e, e1)

        some : (reached_path path all t (service_of code) ≡ 0) ⊎ ((s : Service) × ReachesService app t s × (path s ≡ reached_path path all t (service_of code)))
            → (most ≡ 0) ⊎ ((s : Service) × ReachesService app t s × (path s ≡ most))
            → (reached_path path all t (service_of code) < most) ⊎ (most ≤ reached_path path all t (service_of code))
            → (next ≡ 0) ⊎ ((s : Service) × ReachesService app t s × (path s ≡ next))
        some a (inl z) (inl lt) = absurd (let wrong : ⊥ = omega (arith, z, lt) in wrong)
        some a (inr (s, r, is)) (inl lt) = inr (s, r, omega (arith, is, lt, e))
        some (inl z) b (inr le) = inl (omega (arith, z, le, e))
        some (inr (s, r, is)) b (inr le) = inr (s, r, omega (arith, is, le, e))

    pub greatest_all : (code most : ℕ) → 16 ≤ code → IsGreatestTo app t path code most → IsGreatest app t path most
    greatest_all code most le g = record {
      none_above = λ s r. let few = code_few s in g.none_above s (omega (arith, few, le)) r;
      attained = g.attained;
    }
