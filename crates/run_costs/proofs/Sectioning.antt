-- A lower task has sections where its greatest sum is no 0: each item has some weight.
use Rattle.std.proofs.Common.{◌≡◌, ℕ, ◌<◌, ◌≤◌, ◌⊎◌, inl, inr, true, false, not, List, [], ◌∷◌, length, refl, ap, sym, ◌∙◌, subst, arith}
use Rattle.std.specs.Prelude.{◌==◌, Decides}
use Rattle.std.proofs.lemmas.Bool.{cases_eq, ne_eqb, true≢false, eq-eqb}
use Rattle.sloth_base.specs.declared.config.Config.{Config}
use Rattle.sloth_base.specs.declared.app.App.{App}
use Rattle.sloth_base.specs.Named.{operation}
use Rattle.sloth_base.specs.Limits.{count_limit}
use Rattle.osek_scheduler.proofs.Facts.{Facts}
use Rattle.osek_blocking.specs.Walks.{Position}
use Rattle.bound_rules.specs.declared.bound.BodyWeights.{BodyWeights}
use Rattle.bound_rules.specs.Weights.{ending_weight}
use Rattle.walk_sums.specs.Weights.{sum_of, ending_at}
use Rattle.walk_sums.proofs.Reached.{reached_inside}
use Rattle.code_rules.specs.Code.{IsItem}
use Rattle.sloth_base.specs.declared.app.Op.{Op}
use Rattle.walk_sums.specs.declared.sections.Sum.{Sum}
use Rattle.walk_sums.specs.declared.sections.Sum.TheVariants as sum
use Rattle.walk_sums.specs.Rounds.{Reaches}
use Rattle.walk_sums.specs.Told.{IsToldSum, SomeReaches}
use Rattle.walk_sums.specs.Sections.{IsSumFor}
use Rattle.code_rules.specs.WellFormed.{WellFormed}
use Rattle.osek_blocking.specs.Sections.{IsSection}
use Rattle.walk_sums.proofs.Bodily.{facts_of}
use Rattle.run_windows.specs.declared.costs.SectionCosts.{SectionCosts}
use Rattle.run_windows.specs.Costs.{no_section}
use Rattle.run_costs.specs.CostsOf.{IsTaskSection}
use Rattle.run_costs.specs.Sections.{AllWeigh, IsRaised, IsRaisedAt}
use Rattle.run_costs.specs.Rounds.{many}
use Rattle.run_costs.specs.SectionSums.{has_some, is_endless}
use Rattle.run_costs.proofs.Coming.{reached_stands}
use Rattle.run_costs.proofs.Nothing.{walk_front}
use Rattle.run_costs.proofs.SameCosts.{same_section}

module _ (config : Config) (app : App) (w : Facts config app) (h k : ℕ) (declared : k < length config.tasks) (weights : List BodyWeights)
    (weighs : (f i : ℕ) (o : Op) → IsItem app f i o → 0 < ending_weight weights f i) where
  -- a section with a sum has a position
  raised_in : (n : ℕ) → 0 < n → (positions : List Position) → IsSection config app h k positions → n ≤ sum_of weights positions → IsRaised config app h k
  raised_in n lt [] part le = absurd (omega (arith, lt, le))
  raised_in n lt (at ∷ further) part le = (at, ((part.before, walk_front app k part.before further at part.of_walk), part.raised.0))

  raised_of : (n : ℕ) → 0 < n → SomeReaches (IsSection config app h k) weights n → IsRaised config app h k
  raised_of n lt s = raised_in n lt s.0 s.1 s.2

  -- a position is a section, with a sum
  part_of : (at : Position) → IsRaisedAt config app h k at → IsSection config app h k (at ∷ [])
  part_of at ((before, walk), le) = record { before = before; of_walk = walk; raised = (le, tt); unbroken = (λ more. absurd (more refl), tt) }

  some_weight : (at : Position) → Reaches app k at → 0 < ending_at weights at
  some_weight [] (before, walk) = absurd (reached_stands config app w k declared before [] walk)
  some_weight (here ∷ outer) (before, walk) =
      let s = reached_stands config app w k declared before (here ∷ outer) walk in
      weighs here.func here.item (operation app here.func here.item) (record { known = s.0; inside = reached_inside config app w here.func here.item s.0 s.1; is = refl })

  pub exists_decided : (s : Sum) → IsToldSum (IsSection config app h k) weights s → Decides (has_some s) (IsRaised config app h k)
  exists_decided (sum.Counts n) (g, lt) = (some g.attained, λ r. ap not (ne_eqb n 0 (λ e. let le = g.none_above (r.0 ∷ []) (part_of r.0 r.1) in let more = some_weight r.0 r.1.0 in omega (arith, e, le, more))))
    where
      some : (n ≡ 0) ⊎ SomeReaches (IsSection config app h k) weights n → not (n == 0) ≡ true → IsRaised config app h k
      some (inl z) e = absurd (true≢false (sym e ∙ ap not (eq-eqb n 0 z)))
      some (inr s) e = raised_of n (positive (cases_eq n 0)) s
        where
          positive : (n ≡ 0) ⊎ (n ≡ 0 → ⊥) → 0 < n
          positive (inl z) = absurd (true≢false (sym e ∙ ap not (eq-eqb n 0 z)))
          positive (inr ne) = omega (arith, ne)
  exists_decided sum.Huge l = (λ e. raised_of count_limit (omega arith) l.some_reaches, λ r. refl)
  exists_decided sum.Endless l = (λ e. raised_of 1 (omega arith) (l 1), λ r. refl)

-- ---- what is told of them

pub sections_are : (config : Config) (app : App) (weights : List BodyWeights) (h k : ℕ) → WellFormed config app → AllWeigh app weights → (s : Sum) → IsSumFor config app weights h k s
    → (c : SectionCosts) → c.exists ≡ has_some s → c.is_endless ≡ is_endless s → c.counts ≡ many s → IsTaskSection config app weights h k c
sections_are config app weights h k well weigh s is c e endless n = (
  λ low. record {
    exists = subst (λ b. Decides b (IsRaised config app h k)) (sym e)
        (exists_decided config app (facts_of config app well) h k low.0 weights weigh s (is.lower low));
    told = s;
    is_told = is.lower low;
    is_endless = endless;
    counts = n;
  },
  λ higher. same_section c no_section (e ∙ ap has_some (is.other higher)) (endless ∙ ap is_endless (is.other higher)) (n ∙ ap many (is.other higher)),
)
