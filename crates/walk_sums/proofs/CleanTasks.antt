-- The sums of walks that leave a bit tell which tasks clear it.
use Rattle.std.proofs.Common.{◌≡◌, ℕ, suc, ◌+◌, ◌^◌, ◌<◌, ◌≤◌, ◌⊎◌, inl, inr, Bool, true, false, ◌&&◌, leb, List, [], ◌∷◌, length, get_or, None, ap, sym, ◌∙◌, subst, arith, ⊎_elim}
use Rattle.std.specs.Prelude.{MatchBool, Decides}
use Rattle.std.proofs.lemmas.Bool.{cases_lt, and_parts, true≢false}
use Rattle.std.proofs.lemmas.Bool.Decides.{leb_tells}
use Rattle.sloth_base.specs.declared.config.Config.{Config}
use Rattle.sloth_base.specs.declared.app.App.{App}
use Rattle.sloth_base.specs.Named.{body_of}
use Rattle.sloth_base.specs.Limits.{size_limit}
use Rattle.code_rules.specs.WellFormed.{WellFormed}
use Rattle.osek_scheduler.proofs.Facts.{Facts}
use Rattle.osek_scheduler.proofs.Stacks.{has_body}
use Rattle.bound_rules.specs.declared.bound.Summary.{Summary}
use Rattle.bound_rules.specs.declared.bound.BodyWeights.{BodyWeights}
use Rattle.bound_rules.specs.Summaries.{summary_of}
use Rattle.walk_sums.specs.Weights.{sum_of, AreWeightless, SmallEndings}
use Rattle.walk_sums.proofs.Bodily.{facts_of}
use Rattle.walk_sums.specs.declared.levels.Kind.TheVariants as kinds
use Rattle.walk_sums.specs.declared.counted.Counted.TheVariants as counts
use Rattle.walk_sums.specs.Rounds.{IsPart, IsBehindWait, Anywhere, IsClean}
use Rattle.walk_sums.specs.Kinds.{stops}
use Rattle.walk_sums.specs.Counted.{counted_weights}
use Rattle.walk_sums.specs.Parts.{SumsWithin}
use Rattle.walk_sums.specs.Known.{IsExact, IsEndless, AreSums}
use Rattle.walk_sums.specs.Clears.{ClearsBit, AreClearing, clears_it}
use Rattle.walk_sums.proofs.CountedWeights.{counted_fit, waits_weightless}
use Rattle.walk_sums.proofs.Covering.{any_little}
use Rattle.walk_sums.proofs.Clearing.{clean_clears, clears_clean}
use Rattle.walk_sums.proofs.Telling.{AreParts, later_parts, all_stand}

-- what counts WaitEvents weighs nothing where a walk goes on
pub waits_little : (events : ℕ) (app : App) → AreWeightless (counted_weights (counts.Waits events) app) × SmallEndings (counted_weights (counts.Waits events) app)
waits_little events app = (waits_weightless events app, (counted_fit (counts.Waits events) app).small)

module _ (config : Config) (app : App) (w : Facts config app) (k : ℕ) (table : List Summary)
    (are : AreSums config app (counted_weights (counts.Waits (2 ^ k)) app) (kinds.Uncleared (2 ^ k)) None table) where
  abbrev weights : List BodyWeights
  weights = counted_weights (counts.Waits (2 ^ k)) app

  abbrev Sums : (t n : ℕ) → Type 0
  Sums t n = SumsWithin config app weights (kinds.Uncleared (2 ^ k)) None (body_of app.funcs t) n

  module _ (t : ℕ) (declared : t < length config.tasks) where
    parts : AreParts (IsPart app t (IsBehindWait app) Anywhere (stops (kinds.Uncleared (2 ^ k)))) weights (Sums t)
    parts = later_parts config app w weights (counted_fit (counts.Waits (2 ^ k)) app) (kinds.Uncleared (2 ^ k)) t declared (λ outer. None) Anywhere (all_stand config app) (λ at. tt)

    pub bit_decided : Decides (clears_it app.funcs table t) (ClearsBit app t k)
    bit_decided = by (summary_of table (body_of app.funcs t)).is_endless (are.each (body_of app.funcs t) (has_body config app w t declared).0)
      where
        s : Summary
        s = summary_of table (body_of app.funcs t)

        by : (b : Bool) → MatchBool b (IsEndless config app weights (kinds.Uncleared (2 ^ k)) None (body_of app.funcs t)) (IsExact config app weights (kinds.Uncleared (2 ^ k)) None (body_of app.funcs t) (summary_of table (body_of app.funcs t)))
            → Decides (leb (summary_of table (body_of app.funcs t)).most 1) (ClearsBit app t k)
        by true e =
            let large = e (suc size_limit) in
            let little = any_little config app weights (kinds.Uncleared (2 ^ k)) (waits_weightless (2 ^ k) app) (counted_fit (counts.Waits (2 ^ k)) app).small None (body_of app.funcs t) large.0 large.1 in
            let above = large.2 in
            absurd (let wrong : ⊥ = omega (arith, little, above) in wrong)
        by false x = at (leb_tells (summary_of table (body_of app.funcs t)).most 1)
          where
            none : (summary_of table (body_of app.funcs t)).most ≤ 1 → ClearsBit app t k
            none le [] p = omega arith
            none le (at ∷ further) p = let small = x.most.none_larger (sum_of weights (at ∷ further)) (parts.built at further p) in omega (arith, small, le)

            some : 1 < (summary_of table (body_of app.funcs t)).most → ClearsBit app t k → ⊥
            some lt clears =
                let a = x.most.attained (omega (arith, lt)) in
                let walk = parts.walked a.0 a.1 in
                let le = clears walk.0 walk.1 in
                let is = a.2 in
                let sum = walk.2 in
                omega (arith, lt, le, is, sum)

            at : ((leb (summary_of table (body_of app.funcs t)).most 1 ≡ true) × ((summary_of table (body_of app.funcs t)).most ≤ 1))
                ⊎ ((leb (summary_of table (body_of app.funcs t)).most 1 ≡ false) × (1 < (summary_of table (body_of app.funcs t)).most))
                → Decides (leb (summary_of table (body_of app.funcs t)).most 1) (ClearsBit app t k)
            at (inl le) = (λ e. none le.1, λ c. le.0)
            at (inr lt) = (λ e. absurd (true≢false (sym e ∙ lt.0)), λ c. absurd (some lt.1 c))

-- ---- one bit after the other

pub none_cleared : (app : App) (tasks : ℕ) (marks : List Bool) → length marks ≡ tasks → ((t : ℕ) → t < tasks → get_or marks t false ≡ true) → AreClearing app tasks 0 marks
none_cleared app tasks marks count set = record {
  count = count;
  each = λ t lt. (λ e k less. absurd (let wrong : ⊥ = omega (arith, less) in wrong), λ c. set t lt);
}

last_or : (k bit : ℕ) → k < bit + 1 → (k < bit) ⊎ (k ≡ bit)
last_or k bit lt = ⊎_elim inl (λ le. inr (omega (arith, lt, le))) (cases_lt k bit)

module _ (config : Config) (app : App) (well : WellFormed config app) where
  pub bit_more : (bit events : ℕ) (table : List Summary) (marks both : List Bool) → events ≡ 2 ^ bit
      → AreSums config app (counted_weights (counts.Waits events) app) (kinds.Uncleared events) None table → AreClearing app (length config.tasks) bit marks
      → length both ≡ length config.tasks → ((t : ℕ) → t < length config.tasks → get_or both t false ≡ (get_or marks t false && clears_it app.funcs table t))
      → AreClearing app (length config.tasks) (bit + 1) both
  bit_more bit events table marks both is are a count exact = record { count = count; each = λ t lt. (sound t lt, complete t lt) }
    where
      sums : AreSums config app (counted_weights (counts.Waits (2 ^ bit)) app) (kinds.Uncleared (2 ^ bit)) None table
      sums = subst (λ e. AreSums config app (counted_weights (counts.Waits e) app) (kinds.Uncleared e) None table) is are

      decided : (t : ℕ) → t < length config.tasks → Decides (clears_it app.funcs table t) (ClearsBit app t bit)
      decided t lt = bit_decided config app (facts_of config app well) bit table sums t lt

      sound : (t : ℕ) → t < length config.tasks → get_or both t false ≡ true → (k : ℕ) → k < bit + 1 → ClearsBit app t k
      sound t lt e k less =
          let parts = and_parts (get_or marks t false) (clears_it app.funcs table t) (sym (exact t lt) ∙ e) in
          ⊎_elim (λ before. (a.each t lt).0 parts.0 k before) (λ same. subst (ClearsBit app t) (sym same) ((decided t lt).0 parts.1)) (last_or k bit less)

      complete : (t : ℕ) → t < length config.tasks → ((k : ℕ) → k < bit + 1 → ClearsBit app t k) → get_or both t false ≡ true
      complete t lt c =
          exact t lt ∙ ap (λ b. b && clears_it app.funcs table t) ((a.each t lt).1 (λ k less. c k (omega (arith, less)))) ∙ (decided t lt).1 (c bit (omega arith))

  -- a task that clears all bits is clean, and no other
  pub all_clean : (bit : ℕ) → 32 ≤ bit → (marks : List Bool) → AreClearing app (length config.tasks) bit marks → (t : ℕ) → t < length config.tasks
      → Decides (get_or marks t false) (IsClean app t)
  all_clean bit le marks a t lt =
      let d = a.each t lt in (
        λ e. clears_clean config app (facts_of config app well) t lt (λ k less. d.0 e k (omega (arith, less, le))),
        λ clean. d.1 (λ k less. clean_clears config app (facts_of config app well) t lt k clean),
      )
