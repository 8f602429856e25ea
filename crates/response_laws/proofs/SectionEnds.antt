-- Behind where its task blocks no more, no event of a section follows.
use Rattle.std.proofs.Common.{◌≡◌, ℕ, ◌+◌, ◌≤◌, List, [], ◌∷◌, Bool, true, false, cond, refl, subst, arith}
use Rattle.std.specs.List.{AllByRecursion}
use Rattle.sloth_base.specs.declared.config.Config.{Config}
use Rattle.sloth_base.specs.declared.app.App.{App}
use Rattle.osek_scheduler.specs.State.{System}
use Rattle.osek_blocking.proofs.Once.{Blocks}
use Rattle.osek_blocking.specs.Sections.{IsLower}
use Rattle.run_counts.specs.Stages.{Stage, end_of}
use Rattle.response_laws.specs.Sums.{count}
use Rattle.response_laws.specs.Turns.{is_other}
use Rattle.response_laws.specs.Starts.{IsRaisedTurn, InSection}
use Rattle.response_laws.proofs.Linked.{Known, Linked}
use Rattle.response_laws.proofs.LowerSpending.{blocked_before}
use Rattle.response_laws.proofs.Steps.{turn_active}

module _ (config : Config) (app : App) (h b : ℕ) (lower : IsLower config h b) where
  pub blocks_of : (x : Stage) → Known config app x → IsRaisedTurn config h b x → Blocks config h x.found b
  blocks_of x k r = record { declared = lower.0; active = turn_active config app b x k r.turn; lower = lower.1; raised = r.raised }

  -- where b does not block, no other event follows
  pub none_follow : (at : ℕ) (s : System) (xs : List Stage) → Linked at s xs → AllByRecursion (Known config app) xs → InSection config h b xs
      → (Blocks config h s b → ⊥) → count (is_other config h) xs ≤ 0
  none_follow at s [] l k section away = omega arith
  none_follow at s (x ∷ xs) l k section away =
      by (is_other config h x) refl (λ other. none_follow (end_of x) x.next xs l.2 k.1 section.1 (λ blocks. here (blocked_before config app h x k.0 other b blocks)))
    where
      here : Blocks config h x.found b → ⊥
      here blocks = away (subst (λ (y : System). Blocks config h y b) l.1 blocks)

      by : (o : Bool) → is_other config h x ≡ o → (is_other config h x ≡ false → count (is_other config h) xs ≤ 0) → cond o 1 0 + count (is_other config h) xs ≤ 0
      by true is rest = absurd (here (blocks_of x k.0 (section.0 is)))
      by false is rest = let none = rest is in omega (arith, none)
