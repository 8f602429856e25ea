-- The summaries of all functions, in an order in which each stands behind those that it calls.
use Rattle.std.proofs.Common.{◌≡◌, ℕ, ◌+◌, ◌<◌, ◌≤◌, List, [], length, get_or, set, take, Option, ap, sym, ◌∙◌, subst, arith, ⊎_elim}
use Rattle.std.proofs.lemmas.Bool.{cases_eq, false≢true}
use Rattle.std.proofs.lemmas.List.{get_or-set_same, get_or-set_other, length-set, take_all}
use Rattle.sloth_base.specs.declared.config.Config.{Config}
use Rattle.sloth_base.specs.declared.app.App.{App}
use Rattle.code_rules.specs.Code.{HasCall, is_in}
use Rattle.code_rules.specs.WellFormed.{WellFormed}
use Rattle.walk_sums.proofs.Bodily.{facts_of}
use Rattle.walk_sums.proofs.Reached.{called_known}
use Rattle.bound_rules.specs.declared.bound.Summary.{Summary}
use Rattle.bound_rules.specs.declared.bound.BodyWeights.{BodyWeights}
use Rattle.walk_sums.specs.CallOrder.{IsCallOrder}
use Rattle.bound_rules.specs.Summaries.{summary_of, unknown, IsCountedUp}
use Rattle.walk_sums.specs.declared.levels.Kind.{Kind}
use Rattle.walk_sums.specs.Known.{IsSummary, AreSums}
use Rattle.walk_sums.proofs.OrderSummaries.{AreSummariesOf}
use Rattle.walk_sums.proofs.Ordering.{member, one_more}

unknown_small : IsCountedUp unknown
unknown_small = record { on = omega arith; back = omega arith; most = omega arith; out = omega arith }

module _ (config : Config) (app : App) (weights : List BodyWeights) (kind : Kind) (level : Option ℕ) where
  -- nothing is summarised
  pub none_summed : (table : List Summary) → length table ≡ length app.funcs → ((g : ℕ) → summary_of table g ≡ unknown) → AreSummariesOf config app weights kind level [] table
  none_summed table count none = record {
    count = count;
    small = λ g. subst IsCountedUp (sym (none g)) unknown_small;
    each = λ f h. absurd (false≢true h);
  }

  -- the functions that one calls, where all are summed
  pub known_called : (table : List Summary) → WellFormed config app → (f g : ℕ) → AreSums config app weights kind level table → HasCall app f g
      → IsSummary config app weights kind level g (summary_of table g)
  known_called table w f g s calls = s.each g (called_known config app (facts_of config app w) f g calls)

  module _ (order : List ℕ) (o : IsCallOrder app order) (table : List Summary) (k : ℕ) (s : AreSummariesOf config app weights kind level (take k order) table) (lt : k < length order) where
    -- the next function
    pub next_known : get_or order k 0 < length app.funcs
    next_known = o.inside (get_or order k 0) (member order k lt)

    pub next_inside : get_or order k 0 < length table
    next_inside = let n = next_known in let c = s.count in omega (arith, n, c)

    -- the functions that it calls are summarised
    pub called_summed : (g : ℕ) → HasCall app (get_or order k 0) g → IsSummary config app weights kind level g (summary_of table g)
    called_summed g calls = s.each g (o.behind k g lt calls)

    pub one_summed : (summary : Summary) → IsSummary config app weights kind level (get_or order k 0) summary → IsCountedUp summary
        → AreSummariesOf config app weights kind level (take (k + 1) order) (set table (get_or order k 0) summary)
    one_summed summary is small = record {
      count = length-set table x summary ∙ s.count;
      small = λ g. ⊎_elim
          (λ e. subst (λ y. IsCountedUp (summary_of (set table x summary) y)) (sym e) (subst IsCountedUp (sym here) small))
          (λ n. subst IsCountedUp (sym (get_or-set_other table x g summary unknown n)) (s.small g))
          (cases_eq g x);
      each = λ f h. ⊎_elim
          (λ e. subst (λ y. IsSummary config app weights kind level y (summary_of (set table x summary) y)) (sym e) (subst (IsSummary config app weights kind level x) (sym here) is))
          (λ n. subst (IsSummary config app weights kind level f) (sym (get_or-set_other table x f summary unknown n))
          (s.each f (⊎_elim (λ g. g) (λ e. absurd (n (sym e))) (one_more order k f lt h))))
          (cases_eq f x);
    }
      where
        x : ℕ
        x = get_or order k 0

        here : summary_of (set table x summary) x ≡ summary
        here = get_or-set_same table x summary unknown next_inside

  -- all are
  pub all_summed : (order : List ℕ) → IsCallOrder app order → (table : List Summary) (k : ℕ) → length order ≤ k → AreSummariesOf config app weights kind level (take k order) table
      → AreSums config app weights kind level table
  all_summed order o table k le s = record {
    count = s.count;
    small = s.small;
    each = λ f lt. s.each f (ap (is_in f) (take_all k order le) ∙ o.all f lt);
  }
