-- Whether a task reaches what weighs 1 at the end of a walk alone.
use Rattle.std.proofs.Common.{◌≡◌, ℕ, suc, ◌+◌, ◌<◌, ◌≤◌, ◌⊎◌, inl, inr, Bool, true, false, leb, List, [], ◌∷◌, ◌++◌, length, None, refl, ap, sym, ◌∙◌, subst, arith}
use Rattle.std.specs.Prelude.{MatchBool, Decides}
use Rattle.std.specs.List.{AllByRecursion}
use Rattle.std.proofs.lemmas.Bool.{true≢false}
use Rattle.std.proofs.lemmas.Bool.Decides.{leb_tells}
use Rattle.sloth_base.specs.declared.config.Config.{Config}
use Rattle.sloth_base.specs.declared.app.App.{App}
use Rattle.sloth_base.specs.Named.{body_of}
use Rattle.sloth_base.specs.Limits.{size_limit}
use Rattle.osek_scheduler.proofs.Facts.{Facts}
use Rattle.osek_scheduler.proofs.Stacks.{has_body}
use Rattle.osek_blocking.specs.Walks.{Position, IsWalk}
use Rattle.osek_blocking.specs.Sections.{operation_at}
use Rattle.bound_rules.specs.declared.bound.Summary.{Summary}
use Rattle.bound_rules.specs.declared.bound.BodyWeights.{BodyWeights}
use Rattle.bound_rules.specs.Summaries.{summary_of}
use Rattle.walk_sums.specs.Weights.{ending_at, sum_of}
use Rattle.walk_sums.proofs.Reached.{reached_inside}
use Rattle.walk_sums.specs.declared.levels.Kind.TheVariants as kinds
use Rattle.walk_sums.specs.declared.counted.Counted.{Counted}
use Rattle.walk_sums.specs.Rounds.{Anywhere, IsTurn, Reaches}
use Rattle.walk_sums.specs.Counted.{CountsEnds, is_ending_counted, one_if, counted_weights}
use Rattle.walk_sums.specs.Parts.{SumsOn}
use Rattle.walk_sums.specs.Known.{IsExact, IsEndless, AreSums}
use Rattle.walk_sums.proofs.CountedWeights.{counted_fit, ending_is, ends_weightless}
use Rattle.walk_sums.proofs.Covering.{any_little}
use Rattle.walk_sums.proofs.Callers.{walked_to}
use Rattle.walk_sums.proofs.Clearing.{split, only_last, sum_is, anywhere}
use Rattle.walk_sums.proofs.Telling.{AreParts, first_parts, all_stand}

never : (app : App) (positions : List Position) → AllByRecursion (λ (at : Position). false ≡ false) positions
never app [] = tt
never app (at ∷ further) = (refl, never app further)

module _ (c : Counted) (ends : CountsEnds c) (config : Config) (app : App) (w : Facts config app) (table : List Summary)
    (are : AreSums config app (counted_weights c app) kinds.Turns None table) (t : ℕ) (declared : t < length config.tasks) where
  abbrev weights : List BodyWeights
  weights = counted_weights c app

  parts : AreParts (IsTurn app t) weights (SumsOn config app weights kinds.Turns None (body_of app.funcs t) 0)
  parts = first_parts config app w weights (counted_fit c app) kinds.Turns t declared (λ outer. None) Anywhere (all_stand config app)

  last_is : (before : List Position) (at : Position) → IsWalk app t (before ++ at ∷ []) → ending_at weights at ≡ one_if (is_ending_counted c (operation_at app at))
  last_is before [] walk =
      absurd (walked_to config app w t declared before [] [] walk).0
  last_is before (here ∷ outer) walk =
      let s = (walked_to config app w t declared before (here ∷ outer) [] walk).0 in
      ending_is c app here.func here.item s.0 (reached_inside config app w here.func here.item s.0 s.1)

  -- what counts, and a walk reaches it, weighs something
  reached_counts : (at : Position) → Reaches app t at → is_ending_counted c (operation_at app at) ≡ true → (positions : List Position) × IsTurn app t positions × (1 ≤ sum_of weights positions)
  reached_counts at (before, walk) e =
      let part : IsTurn app t (before ++ at ∷ []) = record {
        before = [];
        of_walk = walk;
        begins = refl;
        stands = anywhere (before ++ at ∷ []);
        unbroken = only_last app weights (ends_weightless c ends app) (λ o. false) before at (never app before);
      } in
      let sum = sum_is app weights (ends_weightless c ends app) (λ o. false) before at in
      let last = last_is before at walk ∙ ap one_if e in
      (before ++ at ∷ [], part, omega (arith, sum, last))

  -- what weighs something ends with one
  counted_reached : (positions : List Position) → IsTurn app t positions → 1 ≤ sum_of weights positions → (at : Position) × Reaches app t at × (is_ending_counted c (operation_at app at) ≡ true)
  counted_reached [] is le = absurd (omega (arith, le))
  counted_reached (at ∷ further) is le =
      let s = split app weights (ends_weightless c ends app) (λ o. false) at further is.unbroken in
      let P : List Position → Type 0 = λ b. IsWalk app t (b ++ (at ∷ further)) in
      let walk : IsWalk app t (at ∷ further) = subst P is.begins is.of_walk in
      let whole = subst (IsWalk app t) s.are walk in
      let sum = s.sum in
      (s.last, (s.between, whole), is_true (is_ending_counted c (operation_at app s.last)) (let e = last_is s.between s.last whole in e) (omega (arith, le, sum)))
    where
      is_true : {n : ℕ} → (b : Bool) → n ≡ one_if b → 1 ≤ n → b ≡ true
      is_true true e le = refl
      is_true false e le = absurd (omega (arith, e, le))

  pub none_decided : Decides (leb (summary_of table (body_of app.funcs t)).on 1) ((at : Position) → Reaches app t at → is_ending_counted c (operation_at app at) ≡ false)
  none_decided = by (summary_of table (body_of app.funcs t)).is_endless (are.each (body_of app.funcs t) (has_body config app w t declared).0)
    where
      by : (b : Bool) → MatchBool b (IsEndless config app weights kinds.Turns None (body_of app.funcs t)) (IsExact config app weights kinds.Turns None (body_of app.funcs t) (summary_of table (body_of app.funcs t)))
          → Decides (leb (summary_of table (body_of app.funcs t)).on 1) ((at : Position) → Reaches app t at → is_ending_counted c (operation_at app at) ≡ false)
      by true e =
          let large = e (suc size_limit) in
          let little = any_little config app weights kinds.Turns (ends_weightless c ends app) (counted_fit c app).small None (body_of app.funcs t) large.0 large.1 in
          let above = large.2 in
          absurd (let wrong : ⊥ = omega (arith, little, above) in wrong)
      by false x = at (leb_tells (summary_of table (body_of app.funcs t)).on 1)
        where
          capped : (positions : List Position) → IsTurn app t positions → (summary_of table (body_of app.funcs t)).on ≤ 1 → sum_of weights positions ≤ 0
          capped [] p le = omega arith
          capped (at ∷ further) p le = let small = x.on.none_larger (sum_of weights (at ∷ further)) (parts.built at further p) in omega (arith, small, le)

          none : (summary_of table (body_of app.funcs t)).on ≤ 1 → (at : Position) → Reaches app t at → is_ending_counted c (operation_at app at) ≡ false
          none le at r = test (is_ending_counted c (operation_at app at)) (λ e. reached_counts at r e)
            where
              test : (b : Bool) → (b ≡ true → (positions : List Position) × IsTurn app t positions × (1 ≤ sum_of weights positions)) → b ≡ false
              test false f = refl
              test true f = let p = f refl in let small = capped p.0 p.1 le in let some = p.2 in absurd (omega (arith, small, some))

          some : 1 < (summary_of table (body_of app.funcs t)).on → ((at : Position) → Reaches app t at → is_ending_counted c (operation_at app at) ≡ false) → ⊥
          some lt free =
              let a = x.on.attained (omega (arith, lt)) in
              let walk = parts.walked a.0 a.1 in
              let is = a.2 in
              let sum = walk.2 in
              let r = counted_reached walk.0 walk.1 (omega (arith, lt, is, sum)) in
              true≢false (sym r.2 ∙ free r.0 r.1)

          at : ((leb (summary_of table (body_of app.funcs t)).on 1 ≡ true) × ((summary_of table (body_of app.funcs t)).on ≤ 1))
              ⊎ ((leb (summary_of table (body_of app.funcs t)).on 1 ≡ false) × (1 < (summary_of table (body_of app.funcs t)).on))
              → Decides (leb (summary_of table (body_of app.funcs t)).on 1) ((at : Position) → Reaches app t at → is_ending_counted c (operation_at app at) ≡ false)
          at (inl le) = (λ e. none le.1, λ c. le.0)
          at (inr lt) = (λ e. absurd (true≢false (sym e ∙ lt.0)), λ c. absurd (some lt.1 c))
