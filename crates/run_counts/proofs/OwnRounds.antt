-- What the own counts of a task in a round come to.
use Rattle.std.proofs.Common.{◌≡◌, ℕ, ◌+◌, ◌≤◌, ◌⊎◌, List, [], ◌∷◌, ◌++◌, Bool, true, false, cond, refl, ap, subst, arith, inl, inr}
use Rattle.std.specs.List.{AllByRecursion}
use Rattle.std.proofs.lemmas.Bool.{cases_Bool, and_parts}
use Rattle.sloth_base.specs.declared.config.Config.{Config}
use Rattle.sloth_base.specs.declared.app.App.{App}
use Rattle.osek_scheduler.specs.State.{opening}
use Rattle.osek_scheduler.proofs.Facts.{facts}
use Rattle.osek_scheduler.proofs.Leading.{follows_leads}
use Rattle.osek_blocking.specs.Pace.{takes_line}
use Rattle.sim_induction.specs.Pace.{ItemSizes}
use Rattle.run_counts.specs.Stages.{Stage, is_running, unseen, spanned, own, run_stages}
use Rattle.run_counts.specs.Laws.{IsWithinWeights}
use Rattle.run_counts.specs.Rounds.{closes_round, round_of, total, charged_to}
use Rattle.run_counts.specs.OwnCounts.{is_preempted, if_preempted, IsOwn, begun, IsBehindItem, paced_at, RoundsOwnWithinItems}
use Rattle.run_counts.proofs.Staged.{keeps_weights}
use Rattle.run_counts.proofs.Rounded.{rounds_within}
use Rattle.run_counts.proofs.Owned.{HasParts, run_owned, first_of}
use Rattle.run_counts.proofs.Gaps.{line_facts, preempts_within}

-- ---- what holds of all stages

second_of : (P Q : Stage → Type 0) (xs : List Stage) → AllByRecursion (λ x. P x × Q x) xs → AllByRecursion Q xs
second_of P Q [] h = tt
second_of P Q (x ∷ xs) h = (h.0.1, second_of P Q xs h.1)

-- holds of those behind others
behind_others : (P : Stage → Type 0) (before : List Stage) (first : Stage) (behind : List Stage) → AllByRecursion P (before ++ first ∷ behind) → AllByRecursion P behind
behind_others P [] first behind h = h.1
behind_others P (x ∷ before) first behind h = behind_others P before first behind h.1

-- and of those of a round
in_round : (P : Stage → Type 0) (cuts : Bool) (t : ℕ) (xs : List Stage) → AllByRecursion P xs → AllByRecursion P (round_of cuts t xs)
in_round P cuts t [] h = tt
in_round P cuts t (x ∷ xs) h = (h.0, by (closes_round cuts t x.stamped.event) (in_round P cuts t xs h.1))
  where
    by : (b : Bool) → AllByRecursion P (round_of cuts t xs) → AllByRecursion P (cond b [] (round_of cuts t xs))
    by true rest = tt
    by false rest = rest

-- ---- sums

total_is : (f g h : Stage → ℕ) (xs : List Stage) → AllByRecursion (λ x. f x ≡ g x + h x) xs → total f xs ≡ total g xs + total h xs
total_is f g h [] all = refl
total_is f g h (x ∷ xs) all =
    let one = all.0 in
    let rest = total_is f g h xs all.1 in
    omega (arith, one, rest)

total_at_most : (f g : Stage → ℕ) (xs : List Stage) → AllByRecursion (λ x. f x ≤ g x) xs → total f xs ≤ total g xs
total_at_most f g [] all = omega arith
total_at_most f g (x ∷ xs) all =
    let one = all.0 in
    let rest = total_at_most f g xs all.1 in
    omega (arith, one, rest)

totals_at_most : (f g h : Stage → ℕ) (xs : List Stage) → AllByRecursion (λ x. f x + g x ≤ h x) xs → total f xs + total g xs ≤ total h xs
totals_at_most f g h [] all = omega arith
totals_at_most f g h (x ∷ xs) all =
    let one = all.0 in
    let rest = totals_at_most f g h xs all.1 in
    omega (arith, one, rest)

-- ---- preemptions

module _ (config : Config) (t : ℕ) where
  takes_then : (x : Stage) → is_preempted config t x ≡ true → takes_line x.stamped.event ≡ true
  takes_then x is = (and_parts (takes_line x.stamped.event) (is_running config x.found t) is).0

  -- with its own counts an entry or a tick has those in front of it within its weight
  entries_within : (app : App) (size : ItemSizes) (longest : ℕ) (xs : List Stage) → AllByRecursion (IsWithinWeights config app size longest) xs
      → AllByRecursion HasParts xs
      → AllByRecursion (λ x. if_preempted config t unseen x + if_preempted config t spanned x ≤ if_preempted config t (paced_at config app size longest) x) xs
  entries_within app size longest [] within parts = tt
  entries_within app size longest (x ∷ xs) within parts = (by (cases_Bool (is_preempted config t x)), entries_within app size longest xs within.1 parts.1)
    where
      by : (is_preempted config t x ≡ true) ⊎ (is_preempted config t x ≡ false)
          → if_preempted config t unseen x + if_preempted config t spanned x ≤ if_preempted config t (paced_at config app size longest) x
      by (inl is) =
          let facts = line_facts x.stamped.event (takes_then x is) in
          let le = within.0 facts.0 facts.1 in
          let has = parts.0 in
          let a = ap (λ b. cond b (unseen x) 0) is in
          let c = ap (λ b. cond b (spanned x) 0) is in
          let d = ap (λ b. cond b (paced_at config app size longest x) 0) is in
          omega (arith, le, has, a, c, d)
      by (inr other) =
          let a = ap (λ b. cond b (unseen x) 0) other in
          let c = ap (λ b. cond b (spanned x) 0) other in
          omega (arith, a, c)

  -- what stands in front of it is within the item that the task has begun
  begun_at_most : (size : ItemSizes) (xs : List Stage) → AllByRecursion (IsBehindItem config size t) xs
      → AllByRecursion (λ x. if_preempted config t unseen x ≤ if_preempted config t (begun size t) x) xs
  begun_at_most size [] within = tt
  begun_at_most size (x ∷ xs) within = (by (cases_Bool (is_preempted config t x)), begun_at_most size xs within.1)
    where
      by : (is_preempted config t x ≡ true) ⊎ (is_preempted config t x ≡ false) → if_preempted config t unseen x ≤ if_preempted config t (begun size t) x
      by (inl is) =
          let le = within.0 is in
          let a = ap (λ b. cond b (unseen x) 0) is in
          let c = ap (λ b. cond b (begun size t x) 0) is in
          omega (arith, le, a, c)
      by (inr other) = let a = ap (λ b. cond b (unseen x) 0) other in omega (arith, a)

-- ---- the laws

pub own_within_items : RoundsOwnWithinItems
own_within_items config app size longest n t cuts weights arrivals events wf run timed keeps weighs ends before behind first is opens =
    let whole = run_stages config app events in
    let round = round_of cuts t behind in
    let w = facts config app wf in
    let leads = follows_leads config app [] (opening config app) events run.0 run.1 in
    let own_all : AllByRecursion (λ x. IsOwn config t x × HasParts x) whole = run_owned config app w n t arrivals events run.0 leads timed in
    let part : (P : Stage → Type 0) → AllByRecursion P whole → AllByRecursion P round =
    λ P h. in_round P cuts t behind (behind_others P before first behind (subst (AllByRecursion P) is h)) in
    let sum = total_is (own config t) (charged_to t) (if_preempted config t unseen) round (part (IsOwn config t) (first_of (IsOwn config t) HasParts whole own_all)) in
    let items = rounds_within config app size longest n t cuts weights events wf run keeps weighs ends before behind first is opens in
    record {
      with_entries =
          let entries = totals_at_most (if_preempted config t unseen) (if_preempted config t spanned) (if_preempted config t (paced_at config app size longest)) round
          (entries_within config t app size longest round
          (part (IsWithinWeights config app size longest) (keeps_weights config app size longest n events run keeps))
          (part HasParts (second_of (IsOwn config t) HasParts whole own_all))) in
          omega (arith, sum, items, entries);
      alone =
          let items_begun = total_at_most (if_preempted config t unseen) (if_preempted config t (begun size t)) round
          (begun_at_most config t size round
          (part (IsBehindItem config size t) (preempts_within config app size longest n t events run keeps))) in
          omega (arith, sum, items, items_begun);
    }
