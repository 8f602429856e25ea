-- Each count of a stage is an entry's or a tick's, of a task's own counts, or one of other events and lower tasks.
use Rattle.std.proofs.Common.{◌≡◌, ℕ, ◌+◌, ◌<◌, ◌≤◌, ◌⊎◌, ◌==◌, List, [], ◌∷◌, Bool, true, false, not, cond, length, refl, sym, ap, ◌∙◌, subst, arith, inl, inr}
use Rattle.std.specs.List.{AllByRecursion}
use Rattle.std.proofs.lemmas.Bool.{cases_Bool, eq-eqb, false≢true, true≢false, eqb-true}
use Rattle.sloth_base.specs.declared.config.Config.{Config}
use Rattle.sloth_base.specs.declared.app.App.{App}
use Rattle.sloth_base.specs.declared.service.Event.{Event}
use Rattle.sloth_base.specs.declared.service.Event.TheVariants as event
use Rattle.osek_scheduler.specs.declared.state.TaskState.TheVariants as mode
use Rattle.osek_scheduler.specs.State.{task}
use Rattle.osek_scheduler.specs.Steps.{OsekStep}
use Rattle.osek_scheduler.specs.Apart.{IsActive}
use Rattle.std.specs.Prelude.{◌-◌, is_some, is_none}
use Rattle.sloth_base.specs.Options.{is_number}
use Rattle.sloth_base.specs.Events.{admitted_line}
use Rattle.osek_scheduler.specs.InTime.{is_admit}
use Rattle.osek_blocking.specs.Pace.{takes_line}
use Rattle.run_counts.specs.Stages.{Stage, charged, spanned, own, is_entry, turn_task}
use Rattle.run_counts.specs.Rounds.{total}
use Rattle.run_counts.specs.OwnCounts.{unowned, IsShared}
use Rattle.response_laws.specs.Sums.{total_where, is_over, sum_over, sum_counters}
use Rattle.response_laws.specs.Shares.{share_of, lower_own, lower_counts}
use Rattle.response_laws.specs.Turns.{ticking_counter, at_entry, at_tick, is_other_event, is_other, if_entry}
use Rattle.response_laws.proofs.Sums.{sum_below-term, sum_below-join, sum_over-term, sum_over-join}
use Rattle.response_laws.proofs.Attributed.{IsDeclared}
use Rattle.response_laws.proofs.Linked.{Known}
use Rattle.response_laws.proofs.OwnShares.{own_at_rest}

over_of : (b : Bool) → not b ≡ false → b ≡ true
over_of true is = refl
over_of false is = absurd (true≢false is)

module _ (config : Config) (app : App) (h : ℕ) where
  -- the counts of a task's entry and its own
  abbrev pub own_or_entry : (k : ℕ) → Stage → ℕ
  own_or_entry k x = if_entry k spanned x + share_of config k x

  -- what is no task's: of an entry of such a task, or of a tick
  lines : (e : Event) (v w : ℕ) → IsDeclared config e → is_other_event config h e ≡ false → cond (is_some (admitted_line e)) w 0 ≤ 0
      → cond (takes_line e) v (cond (is_none (turn_task e)) w 0)
      ≤ sum_counters config (λ c. cond (is_number c (ticking_counter e)) v 0) + sum_over config h (λ k. cond (is_entry k e) v 0)
  lines (event.Tick c) v w d other none =
      let term = sum_below-term (length config.counters) (λ k. cond (c == k) v 0) c d in
      let here = ap {B = ℕ} (λ b. cond b v 0) (eq-eqb c c refl) in
      omega (arith, term, here)
  lines (event.Enter t) v w d other none =
      let term = sum_over-term config h (λ k. cond (t == k) v 0) t d (over_of (is_over config h t) other) in
      let here = ap {B = ℕ} (λ b. cond b v 0) (eq-eqb t t refl) in
      omega (arith, term, here)
  lines e v w d other none = let no_other = ap {B = ℕ} (λ b. cond b 1 0) other in omega (arith, no_other, none)

  module _ (x : Stage) (k : Known config app x) where
    -- an entry finds its task not Active, so it has no counts of its own there
    own_is_share : (t : ℕ) → own config t x ≤ share_of config t x
    own_is_share t = by (at_entry t x) refl
      where
        away : at_entry t x ≡ true → IsActive x.found t → ⊥
        away is active = none x.stamped.event k.step is
          where
            differ : mode.Ready ≡ mode.Active → ⊥
            differ e = cc

            none : (e : Event) → OsekStep config app e x.found x.next → is_entry t e ≡ true → ⊥
            none (event.Enter u) step entry = differ (sym (subst (λ v. (task x.found v).state ≡ mode.Ready) (eqb-true u t entry) step.2) ∙ active)
            none e step entry = absurd (false≢true entry)

        by : (b : Bool) → at_entry t x ≡ b → own config t x ≤ cond b 0 (own config t x)
        by true is = let none = own_at_rest config app t x k (away is) in omega (arith, none)
        by false other = omega arith

    shares : (t : ℕ) → t < length config.tasks → own config t x ≤ lower_own config h x + sum_over config h (λ u. share_of config u x)
    shares t lt = by (cases_Bool (is_over config h t))
      where
        by : (is_over config h t ≡ true) ⊎ (is_over config h t ≡ false) → own config t x ≤ lower_own config h x + sum_over config h (λ u. share_of config u x)
        by (inl over) =
            let le = own_is_share t in
            let term = sum_over-term config h (λ u. share_of config u x) t lt over in
            omega (arith, le, term)
        by (inr below) =
            let here = ap {B = ℕ} (λ b. cond b 0 (own config t x)) below in
            let term = sum_below-term (length config.tasks) (λ u. cond (is_over config h u) 0 (own config u x)) t lt in
            omega (arith, here, term)

    admits_nothing : cond (is_admit x.stamped) (charged x) 0 ≤ 0
    admits_nothing = by (is_admit x.stamped)
      where
        by : (b : Bool) → cond b (cond b 0 (x.stamped.stamp.at + 1 - x.start)) 0 ≤ 0
        by true = omega arith
        by false = omega arith

    abbrev parts : ℕ
    parts = lower_counts config h x + sum_counters config (λ c. cond (at_tick c x) (spanned x) 0) + sum_over config h (λ u. own_or_entry u x)

    attributed_own : IsDeclared config x.stamped.event → IsShared config x → charged x ≤ parts
    attributed_own declared has = by (is_other config h x) refl
      where
        joined : sum_over config h (λ u. if_entry u spanned x) + sum_over config h (λ u. share_of config u x) ≤ sum_over config h (λ u. own_or_entry u x)
        joined = sum_over-join config h (λ u. if_entry u spanned x) (λ u. share_of config u x) (λ u. own_or_entry u x) (λ u. omega arith)

        by : (b : Bool) → is_other config h x ≡ b → charged x ≤ parts
        by true is = let here = ap {B = ℕ} (λ b. cond b (charged x) (lower_own config h x)) is in omega (arith, here)
        by false is = which has
          where
            here : lower_counts config h x ≡ lower_own config h x
            here = ap {B = ℕ} (λ b. cond b (charged x) (lower_own config h x)) is

            line : unowned x ≤ sum_counters config (λ c. cond (at_tick c x) (spanned x) 0) + sum_over config h (λ u. if_entry u spanned x)
            line = lines x.stamped.event (spanned x) (charged x) declared is admits_nothing

            which : IsShared config x → charged x ≤ parts
            which (inl le) =
                let a = line in
                let j = joined in
                let e = here in
                omega (arith, le, a, j, e)
            which (inr (t, lt, le)) =
                let a = line in
                let j = joined in
                let e = here in
                let own_of = shares t lt in
                omega (arith, le, a, j, e, own_of)

  -- the same of the stages of a list
  abbrev pub all_own_parts : List Stage → ℕ
  all_own_parts xs =
      total (lower_counts config h) xs + sum_counters config (λ c. total_where (at_tick c) spanned xs) + sum_over config h (λ u. total (own_or_entry u) xs)

  pub all_attributed_own : (xs : List Stage) → AllByRecursion (Known config app) xs → AllByRecursion (λ x. IsDeclared config x.stamped.event) xs
      → AllByRecursion (IsShared config) xs → total charged xs ≤ all_own_parts xs
  all_attributed_own [] k d s = omega arith
  all_attributed_own (x ∷ xs) k d s =
      let here = attributed_own x k.0 d.0 s.0 in
      let rest = all_attributed_own xs k.1 d.1 s.1 in
      let ticks = sum_below-join (length config.counters) (λ c. cond (at_tick c x) (spanned x) 0) (λ c. total_where (at_tick c) spanned xs)
      (λ c. total_where (at_tick c) spanned (x ∷ xs)) (λ c. omega arith) in
      let turns = sum_over-join config h (λ u. own_or_entry u x) (λ u. total (own_or_entry u) xs) (λ u. total (own_or_entry u) (x ∷ xs)) (λ u. omega arith) in
      omega (arith, here, rest, ticks, turns)
