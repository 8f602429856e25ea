-- From a bound on events to one on counts.
use Rattle.std.proofs.Common.{◌≡◌, ℕ, ◌+◌, refl, ◌-◌, ◌*◌, ◌≤◌, ◌⊎◌, inl, inr, Bool, true, false, cond, List, [], ◌∷◌, ◌++◌, Some, sym, ◌∙◌, subst, arith}
use Rattle.std.proofs.lemmas.List.{append_assoc}
use Rattle.std.proofs.lemmas.Bool.{cases_Bool, cond-true, cond-false}
use Rattle.sloth_base.specs.declared.config.Config.{Config}
use Rattle.sloth_base.specs.declared.app.App.{App}
use Rattle.sloth_base.specs.declared.service.Event.{Event}
use Rattle.sloth_base.specs.declared.service.Event.TheVariants as event
use Rattle.sloth_base.specs.declared.service.Stamped.{Stamped}
use Rattle.osek_scheduler.specs.InTime.{is_admit}
use Rattle.sloth_base.specs.Events.{working_task}
use Rattle.sloth_base.specs.Limits.{item_counts}
use Rattle.osek_blocking.specs.Blocking.{is_entry_of, events_up_to_entry}
use Rattle.osek_blocking.specs.Kept.{is_lower, lower_events, KeepsBounds}
use Rattle.osek_blocking.specs.Pace.{last_count, EndsSoon, IsPaced}
use Rattle.osek_blocking.specs.Spent.{spent_counts, KeepsCounts}

-- events behind others keep the pace
pub behind_paced : (at : ℕ) (before behind : List Stamped) → IsPaced at (before ++ behind) → IsPaced (last_count at before) behind
behind_paced at [] behind p = p
behind_paced at (e ∷ before) behind p = behind_paced (cond (is_admit e) at e.stamp.at) before behind p.1

module _ (config : Config) (h : ℕ) where
  spends : (b : Bool) (at k : ℕ) → k ≤ at + item_counts → cond b (k - at) 0 ≤ item_counts * cond b 1 0
  spends true at k p = omega (arith, p)
  spends false at k p = omega arith

  one : (at from k : ℕ) (what : Event) → EndsSoon at (record { stamp = record { from = from; at = k }; event = what })
      → cond (is_lower config h (working_task what)) (k - at) 0 ≤ item_counts * cond (is_lower config h (working_task what)) 1 0
  one at from k (event.Run t func item result) p = spends (is_lower config h (Some t)) at k (p refl refl)
  one at from k (event.Call t served status) p = spends (is_lower config h (Some t)) at k (p refl refl)
  one at from k what p = omega arith

  within : (at : ℕ) (events : List Stamped) → IsPaced at events → spent_counts config h at events ≤ item_counts * lower_events config h events
  within at [] p = omega arith
  within at (e ∷ events) p =
      let le = one at e.stamp.from e.stamp.at e.event p.0 in
      let more = within (cond (is_admit e) at e.stamp.at) events p.1 in
      omega (arith, le, more)

  front_step : (at : ℕ) (e : Stamped) (events : List Stamped) → EndsSoon at e
      → IsPaced (cond (is_admit e) at e.stamp.at) (events_up_to_entry h events) → IsPaced at (events_up_to_entry h (e ∷ events))
  front_step at e events soon rest = by (cases_Bool (is_entry_of h e.event))
    where
      by : (is_entry_of h e.event ≡ true) ⊎ (is_entry_of h e.event ≡ false) → IsPaced at (events_up_to_entry h (e ∷ events))
      by (inl c) = subst (IsPaced at) (sym (cond-true _ [] (e ∷ events_up_to_entry h events) c)) tt
      by (inr c) = subst (IsPaced at) (sym (cond-false _ [] (e ∷ events_up_to_entry h events) c)) (soon, rest)

  front_paced : (at : ℕ) (events : List Stamped) → IsPaced at events → IsPaced at (events_up_to_entry h events)
  front_paced at [] p = tt
  front_paced at (e ∷ events) p = front_step at e events p.0 (front_paced (cond (is_admit e) at e.stamp.at) events p.1)

pub keeps_counts : (config : Config) (app : App) (events : List Stamped) → KeepsBounds config app events → IsPaced 0 events → KeepsCounts config app events
keeps_counts config app events keeps paced before behind made h b found s is leads makes bound =
    let at = last_count 0 (before ++ made ∷ []) in
    let whole : IsPaced 0 ((before ++ made ∷ []) ++ behind) = subst (IsPaced 0) (is ∙ sym (append_assoc before (made ∷ []) behind)) paced in
    let p = front_paced config h at behind (behind_paced 0 (before ++ made ∷ []) behind whole) in
    let le = within config h at (events_up_to_entry h behind) p in
    let most = keeps before behind made h b found s is leads makes bound in
    omega (arith, le, most)
