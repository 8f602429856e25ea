-- Events that keep the pace, joined.
use Rattle.std.proofs.Common.{◌≡◌, ℕ, ◌+◌, ◌≤◌, List, [], ◌∷◌, ◌++◌, map, true, false, cond, refl, sym, ap, ◌∙◌, subst, arith}
use Rattle.std.specs.List.{AllByRecursion}
use Rattle.std.proofs.lemmas.Bool.{true≢false}
use Rattle.sloth_base.specs.declared.config.Config.{Config}
use Rattle.sloth_base.specs.declared.service.Arrival.{Arrival}
use Rattle.sloth_base.specs.declared.service.Event.{Event}
use Rattle.sloth_base.specs.declared.service.Stamped.{Stamped}
use Rattle.sloth_base.specs.declared.numbers.LineKind.{LineKind}
use Rattle.sloth_base.specs.declared.numbers.LineKind.TheVariants as line_of
use Rattle.sloth_base.specs.Events.{is_boot}
use Rattle.sloth_base.specs.Owners.{line_kind}
use Rattle.observe.specs.Observe.{View, stamp, admission, arrival_event}
use Rattle.osek_scheduler.specs.InTime.{is_admit}
use Rattle.osek_blocking.specs.Pace.{event_counts, last_count, IsPaced}
use Rattle.run_counts.specs.EntryLatency.{is_tick, IsShortTick}
use Rattle.run_counts.proofs.PacedRun.{LastsBriefly, BeginsWithBoot}

-- the events keep the pace behind count `at`, and the last of them ends at this one
pub record Continues (config : Config) (at : ℕ) (events : List Stamped) (to : ℕ) : Type 0 where
  pub paced : IsPaced at events
  pub last : last_count at events ≡ to
  pub brief : AllByRecursion (LastsBriefly config) events
  pub ticks : AllByRecursion (IsShortTick config) events

module _ (config : Config) where
  pub nothing : (at : ℕ) → Continues config at [] at
  nothing at = record { paced = tt; last = refl; brief = tt; ticks = tt }

  pub joined : (a b : List Stamped) (at between to : ℕ) → Continues config at a between → Continues config between b to → Continues config at (a ++ b) to
  joined [] b at between to f g = subst (λ k. Continues config k b to) (sym f.last) g
  joined (e ∷ a) b at between to f g =
      let rest = joined a b (cond (is_admit e) at e.stamp.at) between to (record { paced = f.paced.1; last = f.last; brief = f.brief.1; ticks = f.ticks.1 }) g in
      record { paced = (f.paced.0, rest.paced); last = rest.last; brief = (f.brief.0, rest.brief); ticks = (f.ticks.0, rest.ticks) }

  pub no_tick : (e : Stamped) → is_tick e.event ≡ false → IsShortTick config e
  no_tick e other c declared is = absurd (true≢false (sym (ap is_tick is) ∙ other))

  -- an admit in front leaves the pace as it is
  admit_in_front : (e : Stamped) (events : List Stamped) (at to : ℕ) → is_admit e ≡ true → LastsBriefly config e → is_tick e.event ≡ false
      → Continues config at events to → Continues config at (e ∷ events) to
  admit_in_front e events at to is brief tick f =
      let here : cond (is_admit e) at e.stamp.at ≡ at = ap (λ b. cond b at e.stamp.at) is in
      record {
        paced = (λ other. absurd (true≢false (sym is ∙ other)), subst (λ k. IsPaced k events) (sym here) f.paced);
        last = ap (λ k. last_count k events) here ∙ f.last;
        brief = (brief, f.brief);
        ticks = (no_tick e tick, f.ticks);
      }

  pub admissions : (view : View) (at : ℕ) (arrivals : List Arrival) → Continues config at (map (admission view) arrivals) at
  admissions view at [] = nothing at
  admissions view at (a ∷ arrivals) = by (line_kind view.owners a.line) (admissions view at arrivals)
    where
      by : (kind : LineKind) → Continues config at (map (admission view) arrivals) at
          → Continues config at (stamp a.at a.at (arrival_event kind) ∷ map (admission view) arrivals) at
      by (line_of.Task t) f = admit_in_front (stamp a.at a.at (arrival_event (line_of.Task t))) (map (admission view) arrivals) at at refl (omega arith) refl f
      by (line_of.Counter c) f = admit_in_front (stamp a.at a.at (arrival_event (line_of.Counter c))) (map (admission view) arrivals) at at refl (omega arith) refl f
      by line_of.Unused f = admit_in_front (stamp a.at a.at (arrival_event line_of.Unused)) (map (admission view) arrivals) at at refl (omega arith) refl f

  -- an event that is no admit
  pub one_event : (at from to : ℕ) (what : Event) → is_admit (stamp from to what) ≡ false → (is_boot what ≡ false → to ≤ at + event_counts (stamp from to what))
      → LastsBriefly config (stamp from to what) → IsShortTick config (stamp from to what) → Continues config at (stamp from to what ∷ []) to
  one_event at from to what other soon brief tick = record {
    paced = ((λ _ later. soon later), tt);
    last = ap (λ b. cond b at to) other;
    brief = (brief, tt);
    ticks = (tick, tt);
  }

-- what begins with an arrival does not begin with boot
pub admissions_alone : (view : View) (arrivals : List Arrival) → BeginsWithBoot (map (admission view) arrivals) → ⊥
admissions_alone view [] h = h
admissions_alone view (a ∷ arrivals) h = by (line_kind view.owners a.line) h
  where
    by : (kind : LineKind) → is_boot (arrival_event kind) ≡ true → ⊥
    by (line_of.Task t) h = cc
    by (line_of.Counter c) h = cc
    by line_of.Unused h = cc
