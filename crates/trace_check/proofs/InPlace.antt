-- Events in front that are in place, and why events are not in time.
use Rattle.std.proofs.Common.{◌≡◌, ◌∙◌, ℕ, ◌+◌, ◌<◌, ◌≤◌, ◌⊎◌, inl, inr, List, [], ◌++◌, Option, Some, None, get_or, length, take, sym, ap, subst, arith}
use Rattle.std.proofs.lemmas.Bool.{cases_lt}
use Rattle.std.proofs.lemmas.List.{take_more}
use Rattle.sloth_base.specs.declared.service.Arrival.{Arrival}
use Rattle.sloth_base.specs.declared.service.Stamped.{Stamped}
use Rattle.sloth_base.specs.Events.{admitted_line}
use Rattle.osek_scheduler.specs.Meaning.{on_some}
use Rattle.trace_check.specs.Counts.{admit_numbers, with_admit}
use Rattle.trace_check.specs.Lateness.{AreInPlace, NonePasses, Passes}
use Rattle.trace_check.specs.Scan.{Scan, scan_start, scan_after_event, scan_after_events}
use Rattle.trace_check.proofs.Decided.{starting}
use Rattle.trace_check.proofs.Longer.{numbers_more, scanned_more}
use Rattle.trace_check.proofs.Order.{keeps_from_order, order_from_keeps}
use Rattle.trace_check.proofs.Scan.{scan_sound, scan_complete}

module _ (n : ℕ) (arrivals : List Arrival) where
  pub in_place_by : (events : List Stamped) (end : Scan) → scan_after_events n (Some (scan_start arrivals)) events ≡ Some end → AreInPlace n arrivals events
  in_place_by events end scans =
      let facts = scan_sound n events (scan_start arrivals) end (omega arith) scans in
      record { stamped = facts.stamped; placed = facts.placed; in_order = order_from_keeps arrivals events facts.keeps }

  out_of_place : (events : List Stamped) → scan_after_events n (Some (scan_start arrivals)) events ≡ None → AreInPlace n arrivals events → ⊥
  out_of_place events stops h =
      let scan = scan_complete n events (scan_start arrivals) (omega arith) (record {
        stamped = h.stamped;
        placed = h.placed;
        follows = starting arrivals events;
        keeps = keeps_from_order arrivals events h.in_order;
      }) in
      some_none scan.0 (sym scan.1 ∙ stops)
    where
      some_none : (s : Scan) → Some s ≡ None → ⊥
      some_none s e = cc

  -- the pass with one event more
  module _ (events : List Stamped) (i : ℕ) (d : Stamped) (inside : i < length events) (s : Scan) (scans : scan_after_events n (Some (scan_start arrivals)) (take i events) ≡ Some s) where
    pub scans_on : (o : Option Scan) → o ≡ scan_after_event n s (get_or events i d) → scan_after_events n (Some (scan_start arrivals)) (take (i + 1) events) ≡ o
    scans_on o step =
        ap (λ (l : List Stamped). scan_after_events n (Some (scan_start arrivals)) l) (take_more events i d inside)
        ∙ (scanned_more n (Some (scan_start arrivals)) (take i events) (get_or events i d)
        ∙ (ap (λ t. on_some t (λ x. scan_after_event n x (get_or events i d))) scans ∙ sym step))

    pub stops_at : None ≡ scan_after_event n s (get_or events i d) → AreInPlace n arrivals (take (i + 1) events) → ⊥
    stops_at step = out_of_place (take (i + 1) events) (scans_on None step)

-- the numbers of admissions with one event more
pub numbers_on : (events : List Stamped) (i : ℕ) (d : Stamped) → i < length events → (numbers more : List ℕ) → numbers ≡ admit_numbers (take i events)
    → more ≡ numbers ++ with_admit (admitted_line (get_or events i d).event) (get_or events i d).stamp.at [] → more ≡ admit_numbers (take (i + 1) events)
numbers_on events i d inside numbers more before is =
    is
    ∙ (ap (λ (l : List ℕ). l ++ with_admit (admitted_line (get_or events i d).event) (get_or events i d).stamp.at []) before
    ∙ (sym (numbers_more (take i events) (get_or events i d)) ∙ ap admit_numbers (sym (take_more events i d inside))))

-- one event more that does not pass the moment
pub none_more : (moment : ℕ) (events : List Stamped) (i : ℕ) → NonePasses moment events i → ((d : Stamped) → Passes moment (get_or events i d) → ⊥) → NonePasses moment events (i + 1)
none_more moment events i none last k d less = by (cases_lt k i)
  where
    by : (k < i) ⊎ (i ≤ k) → Passes moment (get_or events k d) → ⊥
    by (inl low) = none k d low
    by (inr high) =
        let same : i ≡ k = omega (arith, high, less) in
        let P : ℕ → Type 0 = λ j. Passes moment (get_or events j d) → ⊥ in
        subst P same (last d)
