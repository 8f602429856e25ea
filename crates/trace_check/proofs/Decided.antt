-- One pass, and one comparison of counts, decide when arrivals are admitted.
use Rattle.std.proofs.Common.{◌≡◌, ◌∙◌, ℕ, ◌<◌, ◌≤◌, ◌⊎◌, inl, inr, List, Bool, true, false, Option, Some, None, get_or, length, map, take, drop, refl, sym, ap, subst, arith}
use Rattle.std.specs.Prelude.{◌||◌, All, ltb}
use Rattle.std.specs.Bool.{Decides}
use Rattle.std.specs.Ordering.{nat_cmp}
use Rattle.std.specs.List.Sorted.{IsPermutation, IsSorted}
use Rattle.std.proofs.lemmas.Bool.{false≢true, true≢false, ltb-false}
use Rattle.std.proofs.lemmas.List.{take-append-drop}
use Rattle.std.proofs.lemmas.List.Sorted.{IsNonDecreasingBy-from_sort}
use Rattle.sloth_base.specs.Arrivals.{AreRisingMoments}
use Rattle.sloth_base.specs.declared.config.Config.{Config}
use Rattle.sloth_base.specs.declared.service.Arrival.{Arrival}
use Rattle.sloth_base.specs.declared.service.Stamped.{Stamped}
use Rattle.sloth_base.specs.Events.{admitted_line}
use Rattle.osek_scheduler.specs.InTime.{InTime, AreAllAdmitted, AreLeftOut, others, longest_cut_off_stretch}
use Rattle.trace_check.specs.Scan.{Scan, scan_start, scan_after_events}
use Rattle.trace_check.proofs.ScanOrder.{MayFollow, IsBehindScan}
use Rattle.trace_check.specs.Counts.{AreLinesInRange, SameCounts, admit_numbers, arrival_number, may_leave, last_moment, times}
use Rattle.trace_check.proofs.Endings.{Ending}
use Rattle.trace_check.specs.Timed.{KeptPass, is_late, NeverInTime, TimedBy}
use Rattle.trace_check.proofs.Counts.{counts_permuted, same_rising, rises}
use Rattle.trace_check.proofs.Scan.{scan_sound, scan_complete, scan_ends}
use Rattle.trace_check.proofs.Order.{keeps_from_order, order_from_keeps}
use Rattle.trace_check.proofs.Tail.{ends_well, ending_all, ending_left}

-- ---- two lists of numbers, sorted

pub decides_counts : (admits arrivals xs ys : List ℕ) → IsPermutation admits xs → IsPermutation arrivals ys → IsSorted nat_cmp xs → IsSorted nat_cmp ys
    → (b : Bool) → Decides b (xs ≡ ys) → Decides b (SameCounts admits arrivals)
decides_counts admits arrivals xs ys p q sorted others b decides = (
  λ is x. counts_permuted admits xs p x ∙ (ap (λ (l : List ℕ). times x l) (decides.0 is) ∙ sym (counts_permuted arrivals ys q x)),
  λ same. decides.1 (same_rising xs ys (rises xs (IsNonDecreasingBy-from_sort (λ x. x) xs sorted)) (rises ys (IsNonDecreasingBy-from_sort (λ x. x) ys others))
      (λ x. sym (counts_permuted admits xs p x) ∙ (same x ∙ counts_permuted arrivals ys q x))),
)

-- ---- the pass and the comparison

pub starting : (arrivals : List Arrival) (events : List Stamped) → All (MayFollow (scan_start arrivals)) events
starting arrivals events k d lt = by (admitted_line (get_or events k d).event)
  where
    by : (o : Option ℕ) → IsBehindScan (scan_start arrivals) o (get_or events k d).stamp.from (get_or events k d).stamp.at
    by (Some t) = omega arith
    by None = (omega arith, omega arith)

scan_is : (config : Config) (n : ℕ) (arrivals : List Arrival) (events : List Stamped) → InTime config n arrivals events → (end : Scan) × (scan_after_events n (Some (scan_start arrivals)) events ≡ Some end)
scan_is config n arrivals events h =
    scan_complete n events (scan_start arrivals) (omega arith) (record {
      stamped = h.stamped;
      placed = h.placed;
      follows = starting arrivals events;
      keeps = keeps_from_order arrivals events h.in_order;
    })

module _ (config : Config) (n : ℕ) (arrivals : List Arrival) (events : List Stamped) (small : AreLinesInRange events) (lines : All (λ a. a.line < 4294967296) arrivals) (rising : AreRisingMoments 1 arrivals) where
  abbrev count : ℕ
  count = length (admit_numbers events)

  in_time_of : (end : Scan) → scan_after_events n (Some (scan_start arrivals)) events ≡ Some end → Ending config n arrivals events end.ends → InTime config n arrivals events
  in_time_of end h ending =
      let facts = scan_sound n events (scan_start arrivals) end (omega arith) h in
      record {
        stamped = facts.stamped;
        placed = facts.placed;
        in_order = order_from_keeps arrivals events facts.keeps;
        admitted =
            ends_well config arrivals events small lines n facts.stamped rising end.ends (λ k le. ((scan_ends n k events (scan_start arrivals) end h).0 le).1)
            (take count arrivals) (drop count arrivals) (sym (take-append-drop count arrivals)) ending.same ending.leaves;
      }

  ending_is : (end : Scan) → scan_after_events n (Some (scan_start arrivals)) events ≡ Some end → InTime config n arrivals events → Ending config n arrivals events end.ends
  ending_is end scans h = by h.admitted
    where
      by : AreAllAdmitted n arrivals events ⊎ ((k : ℕ) × AreLeftOut config n arrivals events k) → Ending config n arrivals events end.ends
      by (inl all) = ending_all config arrivals events small lines n h.stamped rising end.ends all
      by (inr left) =
          ending_left config arrivals events small lines n h.stamped rising end.ends left.0
          ((scan_ends n left.0 events (scan_start arrivals) end scans).1 (omega arith, left.1.behind)) left.1

  never : NeverInTime n arrivals events → InTime config n arrivals events → ⊥
  never (inl none) h = let scan = scan_is config n arrivals events h in some_none scan.0 (sym scan.1 ∙ none)
    where
      some_none : (s : Scan) → Some s ≡ None → ⊥
      some_none s e = cc
  never (inr many) h =
      let scan = scan_is config n arrivals events h in
      let enough = (ending_is scan.0 scan.1 h).enough in
      omega (arith, enough, many)

-- ---- the three answers

module _ (kept : KeptPass) (rising : AreRisingMoments 1 kept.arrivals) (lines : All (λ a. a.line < 4294967296) kept.arrivals) (events : List Stamped) (small : AreLinesInRange events) (timed : TimedBy events kept) where
  abbrev IsInTime : Type 0
  IsInTime = InTime kept.config kept.n kept.arrivals events

  pub late_in_time : is_late kept ≡ true → Decides false IsInTime
  late_in_time late = (λ e. absurd (false≢true e), λ h. absurd (never kept.config kept.n kept.arrivals events small lines rising (timed.late late) h))

  abbrev front : List ℕ → List Arrival
  front admits = take (length admits) kept.arrivals

  abbrev back : List ℕ → List Arrival
  back admits = drop (length admits) kept.arrivals

  module _ (early : is_late kept ≡ false) where
    enough : length kept.admits ≤ length kept.arrivals
    enough = by kept.stopped early
      where
        by : (b : Bool) → (b || ltb (length kept.arrivals) (length kept.admits)) ≡ false → length kept.admits ≤ length kept.arrivals
        by true e = absurd (true≢false e)
        by false e = ltb-false (length kept.arrivals) (length kept.admits) e

    ending_of : SameCounts kept.admits (map arrival_number (front kept.admits))
        → may_leave kept.n kept.most kept.scan.ends (last_moment (front kept.admits)) (back kept.admits) ≡ true → Ending kept.config kept.n kept.arrivals events kept.scan.ends
    ending_of same leaves =
        let is = (timed.timely early).admits in
        let long = ap length is in
        let P : List ℕ → Type 0 = λ l. SameCounts l (map arrival_number (front l)) in
        let Q : List ℕ → ℕ → Type 0 = λ l most. may_leave kept.n most kept.scan.ends (last_moment (front l)) (back l) ≡ true in
        let some = enough in
        record {
          enough = omega (arith, some, long);
          same = subst P is same;
          leaves = subst (λ (most : ℕ). Q (admit_numbers events) most) (timed.timely early).most (subst (λ (l : List ℕ). Q l kept.most) is leaves);
        }

    pub others_in_time : Decides false (SameCounts kept.admits (map arrival_number (front kept.admits))) → Decides false IsInTime
    others_in_time decides =
        let is = (timed.timely early).admits in
        let P : List ℕ → Type 0 = λ l. SameCounts l (map arrival_number (front l)) in (
          λ e. absurd (false≢true e),
          λ h.
              let ending = ending_is kept.config kept.n kept.arrivals events small lines rising kept.scan (timed.timely early).scans h in
              absurd (false≢true (decides.1 (subst P (sym is) ending.same))),
        )

    pub decided : Decides true (SameCounts kept.admits (map arrival_number (front kept.admits))) → (b : Bool)
        → b ≡ may_leave kept.n kept.most kept.scan.ends (last_moment (front kept.admits)) (back kept.admits) → Decides b IsInTime
    decided decides b is = (yes, no)
      where
        yes : b ≡ true → IsInTime
        yes e = in_time_of kept.config kept.n kept.arrivals events small lines rising kept.scan (timed.timely early).scans (ending_of (decides.0 refl) (sym is ∙ e))

        no : IsInTime → b ≡ true
        no h =
            let ending = ending_is kept.config kept.n kept.arrivals events small lines rising kept.scan (timed.timely early).scans h in
            let Q : List ℕ → ℕ → Type 0 = λ l most. may_leave kept.n most kept.scan.ends (last_moment (front l)) (back l) ≡ true in
            is ∙ subst (λ (most : ℕ). Q kept.admits most) (sym (timed.timely early).most) (subst (λ (l : List ℕ). Q l (longest_cut_off_stretch kept.config events)) (sym (timed.timely early).admits) ending.leaves)
