-- One pass decides stamps, places and order.
use Rattle.std.proofs.Common.{◌≡◌, ◌∙◌, ℕ, suc, ◌+◌, ◌<◌, ◌≤◌, List, [], ◌∷◌, Bool, true, false, cond, max, map, get_or, Option, Some, None, refl, sym, ap, subst, arith}
use Rattle.std.specs.Prelude.{◌==◌, ◌&&◌, leb, ltb, ◌↔◌, All, AllPairs, is_some, not}
use Rattle.std.proofs.lemmas.Bool.{and_parts, and_from, eqb-true, eq-eqb, leb-true, le-leb}
use Rattle.std.proofs.lemmas.Bool.Decides.{Decides-ltb}
use Rattle.std.proofs.lemmas.Option.{same_Some}
use Rattle.std.proofs.lemmas.List.Elements.{All-cons, All-head, All-tail}
use Rattle.std.proofs.lemmas.List.Kept.{AllPairs-cons}
use Rattle.sloth_base.specs.declared.service.Arrival.{Arrival}
use Rattle.sloth_base.specs.declared.service.Event.TheVariants as event
use Rattle.sloth_base.specs.declared.service.Stamped.{Stamped}
use Rattle.osek_scheduler.specs.Meaning.{on_some}
use Rattle.osek_scheduler.proofs.Tests.{if_true_some, if_true_is, on_some_from}
use Rattle.sloth_base.specs.Events.{admitted_line, is_single}
use Rattle.osek_scheduler.specs.InTime.{is_admit, HasSpan, IsStamped, StandsBefore, IsOrdered, IsSubsequence, others}
use Rattle.trace_check.specs.Scan.{Scan, behind_first, from_moment, is_stamped, scan_after_admit, scan_after_other, scan_after_line, scan_after_event, scan_after_events}
use Rattle.trace_check.proofs.ScanOrder.{key_of, arrival_key, front_admits, IsOrderKeptBehind, IsOrderKept, IsBehindScan, MayFollow}
use Rattle.trace_check.proofs.Subsequences.{found_right, found_left, AreFrom, trim_right, trim_left}

-- ---- stamps

spans_of : (single : Bool) (e : Stamped) → cond single (e.stamp.from == e.stamp.at) (leb e.stamp.from e.stamp.at) ≡ true → (e.stamp.from ≤ e.stamp.at) × HasSpan single e
spans_of true e h = let same = eqb-true e.stamp.from e.stamp.at h in (omega (arith, same), same)
spans_of false e h = (leb-true e.stamp.from e.stamp.at h, tt)

spans_is : (single : Bool) (e : Stamped) → e.stamp.from ≤ e.stamp.at → HasSpan single e → cond single (e.stamp.from == e.stamp.at) (leb e.stamp.from e.stamp.at) ≡ true
spans_is true e le h = eq-eqb e.stamp.from e.stamp.at h
spans_is false e le h = le-leb e.stamp.from e.stamp.at le

module _ (n : ℕ) where
  stamped_of : (e : Stamped) → is_stamped n e ≡ true → IsStamped n e
  stamped_of e h =
      let both = and_parts (cond (is_single e.event) (e.stamp.from == e.stamp.at) (leb e.stamp.from e.stamp.at)) (ltb e.stamp.at n) h in
      let spans = spans_of (is_single e.event) e both.0 in
      record { ordered = spans.0; spans = spans.1; below = (Decides-ltb e.stamp.at n).0 both.1 }

  stamped_is : (e : Stamped) → IsStamped n e → is_stamped n e ≡ true
  stamped_is e h =
      and_from (cond (is_single e.event) (e.stamp.from == e.stamp.at) (leb e.stamp.from e.stamp.at)) (ltb e.stamp.at n)
      (spans_is (is_single e.event) e h.ordered h.spans) ((Decides-ltb e.stamp.at n).1 h.below)

-- ---- one event

-- behind an admit
record AdmitStep (s : Scan) (t k : ℕ) (s1 : Scan) : Type 0 where
  begins : s.begins ≤ k
  rest : List Arrival
  found : behind_first k t s.rest ≡ Some rest
  is : s1 ≡ record s { latest = max s.latest k; rest = rest }

admit_step : (s : Scan) (t k : ℕ) (s1 : Scan) → scan_after_admit s t k ≡ Some s1 → AdmitStep s t k s1
admit_step s t k s1 h =
    let test = if_true_some (leb s.begins k) (on_some (behind_first k t s.rest) (λ rest. Some (record s { latest = max s.latest k; rest = rest }))) s1 h in
    let found = on_some_from (behind_first k t s.rest) (λ rest. Some (record s { latest = max s.latest k; rest = rest })) s1 test.1 in
    record {
      begins = leb-true s.begins k test.0;
      rest = found.0;
      found = found.1;
      is = sym (same_Some (record s { latest = max s.latest k; rest = found.0 }) s1 found.2);
    }

abbrev other_scan : Scan → ℕ → ℕ → Scan
other_scan s from at =
    record { ends = at + 1; begins = from + 1; latest = s.latest; base = from_moment (from + 1) s.base; rest = from_moment (from + 1) s.base }

-- behind another event
record OtherStep (s : Scan) (from at : ℕ) (s1 : Scan) : Type 0 where
  ends : s.ends ≤ from
  latest : s.latest ≤ at
  is : s1 ≡ other_scan s from at

other_step : (s : Scan) (from at : ℕ) (s1 : Scan) → scan_after_other s from at ≡ Some s1 → OtherStep s from at s1
other_step s from at s1 h =
    let test = if_true_some (leb s.ends from && leb s.latest at) (Some (other_scan s from at)) s1 h in
    let both = and_parts (leb s.ends from) (leb s.latest at) test.0 in
    record {
      ends = leb-true s.ends from both.0;
      latest = leb-true s.latest at both.1;
      is = sym (same_Some (other_scan s from at) s1 test.1);
    }

-- the pass never begins behind its end
abbrev IsFine : Scan → Type 0
IsFine s = s.begins ≤ s.ends

fine_next : (s : Scan) (o : Option ℕ) (from at : ℕ) (s1 : Scan) → from ≤ at → IsFine s → scan_after_line s o from at ≡ Some s1 → IsFine s1
fine_next s (Some t) from at s1 le fine h = let p = admit_step s t at s1 h in subst IsFine (sym p.is) fine
fine_next s None from at s1 le fine h = let p = other_step s from at s1 h in subst IsFine (sym p.is) (omega (arith, le))

-- what may follow behind one event more
module _ (s : Scan) (from at : ℕ) (le : from ≤ at) (fine : IsFine s) where
  abbrev Both : Option ℕ → Option ℕ → ℕ → ℕ → Type 0
  Both o p f a = IsBehindScan s p f a × StandsBefore (is_some o) (is_some p) (record { from = from; at = at }) (record { from = f; at = a })

  behind_admit : (t : ℕ) (rest : List Arrival) (p : Option ℕ) (f a : ℕ) → IsBehindScan (record s { latest = max s.latest at; rest = rest }) p f a ↔ Both (Some t) p f a
  behind_admit t rest (Some u) f a = (λ h. (h, tt), λ h. h.0)
  behind_admit t rest None f a = (
    λ h. let q = h.1 in ((h.0, omega (arith, q)), omega (arith, q)),
    λ h. let q = h.0.1 in let r = h.1 in (h.0.0, omega (arith, q, r)),
  )

  behind_other : s.ends ≤ from → s.latest ≤ at → (p : Option ℕ) (f a : ℕ) → IsBehindScan (other_scan s from at) p f a ↔ Both None p f a
  behind_other ends latest (Some u) f a = (
    λ h. (omega (arith, h, ends, fine), omega (arith, h)),
    λ h. let q = h.1 in omega (arith, q),
  )
  behind_other ends latest None f a = (
    λ h. let q = h.0 in let r = h.1 in ((omega (arith, q, ends, le), r), omega (arith, q)),
    λ h. let q = h.1 in (omega (arith, q), h.0.1),
  )

  next_follow : (o : Option ℕ) (s1 : Scan) → scan_after_line s o from at ≡ Some s1 → (p : Option ℕ) (f a : ℕ) → IsBehindScan s1 p f a ↔ Both o p f a
  next_follow (Some t) s1 h p f a =
      let step = admit_step s t at s1 h in
      let P : Scan → Type 0 = λ x. IsBehindScan x p f a ↔ Both (Some t) p f a in
      subst P (sym step.is) (behind_admit t step.rest p f a)
  next_follow None s1 h p f a =
      let step = other_step s from at s1 h in
      let P : Scan → Type 0 = λ x. IsBehindScan x p f a ↔ Both None p f a in
      subst P (sym step.is) (behind_other step.ends step.latest p f a)

-- ---- order

-- each admit of these events is of moment b or later
abbrev AdmitsFrom : ℕ → List Stamped → Type 0
AdmitsFrom b events = All (λ e. is_admit e ≡ true → b ≤ e.stamp.at) events

front_from : (b : ℕ) (events : List Stamped) → AdmitsFrom b events → AreFrom b (map key_of (front_admits events))
front_from b [] h = tt
front_from b (e ∷ events) h = by (front_from b events (All-tail (λ (x : Stamped). is_admit x ≡ true → b ≤ x.stamp.at) e events h)) (is_admit e) refl
  where
    by : AreFrom b (map key_of (front_admits events)) → (c : Bool) → is_admit e ≡ c → AreFrom b (map key_of (cond c (e ∷ front_admits events) []))
    by rest true is = (All-head (λ (x : Stamped). is_admit x ≡ true → b ≤ x.stamp.at) e events h is, rest)
    by rest false is = tt

behind_left : (b : ℕ) (base : List Arrival) (events : List Stamped) → AdmitsFrom b events → IsOrderKeptBehind base events → IsOrderKeptBehind (from_moment b base) events
behind_left b base [] from h = tt
behind_left b base (e ∷ events) from h = (by (is_admit e) h.0, behind_left b base events rest h.1)
  where
    rest : AdmitsFrom b events
    rest = All-tail (λ (x : Stamped). is_admit x ≡ true → b ≤ x.stamp.at) e events from

    by : (c : Bool) → cond c (Unit {0}) (IsSubsequence (map key_of (front_admits events)) (map arrival_key base))
        → cond c (Unit {0}) (IsSubsequence (map key_of (front_admits events)) (map arrival_key (from_moment b base)))
    by true h = tt
    by false h = trim_left b (map key_of (front_admits events)) base (front_from b events rest) h

behind_right : (b : ℕ) (base : List Arrival) (events : List Stamped) → IsOrderKeptBehind (from_moment b base) events → IsOrderKeptBehind base events
behind_right b base [] h = tt
behind_right b base (e ∷ events) h = (by (is_admit e) h.0, behind_right b base events h.1)
  where
    by : (c : Bool) → cond c (Unit {0}) (IsSubsequence (map key_of (front_admits events)) (map arrival_key (from_moment b base)))
        → cond c (Unit {0}) (IsSubsequence (map key_of (front_admits events)) (map arrival_key base))
    by true h = tt
    by false h = trim_right b (map key_of (front_admits events)) base h

keeps_left : (b : ℕ) (base : List Arrival) (events : List Stamped) → AdmitsFrom b events → IsOrderKept base base events → IsOrderKept (from_moment b base) (from_moment b base) events
keeps_left b base events from h = record {
  front = trim_left b (map key_of (front_admits events)) base (front_from b events from) h.front;
  behind = behind_left b base events from h.behind;
}

keeps_right : (b : ℕ) (base : List Arrival) (events : List Stamped) → IsOrderKept (from_moment b base) (from_moment b base) events → IsOrderKept base base events
keeps_right b base events h = record {
  front = trim_right b (map key_of (front_admits events)) base h.front;
  behind = behind_right b base events h.behind;
}

-- ---- all events

pub record Facts (n : ℕ) (s : Scan) (events : List Stamped) : Type 0 where
  pub stamped : All (IsStamped n) events
  pub placed : AllPairs IsOrdered events
  pub follows : All (MayFollow s) events
  pub keeps : IsOrderKept s.base s.rest events

module _ (n : ℕ) where
  scanned_none : (events : List Stamped) (s : Scan) → scan_after_events n None events ≡ Some s → ⊥
  scanned_none [] s h = absurd cc
  scanned_none (e ∷ events) s h = scanned_none events s h

  no_facts : (s : Scan) → Facts n s []
  no_facts s = record {
    stamped = λ k d h. absurd (omega (arith, h));
    placed = λ i j d h l. absurd (omega (arith, l));
    follows = λ k d h. absurd (omega (arith, h));
    keeps = record { front = tt; behind = tt };
  }

  -- ---- what one event more says

  module _ (s s1 : Scan) (e : Stamped) (fine : IsFine s) (events : List Stamped) where
    abbrev Step : Type 0
    Step = scan_after_line s (admitted_line e.event) e.stamp.from e.stamp.at ≡ Some s1

    ordered_pairs : IsStamped n e → Step → All (MayFollow s1) events → All (λ x. IsOrdered e x) events × All (MayFollow s) events
    ordered_pairs st h f = (
      λ k d lt. ((next_follow s e.stamp.from e.stamp.at st.ordered fine (admitted_line e.event) s1 h (admitted_line (get_or events k d).event) (get_or events k d).stamp.from (get_or events k d).stamp.at).0 (f k d lt)).1,
      λ k d lt. ((next_follow s e.stamp.from e.stamp.at st.ordered fine (admitted_line e.event) s1 h (admitted_line (get_or events k d).event) (get_or events k d).stamp.from (get_or events k d).stamp.at).0 (f k d lt)).0,
    )

    follow_pairs : IsStamped n e → Step → All (λ x. IsOrdered e x) events → All (MayFollow s) events → All (MayFollow s1) events
    follow_pairs st h o f k d lt =
        (next_follow s e.stamp.from e.stamp.at st.ordered fine (admitted_line e.event) s1 h (admitted_line (get_or events k d).event) (get_or events k d).stamp.from (get_or events k d).stamp.at).1
        (f k d lt, o k d lt)

  -- each admit follows what is begun
  admits_follow : (s : Scan) (events : List Stamped) → All (MayFollow s) events → AdmitsFrom s.begins events
  admits_follow s events h k d lt = by (admitted_line (get_or events k d).event) (h k d lt)
    where
      by : (o : Option ℕ) → IsBehindScan s o (get_or events k d).stamp.from (get_or events k d).stamp.at → is_some o ≡ true → s.begins ≤ (get_or events k d).stamp.at
      by (Some t) f is = f
      by None f is = absurd cc

  module _ (e : Stamped) (events : List Stamped) where
    -- an admit takes its arrival out of what is left
    keeps_admit : (s : Scan) (t : ℕ) (s1 : Scan) → admitted_line e.event ≡ Some t → AdmitStep s t e.stamp.at s1 → IsOrderKept s1.base s1.rest events → IsOrderKept s.base s.rest (e ∷ events)
    keeps_admit s t s1 is step k =
        let P : Scan → Type 0 = λ x. IsOrderKept x.base x.rest events in
        let kept = subst P step.is k in
        let admit : is_admit e ≡ true = ap is_some is in
        let F : Bool → Type 0 = λ c. IsSubsequence (map key_of (cond c (e ∷ front_admits events) [])) (map arrival_key s.rest) in
        let G : Bool → Type 0 = λ c. cond c (Unit {0}) (IsSubsequence (map key_of (front_admits events)) (map arrival_key s.base)) in
        let H : Option ℕ → Type 0 = λ o. IsSubsequence ((e.stamp.at, o) ∷ map key_of (front_admits events)) (map arrival_key s.rest) in
        let found = subst H (sym is) (found_right e.stamp.at t s.rest step.rest (map key_of (front_admits events)) step.found kept.front) in
        record { front = subst F (sym admit) found; behind = (subst G (sym admit) tt, kept.behind) }

    -- another event takes none, and lets those of its moments go
    keeps_other : (s : Scan) (s1 : Scan) → admitted_line e.event ≡ None → OtherStep s e.stamp.from e.stamp.at s1 → IsOrderKept s1.base s1.rest events → IsOrderKept s.base s.rest (e ∷ events)
    keeps_other s s1 is step k =
        let P : Scan → Type 0 = λ x. IsOrderKept x.base x.rest events in
        let kept = keeps_right (e.stamp.from + 1) s.base events (subst P step.is k) in
        let admit : is_admit e ≡ false = ap is_some is in
        let F : Bool → Type 0 = λ c. IsSubsequence (map key_of (cond c (e ∷ front_admits events) [])) (map arrival_key s.rest) in
        let G : Bool → Type 0 = λ c. cond c (Unit {0}) (IsSubsequence (map key_of (front_admits events)) (map arrival_key s.base)) in
        record { front = subst F (sym admit) tt; behind = (subst G (sym admit) kept.front, kept.behind) }

    keeps_before : (s s1 : Scan) (o : Option ℕ) → admitted_line e.event ≡ o → scan_after_line s o e.stamp.from e.stamp.at ≡ Some s1 → IsOrderKept s1.base s1.rest events → IsOrderKept s.base s.rest (e ∷ events)
    keeps_before s s1 (Some t) is h k = keeps_admit s t s1 is (admit_step s t e.stamp.at s1 h) k
    keeps_before s s1 None is h k = keeps_other s s1 is (other_step s e.stamp.from e.stamp.at s1 h) k

    -- where the pass goes on
    record NextScan (s : Scan) : Type 0 where
      next : Scan
      steps : scan_after_line s (admitted_line e.event) e.stamp.from e.stamp.at ≡ Some next
      keeps : (All (MayFollow next) events) → IsOrderKept next.base next.rest events

    goes : (s : Scan) → MayFollow s e → IsOrderKept s.base s.rest (e ∷ events) → NextScan s
    goes s f k = by (admitted_line e.event) refl f
      where
        admits : (t : ℕ) → admitted_line e.event ≡ Some t → s.begins ≤ e.stamp.at → NextScan s
        admits t is begins =
            let F : Bool → Type 0 = λ c. IsSubsequence (map key_of (cond c (e ∷ front_admits events) [])) (map arrival_key s.rest) in
            let H : Option ℕ → Type 0 = λ o. IsSubsequence ((e.stamp.at, o) ∷ map key_of (front_admits events)) (map arrival_key s.rest) in
            let found = found_left e.stamp.at t s.rest (map key_of (front_admits events)) (subst H is (subst F (ap is_some is) k.front)) in
            let next : Scan = record s { latest = max s.latest e.stamp.at; rest = found.rest } in
            record {
              next = next;
              steps =
                  ap (λ o. scan_after_line s o e.stamp.from e.stamp.at) is
                  ∙ if_true_is (leb s.begins e.stamp.at) (on_some (behind_first e.stamp.at t s.rest) (λ rest. Some (record s { latest = max s.latest e.stamp.at; rest = rest }))) next
                  (le-leb s.begins e.stamp.at begins)
                  (ap (λ o. on_some o (λ rest. Some (record s { latest = max s.latest e.stamp.at; rest = rest }))) found.found);
              keeps = λ _. record { front = found.others; behind = k.behind.1 };
            }

        passes : admitted_line e.event ≡ None → (s.ends ≤ e.stamp.from) × (s.latest ≤ e.stamp.at) → NextScan s
        passes is f =
            let G : Bool → Type 0 = λ c. cond c (Unit {0}) (IsSubsequence (map key_of (front_admits events)) (map arrival_key s.base)) in
            let next = other_scan s e.stamp.from e.stamp.at in
            record {
              next = next;
              steps =
                  ap (λ o. scan_after_line s o e.stamp.from e.stamp.at) is
                  ∙ if_true_is (leb s.ends e.stamp.from && leb s.latest e.stamp.at) (Some next) next
                  (and_from (leb s.ends e.stamp.from) (leb s.latest e.stamp.at) (le-leb s.ends e.stamp.from f.0) (le-leb s.latest e.stamp.at f.1)) refl;
              keeps = λ after.
                  keeps_left (e.stamp.from + 1) s.base events (admits_follow next events after)
                  (record { front = subst G (ap is_some is) k.behind.0; behind = k.behind.1 });
            }

        by : (o : Option ℕ) → admitted_line e.event ≡ o → IsBehindScan s o e.stamp.from e.stamp.at → NextScan s
        by (Some t) is f = admits t is f
        by None is f = passes is f

  -- ---- both directions

  first_step : (s s1 : Scan) (e : Stamped) → scan_after_event n s e ≡ Some s1 → IsStamped n e × (scan_after_line s (admitted_line e.event) e.stamp.from e.stamp.at ≡ Some s1)
  first_step s s1 e h =
      let test = if_true_some (is_stamped n e) (scan_after_line s (admitted_line e.event) e.stamp.from e.stamp.at) s1 h in
      (stamped_of n e test.0, test.1)

  follows_first : (s s1 : Scan) (o : Option ℕ) (from at : ℕ) → scan_after_line s o from at ≡ Some s1 → IsBehindScan s o from at
  follows_first s s1 (Some t) from at h = (admit_step s t at s1 h).begins
  follows_first s s1 None from at h = let p = other_step s from at s1 h in (p.ends, p.latest)

  pub scan_sound : (events : List Stamped) (s end : Scan) → IsFine s → scan_after_events n (Some s) events ≡ Some end → Facts n s events
  scan_sound [] s end fine h = no_facts s
  scan_sound (e ∷ events) s end fine h = by (λ s1. scan_sound events s1 end) (scan_after_event n s e) refl h
    where
      by : ((s1 : Scan) → IsFine s1 → scan_after_events n (Some s1) events ≡ Some end → Facts n s1 events) → (o : Option Scan) → scan_after_event n s e ≡ o
          → scan_after_events n o events ≡ Some end → Facts n s (e ∷ events)
      by more None l h = absurd (scanned_none events end h)
      by more (Some s1) l h =
          let first = first_step s s1 e l in
          let rest = more s1 (fine_next s (admitted_line e.event) e.stamp.from e.stamp.at s1 first.0.ordered fine first.1) h in
          let pairs = ordered_pairs s s1 e fine events first.0 first.1 rest.follows in
          record {
            stamped = All-cons (IsStamped n) e events first.0 rest.stamped;
            placed = AllPairs-cons IsOrdered e events pairs.0 rest.placed;
            follows = All-cons (MayFollow s) e events (follows_first s s1 (admitted_line e.event) e.stamp.from e.stamp.at first.1) pairs.1;
            keeps = keeps_before e events s s1 (admitted_line e.event) refl first.1 rest.keeps;
          }

  pairs_head : (e : Stamped) (events : List Stamped) → AllPairs IsOrdered (e ∷ events) → All (λ x. IsOrdered e x) events
  pairs_head e events h k d lt = h 0 (suc k) d (omega arith) (omega (arith, lt))

  pairs_tail : (e : Stamped) (events : List Stamped) → AllPairs IsOrdered (e ∷ events) → AllPairs IsOrdered events
  pairs_tail e events h i j d lt l = h (suc i) (suc j) d (omega (arith, lt)) (omega (arith, l))

  pub scan_complete : (events : List Stamped) (s : Scan) → IsFine s → Facts n s events → (end : Scan) × (scan_after_events n (Some s) events ≡ Some end)
  scan_complete [] s fine f = (s, refl)
  scan_complete (e ∷ events) s fine f =
      let stamp = All-head (IsStamped n) e events f.stamped in
      let follow = All-head (MayFollow s) e events f.follows in
      let go = goes e events s follow f.keeps in
      let fine1 = fine_next s (admitted_line e.event) e.stamp.from e.stamp.at go.next stamp.ordered fine go.steps in
      let after = follow_pairs s go.next e fine events stamp go.steps (pairs_head e events f.placed) (All-tail (MayFollow s) e events f.follows) in
      let rest = scan_complete events go.next fine1 (record {
        stamped = All-tail (IsStamped n) e events f.stamped;
        placed = pairs_tail e events f.placed;
        follows = after;
        keeps = go.keeps after;
      }) in
      let step = if_true_is (is_stamped n e) (scan_after_line s (admitted_line e.event) e.stamp.from e.stamp.at) go.next (stamped_is n e stamp) go.steps in
      (rest.0, ap (λ o. scan_after_events n o events) step ∙ rest.1)

  -- ---- where the last event that is no admit ends

  module _ (k : ℕ) where
    abbrev AreBelow : List Stamped → Type 0
    AreBelow events = All (λ e. e.stamp.at < k) events

    ends_step : (s s1 : Scan) (e : Stamped) (rest : List Stamped) → e.stamp.from ≤ e.stamp.at → (o : Option ℕ) → scan_after_line s o e.stamp.from e.stamp.at ≡ Some s1
        → ((s1.ends ≤ k) × AreBelow rest) ↔ ((s.ends ≤ k) × AreBelow (cond (not (is_some o)) (e ∷ rest) rest))
    ends_step s s1 e rest le (Some t) h =
        let p = admit_step s t e.stamp.at s1 h in
        let same : s1.ends ≡ s.ends = ap (λ (x : Scan). x.ends) p.is in
        (λ q. let l = q.0 in (omega (arith, l, same), q.1), λ q. let l = q.0 in (omega (arith, l, same), q.1))
    ends_step s s1 e rest le None h =
        let p = other_step s e.stamp.from e.stamp.at s1 h in
        let same : s1.ends ≡ e.stamp.at + 1 = ap (λ (x : Scan). x.ends) p.is in
        let before = p.ends in (
          λ q. let l = q.0 in (omega (arith, l, same, before, le), All-cons (λ (x : Stamped). x.stamp.at < k) e rest (omega (arith, l, same)) q.1),
          λ q. let l = All-head (λ (x : Stamped). x.stamp.at < k) e rest q.1 in (omega (arith, l, same), All-tail (λ (x : Stamped). x.stamp.at < k) e rest q.1),
        )

    pub scan_ends : (events : List Stamped) (s end : Scan) → scan_after_events n (Some s) events ≡ Some end → (end.ends ≤ k) ↔ ((s.ends ≤ k) × AreBelow (others events))
    scan_ends [] s end h =
        let same : s ≡ end = same_Some s end h in
        let ends = ap (λ (x : Scan). x.ends) same in
        (λ l. (omega (arith, l, ends), λ i d lt. absurd (omega (arith, lt))), λ q. let l = q.0 in omega (arith, l, ends))
    scan_ends (e ∷ events) s end h = by (λ s1. scan_ends events s1 end) (scan_after_event n s e) refl h
      where
        by : ((s1 : Scan) → scan_after_events n (Some s1) events ≡ Some end → (end.ends ≤ k) ↔ ((s1.ends ≤ k) × AreBelow (others events))) → (o : Option Scan) → scan_after_event n s e ≡ o
            → scan_after_events n o events ≡ Some end → (end.ends ≤ k) ↔ ((s.ends ≤ k) × AreBelow (others (e ∷ events)))
        by more None l h = absurd (scanned_none events end h)
        by more (Some s1) l h =
            let first = first_step s s1 e l in
            let step = ends_step s s1 e (others events) first.0.ordered (admitted_line e.event) first.1 in
            let rest = more s1 h in
            (λ x. step.0 (rest.0 x), λ x. rest.1 (step.1 x))
