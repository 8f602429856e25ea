-- What is kept of events, with one event more.
use Rattle.std.proofs.Common.{◌≡◌, ◌∙◌, ℕ, suc, ◌<◌, inl, inr, List, [], ◌∷◌, ◌++◌, Bool, true, false, cond, length, Option, Some, None, refl, sym, ap, subst, arith, length-append}
use Rattle.std.specs.Prelude.{◌-◌, ◌||◌, ltb, slice_get}
use Rattle.std.proofs.lemmas.Bool.{true≢false, ltb-true}
use Rattle.std.proofs.lemmas.Option.{same_Some}
use Rattle.sloth_base.specs.Stretches.{longest_stretch}
use Rattle.sloth_base.specs.declared.config.Config.{Config}
use Rattle.sloth_base.specs.declared.service.Arrival.{Arrival}
use Rattle.sloth_base.specs.declared.service.Stamped.{Stamped}
use Rattle.osek_scheduler.specs.Meaning.{on_some}
use Rattle.sloth_base.specs.Events.{admitted_line, is_boot}
use Rattle.osek_scheduler.specs.InTime.{longest_cut_off_stretch}
use Rattle.trace_check.specs.Scan.{Scan, scan_start, scan_after_event, scan_after_events}
use Rattle.trace_check.specs.Counts.{admit_numbers, with_admit, last_moment}
use Rattle.trace_check.specs.Timed.{KeptPass, is_late, NeverInTime, IsTimely, TimedBy}

pub scanned_more : (n : ℕ) (s : Option Scan) (events : List Stamped) (e : Stamped) → scan_after_events n s (events ++ e ∷ []) ≡ on_some (scan_after_events n s events) (λ x. scan_after_event n x e)
scanned_more n s [] e = refl
scanned_more n s (x ∷ events) e = scanned_more n (on_some s (λ y. scan_after_event n y x)) events e

with_admit-append : (o : Option ℕ) (k : ℕ) (numbers more : List ℕ) → with_admit o k (numbers ++ more) ≡ with_admit o k numbers ++ more
with_admit-append (Some t) k numbers more = refl
with_admit-append None k numbers more = refl

pub numbers_more : (events : List Stamped) (e : Stamped) → admit_numbers (events ++ e ∷ []) ≡ admit_numbers events ++ with_admit (admitted_line e.event) e.stamp.at []
numbers_more [] e = refl
numbers_more (x ∷ events) e =
    ap (with_admit (admitted_line x.event) x.stamp.at) (numbers_more events e)
    ∙ with_admit-append (admitted_line x.event) x.stamp.at (admit_numbers events) (with_admit (admitted_line e.event) e.stamp.at [])

longest_more : (config : Config) (events : List Stamped) (e : Stamped)
    → longest_cut_off_stretch config (events ++ e ∷ []) ≡ cond (is_boot e.event) (longest_stretch config) (longest_cut_off_stretch config events)
longest_more config [] e = refl
longest_more config (x ∷ events) e = ap (cond (is_boot x.event) (longest_stretch config)) (longest_more config events e) ∙ by (is_boot x.event) (is_boot e.event)
  where
    by : (b c : Bool) → cond b (longest_stretch config) (cond c (longest_stretch config) (longest_cut_off_stretch config events))
        ≡ cond c (longest_stretch config) (cond b (longest_stretch config) (longest_cut_off_stretch config events))
    by true true = refl
    by true false = refl
    by false c = refl

-- what is late stays so
never_more : (n : ℕ) (arrivals : List Arrival) (events : List Stamped) (e : Stamped) → NeverInTime n arrivals events → NeverInTime n arrivals (events ++ e ∷ [])
never_more n arrivals events e (inl stops) = inl (scanned_more n (Some (scan_start arrivals)) events e ∙ ap (λ o. on_some o (λ x. scan_after_event n x e)) stops)
never_more n arrivals events e (inr many) =
    let long = ap length (numbers_more events e) ∙ length-append (admit_numbers events) (with_admit (admitted_line e.event) e.stamp.at []) in
    inr (omega (arith, many, long))

module _ (events : List Stamped) (old : KeptPass) (timed : TimedBy events old) (e : Stamped) where
  -- nothing is kept of what is late
  pub stays_late : is_late old ≡ true → TimedBy (events ++ e ∷ []) old
  stays_late late = record {
    late = λ _. never_more old.n old.arrivals events e (timed.late late);
    timely = λ early. absurd (true≢false (sym late ∙ early));
  }

  module _ (early : is_late old ≡ false) (new : KeptPass) (config : new.config ≡ old.config) (n : new.n ≡ old.n) (arrivals : new.arrivals ≡ old.arrivals) where
    -- the pass stops
    pub stops_here : None ≡ scan_after_event old.n old.scan e → new.stopped ≡ true → TimedBy (events ++ e ∷ []) new
    stops_here stops stopped =
        let late : is_late new ≡ true = ap (λ b. b || ltb (length new.arrivals) (length new.admits)) stopped in
        let none = scanned_more old.n (Some (scan_start old.arrivals)) events e ∙ (ap (λ o. on_some o (λ x. scan_after_event old.n x e)) (timed.timely early).scans ∙ sym stops) in
        let P : ℕ → List Arrival → Type 0 = λ count list. NeverInTime count list (events ++ e ∷ []) in
        record {
          late = λ _. subst (λ (count : ℕ). P count new.arrivals) (sym n) (subst (λ (list : List Arrival). P old.n list) (sym arrivals) (inl none));
          timely = λ is_early. absurd (true≢false (sym late ∙ is_early));
        }

    -- it goes on
    pub goes_on : Some new.scan ≡ scan_after_event old.n old.scan e → new.admits ≡ old.admits ++ with_admit (admitted_line e.event) e.stamp.at []
        → new.most ≡ cond (is_boot e.event) (longest_stretch old.config) old.most → new.stopped ≡ old.stopped → TimedBy (events ++ e ∷ []) new
    goes_on goes admits most stopped = record { late = λ late. inr (many (new.stopped) refl late); timely = λ _. timely }
      where
        was : IsTimely events old
        was = timed.timely early

        admits_is : new.admits ≡ admit_numbers (events ++ e ∷ [])
        admits_is = admits ∙ (ap (λ (l : List ℕ). l ++ with_admit (admitted_line e.event) e.stamp.at []) was.admits ∙ sym (numbers_more events e))

        timely : IsTimely (events ++ e ∷ []) new
        timely =
            let P : ℕ → List Arrival → Type 0 = λ count list. scan_after_events count (Some (scan_start list)) (events ++ e ∷ []) ≡ Some new.scan in
            let scans = scanned_more old.n (Some (scan_start old.arrivals)) events e ∙ (ap (λ o. on_some o (λ x. scan_after_event old.n x e)) was.scans ∙ sym goes) in
            record {
              scans = subst (λ (count : ℕ). P count new.arrivals) (sym n) (subst (λ (list : List Arrival). P old.n list) (sym arrivals) scans);
              admits = admits_is;
              most =
                  most
                  ∙ (ap (cond (is_boot e.event) (longest_stretch old.config)) was.most
                  ∙ (sym (longest_more old.config events e) ∙ ap (λ (c : Config). longest_cut_off_stretch c (events ++ e ∷ [])) (sym config)));
            }

        many : (b : Bool) → new.stopped ≡ b → is_late new ≡ true → length new.arrivals < length (admit_numbers (events ++ e ∷ []))
        many true is late = absurd (true≢false (sym (ap (λ b. b || ltb (length old.arrivals) (length old.admits)) (sym stopped ∙ is)) ∙ early))
        many false is late =
            let less = ltb-true (length new.arrivals) (length new.admits) (sym (ap (λ b. b || ltb (length new.arrivals) (length new.admits)) is) ∙ late) in
            let long = ap length admits_is in
            omega (arith, less, long)

-- the last of some arrivals
pub last_is : (xs : List Arrival) (a : Arrival) → Some a ≡ slice_get xs (length xs - 1) → a.at ≡ last_moment xs
last_is [] a h = absurd cc
last_is (x ∷ []) a h = ap (λ (y : Arrival). y.at) (same_Some a x h)
last_is (x ∷ y ∷ xs) a h =
    let e : length (x ∷ y ∷ xs) - 1 ≡ suc (length (y ∷ xs) - 1) = omega arith in
    last_is (y ∷ xs) a (h ∙ ap (slice_get (x ∷ y ∷ xs)) e)
