-- Two admissions of one line are at least its distance apart.
use Rattle.std.proofs.Common.{◌≡◌, ℕ, ◌+◌, ◌-◌, ◌/◌, ◌<◌, ◌≤◌, ◌⊎◌, ◌&&◌, List, [], ◌∷◌, ◌++◌, Bool, true, cond, leb, ltb, refl, sym, ap, ◌∙◌, subst, arith, inl, inr, append_assoc, Option, Some, le-div_iff_mul-le}
use Rattle.std.specs.List.{AllByRecursion}
use Rattle.std.proofs.lemmas.Bool.{cases_lt, le-leb, lt-ltb, and_from}
use Rattle.sloth_base.specs.Options.{is_number}
use Rattle.sloth_base.specs.Events.{admitted_line}
use Rattle.sloth_base.specs.declared.config.Config.{Config}
use Rattle.sloth_base.specs.declared.service.Arrival.{Arrival}
use Rattle.sloth_base.specs.declared.service.Stamped.{Stamped}
use Rattle.load_text.specs.declared.load_line.Entry.{Entry}
use Rattle.load_text.specs.Loads.{distance, KeepDistances, filling}
use Rattle.osek_scheduler.specs.InTime.{InTime}
use Rattle.response_laws.specs.Arrivals.{is_inside, passing_inside, HasDistances}
use Rattle.response_laws.proofs.Windows.{few_arrivals}
use Rattle.response_laws.proofs.Arriving.{admitted_inside, inside-append}

module _ (config : Config) (load : List Entry) (n line d : ℕ) (arrivals : List Arrival) (events : List Stamped) (in_time : InTime config n arrivals events)
    (positive : HasDistances load) (keeps : KeepDistances load arrivals) (is_distance : distance load line ≡ Some d) where
  abbrev pub is_of : Stamped → Bool
  is_of e = is_number line (admitted_line e.event)

  -- no more of them fall into a window than distances fill it
  pub few : (low wide : ℕ) → passing_inside is_of (λ e. e.stamp.at) low (low + wide) events ≤ (wide + d - 1) / d
  few low wide =
      let all = admitted_inside config n arrivals events in_time low (low + wide) line (omega arith) in
      subst (λ (o : Option ℕ). passing_inside is_of (λ e. e.stamp.at) low (low + wide) events ≤ filling wide o) is_distance
      (let some = few_arrivals load arrivals positive keeps low (low + wide) wide line (omega arith) in omega (arith, all, some))

  module _ (before behind rest : List Stamped) (one other : Stamped) (is : events ≡ before ++ one ∷ (behind ++ other ∷ rest))
      (of_one : is_of one ≡ true) (of_other : is_of other ≡ true) where
    -- no two fall into a window as long as the distance
    no_two : (low : ℕ) → low ≤ one.stamp.at → one.stamp.at < low + d → low ≤ other.stamp.at → other.stamp.at < low + d → ⊥
    no_two low one_from one_below other_from other_below =
        let parts = ap (passing_inside is_of (λ e. e.stamp.at) low (low + d)) is ∙ inside-append is_of (λ (e : Stamped). e.stamp.at) low (low + d) before (one ∷ (behind ++ other ∷ rest)) in
        let further = inside-append is_of (λ (e : Stamped). e.stamp.at) low (low + d) behind (other ∷ rest) in
        let first = counts one of_one one_from one_below in
        let second = counts other of_other other_from other_below in
        let most = few low d in
        let two : 2 ≤ (d + d - 1) / d = omega (arith, parts, further, first, second, most) in
        let some : 0 < d = omega (arith, one_from, one_below) in
        let whole = (le-div_iff_mul-le some).0 two in
        omega (arith, whole, some)
      where
        counts : (e : Stamped) → is_of e ≡ true → low ≤ e.stamp.at → e.stamp.at < low + d
            → ◌≡◌ {A = ℕ} (cond (is_of e && is_inside low (low + d) e.stamp.at) 1 0) 1
        counts e own from below =
            ap {B = ℕ} (λ b. cond b 1 0)
            (and_from (is_of e) (is_inside low (low + d) e.stamp.at) own
            (and_from (leb low e.stamp.at) (ltb e.stamp.at (low + d)) (le-leb low e.stamp.at from) (lt-ltb e.stamp.at (low + d) below)))

    pub apart : (one.stamp.at + d ≤ other.stamp.at) ⊎ (other.stamp.at + d ≤ one.stamp.at)
    apart = by (cases_lt other.stamp.at (one.stamp.at + d)) (cases_lt one.stamp.at (other.stamp.at + d)) (cases_lt one.stamp.at other.stamp.at)
      where
        by : (other.stamp.at < one.stamp.at + d) ⊎ (one.stamp.at + d ≤ other.stamp.at) → (one.stamp.at < other.stamp.at + d) ⊎ (other.stamp.at + d ≤ one.stamp.at)
            → (one.stamp.at < other.stamp.at) ⊎ (other.stamp.at ≤ one.stamp.at) → (one.stamp.at + d ≤ other.stamp.at) ⊎ (other.stamp.at + d ≤ one.stamp.at)
        by (inr later) second order = inl later
        by (inl near) (inr earlier) order = inr earlier
        by (inl near) (inl close) (inl less) = absurd (no_two one.stamp.at (omega arith) (omega (arith, less, near)) (omega (arith, less)) near)
        by (inl near) (inl close) (inr more) = absurd (no_two other.stamp.at more close (omega arith) (omega (arith, more, close)))

  -- each that stands behind one is, before it or after
  pub apart_behind : (before rest : List Stamped) (one : Stamped) → events ≡ before ++ one ∷ rest → is_of one ≡ true
      → AllByRecursion (λ o. is_of o ≡ true → (one.stamp.at + d ≤ o.stamp.at) ⊎ (o.stamp.at + d ≤ one.stamp.at)) rest
  apart_behind before rest one is of_one = along [] rest refl
    where
      along : (mid later : List Stamped) → rest ≡ mid ++ later
          → AllByRecursion (λ o. is_of o ≡ true → (one.stamp.at + d ≤ o.stamp.at) ⊎ (o.stamp.at + d ≤ one.stamp.at)) later
      along mid [] at = tt
      along mid (o ∷ later) at = (
        λ own. apart before mid later one o (is ∙ ap (λ es. before ++ one ∷ es) at) of_one own,
        along (mid ++ o ∷ []) later (at ∙ sym (append_assoc mid (o ∷ []) later)),
      )
