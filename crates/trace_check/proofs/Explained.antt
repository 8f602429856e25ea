-- Why events are not in time, from the first difference of those in front that are in place.
use Rattle.std.proofs.Common.{ℕ, ◌+◌, ◌/◌, ◌%◌, ◌<◌, ◌≤◌, ◌⊎◌, inl, inr, List, length, take, refl, subst, arith}
use Rattle.std.proofs.lemmas.Bool.{cases_lt}
use Rattle.std.proofs.lemmas.List.{take_all}
use Rattle.sloth_base.specs.declared.service.Arrival.{Arrival}
use Rattle.sloth_base.specs.declared.service.Stamped.{Stamped}
use Rattle.osek_scheduler.specs.InTime.{AreAllAdmitted, admits_at, arrivals_at}
use Rattle.trace_check.specs.Lateness.{AreInPlace, IsFirstDifference, IsFirstMissing, IsFirstExtra, IsFirstPassing, IsFrontInPlace, IsExtra, IsMisplaced, IsMissing, IsPassed, NonePasses}

module _ (n : ℕ) (arrivals : List Arrival) (events : List Stamped) (count number : ℕ) (in_place : IsFrontInPlace n arrivals events count)
    (differs : IsFirstDifference arrivals (take count events) number) (late : AreInPlace n arrivals events → AreAllAdmitted n arrivals events → ⊥) where
  -- no event is left
  abbrev NoneLeft : Type 0
  NoneLeft = length events ≤ count

  all_in_place : NoneLeft → AreInPlace n arrivals events
  all_in_place all = let P : List Stamped → Type 0 = λ l. AreInPlace n arrivals l in subst P (take_all count events all) in_place.in_place

  pub misplaced : count < length events → IsMisplaced n arrivals events (count + 1)
  misplaced shorter = record { front = count; in_place = in_place; shorter = shorter; is = refl }

  pub none_differs : n ≤ number / 4294967296 → IsMisplaced n arrivals events (count + 1)
  none_differs behind = by (cases_lt count (length events))
    where
      by : (count < length events) ⊎ NoneLeft → IsMisplaced n arrivals events (count + 1)
      by (inl shorter) = misplaced shorter
      by (inr all) =
          let P : List Stamped → Type 0 = λ l. AreAllAdmitted n arrivals l in
          absurd (late (all_in_place all) (subst P (take_all count events all) (λ k t less. differs.earlier k t (omega (arith, less, behind)))))

  module _ (word : n ≤ 4294967295) (inside : number / 4294967296 < n) where
    abbrev moment : ℕ
    moment = number / 4294967296

    abbrev line : ℕ
    line = number % 4294967296

    first_missing : admits_at moment line (take count events) ≤ arrivals_at moment line arrivals → IsFirstMissing arrivals (take count events) moment line
    first_missing few = record { earlier = differs.earlier; lacks = by (cases_lt (admits_at moment line (take count events)) (arrivals_at moment line arrivals)) }
      where
        by : (admits_at moment line (take count events) < arrivals_at moment line arrivals) ⊎ (arrivals_at moment line arrivals ≤ admits_at moment line (take count events))
            → admits_at moment line (take count events) < arrivals_at moment line arrivals
        by (inl less) = less
        by (inr more) = absurd (differs.differs (omega (arith, word, inside)) (omega (arith, few, more)))

    pub extra : (k : ℕ) → IsFirstExtra arrivals (take count events) moment line k → IsExtra n arrivals events k
    extra k h = record { front = count; in_place = in_place; moment = moment; line = line; extra = h }

    pub passed : admits_at moment line (take count events) ≤ arrivals_at moment line arrivals → (k : ℕ) → IsFirstPassing moment (take count events) k
        → IsPassed n arrivals events k moment line
    passed few k h = record { front = count; in_place = in_place; missing = first_missing few; passes = h }

    pub missing : admits_at moment line (take count events) ≤ arrivals_at moment line arrivals → NonePasses moment (take count events) (length (take count events)) → NoneLeft
        → IsMissing n arrivals events moment line
    missing few none all =
        let same = take_all count events all in
        let P : List Stamped → Type 0 = λ l. IsFirstMissing arrivals l moment line in
        let Q : List Stamped → Type 0 = λ l. NonePasses moment l (length l) in
        record { in_place = all_in_place all; inside = inside; missing = subst P same (first_missing few); passed = subst Q same none }
