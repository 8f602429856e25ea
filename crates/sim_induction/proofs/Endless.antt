-- The run of a sound image goes on for ever.
use Rattle.std.proofs.Common.{◌≡◌, ◌∙◌, ◌+◌, ◌-◌, ◌≤◌, ℕ, zero, suc, List, ◌∷◌, ◌++◌, map, refl, ap, subst, arith, append-nil, nat_le, nat_lt}
use Rattle.std.specs.Prelude.{◌&&◌}
use Rattle.std.specs.List.{range_with_len, AllByRecursion}
use Rattle.std.proofs.lemmas.List.Elements.{filter-append, All-from_recursion}
use Rattle.sloth_base.specs.declared.service.Arrival.{Arrival}
use Rattle.sloth_base.specs.declared.numbers.Owners.{Owners}
use Rattle.sloth_base.specs.Arrivals.{AreRisingMoments, moments}
use Rattle.sloth_base.specs.Owners.{IsOwned, owners_in}
use Rattle.rv32_machine.specs.Start.{start}
use Rattle.rv32_machine.specs.Run.{run, steps_of}
use Rattle.observe.specs.Observe.{view_of_image, observe}
use Rattle.observe.proofs.Moments.{moments-later}
use Rattle.sim_induction.specs.Sound.{AreComing}
use Rattle.sim_induction.specs.Endless.{ComeForEver, first_arrivals, SoundForEver}
use Rattle.sim_induction.proofs.Agreeing.{AgreeBelow, same_from, below_from, observed_same}

module _ (owners : Owners) (arrival : ℕ → Arrival) (come : ComeForEver owners arrival) where
  -- so many of them, from this one on
  abbrev those : (from count : ℕ) → List Arrival
  those from count = map arrival (range_with_len from count)

  rising_from : (from count before : ℕ) → before ≤ (arrival from).at → AreRisingMoments before (those from count)
  rising_from from zero before le = tt
  rising_from from (suc count) before le = (le, rising_from (from + 1) count (arrival from).at (come.rising from))

  each_owned : (from count : ℕ) → AllByRecursion (λ a. IsOwned owners a.line) (those from count)
  each_owned from zero = tt
  each_owned from (suc count) = (come.lines_owned from, each_owned (from + 1) count)

  pub coming : (count : ℕ) → AreComing owners (first_arrivals arrival count)
  coming count = record {
    ordered = rising_from 0 count 1 come.first;
    lines_owned = All-from_recursion (λ (a : Arrival). IsOwned owners a.line) (those 0 count) (each_owned 0 count);
  }

  -- one that stands further back comes no earlier
  pub later : (k d i : ℕ) → k + d ≡ i → (arrival k).at ≤ (arrival i).at
  later k zero i is =
      let same : k ≡ i = omega (arith, is) in
      subst (λ j. (arrival k).at ≤ (arrival j).at) same (omega arith)
  later k (suc d) i is =
      let so = later k d (k + d) refl in
      let next = come.rising (k + d) in
      let same : k + d + 1 ≡ i = omega (arith, is) in
      let low : (arrival k).at ≤ (arrival (k + d + 1)).at = omega (arith, so, next) in
      subst (λ j. (arrival k).at ≤ (arrival j).at) same low

  split : (from a b mid : ℕ) → from + a ≡ mid → those from (a + b) ≡ those from a ++ those mid b
  split from zero b mid is =
      let none : 0 + b ≡ b = omega arith in
      let same : from ≡ mid = omega (arith, is) in
      ap (those from) none ∙ ap (λ i. those i b) same
  split from (suc a) b mid is =
      let one : suc a + b ≡ suc (a + b) = omega arith in
      ap (those from) one ∙ ap (λ rest. arrival from ∷ rest) (split (from + 1) a b mid (omega (arith, is)))

  -- those that come at n or later change nothing below n
  pub agree : (n count more : ℕ) → n ≤ (arrival count).at → count ≤ more → AgreeBelow n (first_arrivals arrival more) (first_arrivals arrival count)
  agree n count more late le from to below =
      let all : more ≡ count + (more - count) = omega (arith, le) in
      let others = those count (more - count) in
      ap (λ i. moments from to (those 0 i)) all
      ∙ ap (moments from to) (split 0 count (more - count) count (omega arith))
      ∙ filter-append (λ a. nat_le from a.at && nat_lt a.at to) (those 0 count) others
      ∙ ap (λ rest. moments from to (those 0 count) ++ rest)
      (moments-later (arrival count).at from to others (rising_from count (more - count) (arrival count).at (omega arith)) (omega (arith, late, below)))
      ∙ append-nil (moments from to (those 0 count))

pub sound_for_ever : SoundForEver
sound_for_ever config app image arrival sound come n =
    let owners = owners_in config in
    let far = come.unbounded n in
    let count = far.0 in
    let first = first_arrivals arrival count in
    let same : (more : ℕ) → count ≤ more → run n (first_arrivals arrival more) (start image) ≡ run n first (start image) =
    λ more le. same_from n n 0 (first_arrivals arrival more) first (start image) (agree owners arrival come n count more far.1 le) (omega arith) in
    record {
      count = count;
      sound = sound.each first n (coming owners arrival come count);
      others_later = λ k le.
          let no_earlier = later owners arrival come count (k - count) k (omega (arith, le)) in
          let late = far.1 in
          omega (arith, no_earlier, late);
      same_run = same;
      same_events = λ more le.
          ap (λ moments. observe (view_of_image image) (first_arrivals arrival more) (steps_of moments)) (same more le)
          ∙ observed_same (view_of_image image) n (first_arrivals arrival more) first (agree owners arrival come n count more far.1 le) (steps_of (run n first (start image)))
          (below_from n n 0 first (start image) (omega arith));
    }
