-- No event is the first above a limit exactly where each round is within it.
use Rattle.std.proofs.Common.{◌≡◌, ◌∙◌, ◌+◌, ◌≤◌, ℕ, Bool, true, false, cond, List, [], ◌∷◌, ◌++◌, Option, Some, None, refl, sym, ap, subst, arith}
use Rattle.std.specs.Prelude.{◌&&◌, ◌||◌, unwrap_or}
use Rattle.std.proofs.lemmas.Bool.{false≢true, ltb-false, le-ltb}
use Rattle.sloth_base.specs.declared.config.Config.{Config}
use Rattle.sloth_base.specs.declared.service.Event.{Event}
use Rattle.sloth_base.specs.declared.service.Event.TheVariants as event
use Rattle.run_counts.specs.Stages.{Stage, own, is_entry}
use Rattle.run_counts.specs.Rounds.{goes_on_waiting, is_left, opens_round, closes_round, round_of, total}
use Rattle.run_load.specs.Watched.{Moments, noted, watched, watched_stages}
use Rattle.run_load.specs.Work.{open_behind, with_own, is_above, above, first_above}
use Rattle.run_load.specs.declared.work.Excess.{Excess}

-- ---- one event

-- no event leaves and enters
apart : (t : ℕ) (e : Event) → is_left t e ≡ true → is_entry t e ≡ true → ⊥
apart t (event.Left u served) l i = absurd (false≢true i)
apart t e l i = absurd (false≢true l)

-- what is begun is within the limit, with so many counts more
abbrev IsWithin : (limit : ℕ) → (begun : Option ℕ) → (more : ℕ) → Type 0
IsWithin limit (Some counts) more = counts + more ≤ limit
IsWithin limit None more = Unit {0}

-- what is begun behind an event that goes on behind a wait, leaves or enters
abbrev opened : (goes left enters : Bool) → Option ℕ → Option ℕ
opened goes left enters begun = cond goes (Some 0) (cond left None (cond enters (Some (unwrap_or begun 0)) begun))

-- from what is behind an event to what is in front of it; r is the rest of a round behind it
step_back : (limit n r : ℕ) (goes left enters : Bool) (begun : Option ℕ) → (left ≡ true → enters ≡ true → ⊥) → IsWithin limit (with_own begun n) 0
    → IsWithin limit (opened goes left enters (with_own begun n)) r
    → IsWithin limit begun (n + cond (left || goes) 0 r) × ((enters || goes) ≡ true → r ≤ limit)
step_back limit n r true true enters (Some k) never here behind = (omega (arith, here), λ o. omega (arith, behind))
step_back limit n r true true enters None never here behind = (tt, λ o. omega (arith, behind))
step_back limit n r true false enters (Some k) never here behind = (omega (arith, here), λ o. omega (arith, behind))
step_back limit n r true false enters None never here behind = (tt, λ o. omega (arith, behind))
step_back limit n r false true true begun never here behind = absurd (never refl refl)
step_back limit n r false true false (Some k) never here behind = (omega (arith, here), λ o. absurd (false≢true o))
step_back limit n r false true false None never here behind = (tt, λ o. absurd (false≢true o))
step_back limit n r false false true (Some k) never here behind = (omega (arith, behind), λ o. omega (arith, behind))
step_back limit n r false false true None never here behind = (tt, λ o. omega (arith, behind))
step_back limit n r false false false (Some k) never here behind = (omega (arith, behind), λ o. absurd (false≢true o))
step_back limit n r false false false None never here behind = (tt, λ o. absurd (false≢true o))

-- and the other way round
step_on : (limit n r : ℕ) (goes left enters : Bool) (begun : Option ℕ) → IsWithin limit begun (n + cond (left || goes) 0 r)
    → ((enters || goes) ≡ true → r ≤ limit) → IsWithin limit (with_own begun n) 0 × IsWithin limit (opened goes left enters (with_own begun n)) r
step_on limit n r true left true (Some k) front starts = let own = starts refl in (omega (arith, front), omega (arith, own))
step_on limit n r true left false (Some k) front starts = let own = starts refl in (omega (arith, front), omega (arith, own))
step_on limit n r true left true None front starts = let own = starts refl in (tt, omega (arith, own))
step_on limit n r true left false None front starts = let own = starts refl in (tt, omega (arith, own))
step_on limit n r false true enters (Some k) front starts = (omega (arith, front), tt)
step_on limit n r false true enters None front starts = (tt, tt)
step_on limit n r false false true (Some k) front starts = (omega (arith, front), omega (arith, front))
step_on limit n r false false true None front starts = let own = starts refl in (tt, omega (arith, own))
step_on limit n r false false false (Some k) front starts = (omega (arith, front), omega (arith, front))
step_on limit n r false false false None front starts = (tt, tt)

still_within : (limit : ℕ) (goes left enters : Bool) (begun : Option ℕ) → IsWithin limit begun 0 → IsWithin limit (opened goes left enters begun) 0
still_within limit true left enters begun h = omega arith
still_within limit false true enters begun h = tt
still_within limit false false true (Some k) h = h
still_within limit false false true None h = omega arith
still_within limit false false false begun h = h

not_above : (limit : ℕ) (begun : Option ℕ) → is_above begun limit ≡ false → IsWithin limit begun 0
not_above limit (Some k) e = let le = ltb-false limit k e in omega (arith, le)
not_above limit None e = tt

is_not_above : (limit : ℕ) (begun : Option ℕ) → IsWithin limit begun 0 → is_above begun limit ≡ false
is_not_above limit (Some k) h = le-ltb limit k (omega (arith, h))
is_not_above limit None h = refl

-- ---- all

total_cond : (f : Stage → ℕ) (b : Bool) (xs : List Stage) → total f (cond b [] xs) ≡ cond b 0 (total f xs)
total_cond f true xs = refl
total_cond f false xs = refl

some_is_none : (a : Excess) → Some a ≡ None → ⊥
some_is_none a e = absurd cc

module _ (config : Config) (cuts : Bool) (t limit : ℕ) where
  -- the own counts of what is left of a round
  rest_of : List Stage → ℕ
  rest_of xs = total (own config t) (round_of cuts t xs)

  -- each round that begins with one of these stages is within the limit
  abbrev EachWithin : List Stage → Type 0
  EachWithin [] = Unit {0}
  EachWithin (x ∷ xs) = (opens_round cuts t x.stamped.event ≡ true → total (own config t) (round_of cuts t xs) ≤ limit) × EachWithin xs

  abbrev first : Option ℕ → (place : ℕ) → Moments → List Stage → Option Excess
  first begun place moments xs = first_above cuts t limit begun place (watched_stages config t moments xs)

  rest_more : (x : Stage) (xs : List Stage)
      → total (own config t) (round_of cuts t (x ∷ xs)) ≡ own config t x + cond (is_left t x.stamped.event || (cuts && goes_on_waiting t x.stamped.event)) 0 (total (own config t) (round_of cuts t xs))
  rest_more x xs = ap (λ k. own config t x + k) (total_cond (own config t) (closes_round cuts t x.stamped.event) (round_of cuts t xs))

  pub within_of : (begun : Option ℕ) (place : ℕ) (moments : Moments) (xs : List Stage) → IsWithin limit begun 0 → first begun place moments xs ≡ None
      → IsWithin limit begun (total (own config t) (round_of cuts t xs)) × EachWithin xs
  within_of begun place moments [] here e = (here, tt)
  within_of begun place moments (x ∷ xs) here e =
      by (λ own_within none.
      within_of (open_behind cuts t (with_own begun (own config t x)) x.stamped.event) (place + 1) (noted x.stamped.event x.stamped.stamp.at moments) xs own_within none)
      (is_above (with_own begun (own config t x)) limit) refl
    where
      later : Option Excess
      later = first (open_behind cuts t (with_own begun (own config t x)) x.stamped.event) (place + 1) (noted x.stamped.event x.stamped.stamp.at moments) xs

      this : Excess
      this = above t limit (with_own begun (own config t x)) place (watched config t moments x)

      by : (IsWithin limit (open_behind cuts t (with_own begun (own config t x)) x.stamped.event) 0 → later ≡ None
          → IsWithin limit (open_behind cuts t (with_own begun (own config t x)) x.stamped.event) (total (own config t) (round_of cuts t xs)) × EachWithin xs)
          → (b : Bool) → is_above (with_own begun (own config t x)) limit ≡ b → IsWithin limit begun (total (own config t) (round_of cuts t (x ∷ xs))) × EachWithin (x ∷ xs)
      by further true is = absurd (some_is_none this (sym (ap (λ b. cond b (Some this) later) is) ∙ e))
      by further false is =
          let goes = cuts && goes_on_waiting t x.stamped.event in
          let left = is_left t x.stamped.event in
          let enters = is_entry t x.stamped.event in
          let own_within = not_above limit (with_own begun (own config t x)) is in
          let none = sym (ap (λ b. cond b (Some this) later) is) ∙ e in
          let ih = further (still_within limit goes left enters (with_own begun (own config t x)) own_within) none in
          let step = step_back limit (own config t x) (total (own config t) (round_of cuts t xs)) goes left enters begun (apart t x.stamped.event) own_within ih.0 in
          (subst (λ k. IsWithin limit begun k) (sym (rest_more x xs)) step.0, (step.1, ih.1))

  pub none_of : (begun : Option ℕ) (place : ℕ) (moments : Moments) (xs : List Stage) → IsWithin limit begun (total (own config t) (round_of cuts t xs)) → EachWithin xs
      → first begun place moments xs ≡ None
  none_of begun place moments [] rest each = refl
  none_of begun place moments (x ∷ xs) rest each =
      let goes = cuts && goes_on_waiting t x.stamped.event in
      let left = is_left t x.stamped.event in
      let enters = is_entry t x.stamped.event in
      let step = step_on limit (own config t x) (total (own config t) (round_of cuts t xs)) goes left enters begun (subst (λ k. IsWithin limit begun k) (rest_more x xs) rest) each.0 in
      let later = first (open_behind cuts t (with_own begun (own config t x)) x.stamped.event) (place + 1) (noted x.stamped.event x.stamped.stamp.at moments) xs in
      let this = above t limit (with_own begun (own config t x)) place (watched config t moments x) in
      ap (λ b. cond b (Some this) later) (is_not_above limit (with_own begun (own config t x)) step.0)
      ∙ none_of (open_behind cuts t (with_own begun (own config t x)) x.stamped.event) (place + 1) (noted x.stamped.event x.stamped.stamp.at moments) xs step.1 each.1

  -- rounds by where they begin
  pub each_of : (xs : List Stage) → EachWithin xs → (before behind : List Stage) (opens : Stage) → xs ≡ before ++ opens ∷ behind → opens_round cuts t opens.stamped.event ≡ true
      → total (own config t) (round_of cuts t behind) ≤ limit
  each_of [] each [] behind opens is o = absurd cc
  each_of [] each (b ∷ before) behind opens is o = absurd cc
  each_of (x ∷ xs) each [] behind opens is o =
      let same : x ≡ opens = cc in
      let rest : xs ≡ behind = cc in
      subst (λ ys. total (own config t) (round_of cuts t ys) ≤ limit) rest (each.0 (ap (λ (y : Stage). opens_round cuts t y.stamped.event) same ∙ o))
  each_of (x ∷ xs) each (b ∷ before) behind opens is o = let rest : xs ≡ before ++ opens ∷ behind = cc in each_of xs each.1 before behind opens rest o

  pub of_each : (xs : List Stage)
      → ((before behind : List Stage) (opens : Stage) → xs ≡ before ++ opens ∷ behind → opens_round cuts t opens.stamped.event ≡ true → total (own config t) (round_of cuts t behind) ≤ limit)
      → EachWithin xs
  of_each [] all = tt
  of_each (x ∷ xs) all = (all [] xs x refl, of_each xs (λ before behind opens is o. all (x ∷ before) behind opens (ap (λ ys. x ∷ ys) is) o))
