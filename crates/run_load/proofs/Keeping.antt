-- No arrival comes too soon exactly where all keep the distances of the load.
use Rattle.std.proofs.Common.{◌≡◌, ◌∙◌, ◌+◌, ◌-◌, ◌<◌, ◌≤◌, ◌⊎◌, inl, inr, ℕ, zero, suc, Bool, true, false, cond, List, [], ◌∷◌, length, replicate, set, get_or, Option, Some, None, refl, sym, ap, subst, arith, ltb}
use Rattle.std.specs.List.{AllByRecursion}
use Rattle.std.specs.Option.{option_map}
use Rattle.std.proofs.lemmas.Bool.{cases_eq, true≢false, ltb-false, le-ltb}
use Rattle.std.proofs.lemmas.List.{get_or-set_same, get_or-set_other, length-set}
use Rattle.sloth_base.specs.declared.service.Arrival.{Arrival}
use Rattle.sloth_base.specs.MemoryMap.{line_count}
use Rattle.load_text.specs.declared.load_line.Entry.{Entry}
use Rattle.load_text.specs.Loads.{distance, IsBehind, KeepDistances}
use Rattle.response_laws.specs.Arrivals.{HasDistances}
use Rattle.run_load.specs.Soon.{Lasts, no_lasts, gap, is_soon, soon, first_soon}
use Rattle.run_load.specs.declared.soon.EarlyArrival.{EarlyArrival}

-- a moment is this far behind another one
abbrev IsAfter : Option ℕ → (before at : ℕ) → Type 0
IsAfter None before at = ⊥
IsAfter (Some d) before at = before + d ≤ at

-- an arrival is far enough behind the last one of its line
abbrev Follows : List Entry → Lasts → Arrival → Type 0
Follows load lasts b = (m : ℕ) → get_or lasts b.line None ≡ Some m → IsAfter (distance load b.line) m b.at

positive : (load : List Entry) → HasDistances load → (line d : ℕ) → distance load line ≡ Some d → 1 ≤ d
positive load has line zero is = absurd (has line is)
positive load has line (suc d) is = omega arith

some_same : (k m : ℕ) → Some k ≡ Some m → k ≡ m
some_same k m e = cc

none_yet : (n line m : ℕ) → get_or (replicate n None) line None ≡ Some m → ⊥
none_yet zero line m e = absurd cc
none_yet (suc n) zero m e = absurd cc
none_yet (suc n) (suc line) m e = none_yet n line m e

module _ (load : List Entry) (has : HasDistances load) where
  -- an arrival that does not come too soon has a distance, and is that far behind the last one of its line
  not_soon : (lasts : Lasts) (a : Arrival) → is_soon (distance load a.line) (gap lasts a) ≡ false → ((distance load a.line ≡ None) → ⊥) × Follows load lasts a
  not_soon lasts a e = by (distance load a.line) refl
    where
      by : (o : Option ℕ) → distance load a.line ≡ o → ((distance load a.line ≡ None) → ⊥) × Follows load lasts a
      by None is = absurd (true≢false (sym (ap (λ o. is_soon o (gap lasts a)) is) ∙ e))
      by (Some d) is = (
        (λ none. let wrong : Some d ≡ None = sym is ∙ none in absurd cc),
        λ m last.
            let far : ltb (a.at - m) d ≡ false = sym (ap (λ o. is_soon o (gap lasts a)) is ∙ ap (λ o. is_soon (Some d) (option_map (λ before. a.at - before) o)) last) ∙ e in
            let some = positive load has a.line d is in
            let le = ltb-false (a.at - m) d far in
            let enough : m + d ≤ a.at = omega (arith, some, le) in
            subst (λ o. IsAfter o m a.at) (sym is) enough,
      )

  -- and the other way round
  is_not_soon : (lasts : Lasts) (a : Arrival) → ((distance load a.line ≡ None) → ⊥) → Follows load lasts a → is_soon (distance load a.line) (gap lasts a) ≡ false
  is_not_soon lasts a there follows = by (distance load a.line) refl
    where
      at : (d : ℕ) → distance load a.line ≡ Some d → (o : Option ℕ) → get_or lasts a.line None ≡ o → is_soon (Some d) (gap lasts a) ≡ false
      at d is None last = ap (λ o. is_soon (Some d) (option_map (λ before. a.at - before) o)) last
      at d is (Some m) last =
          let far : m + d ≤ a.at = subst (λ o. IsAfter o m a.at) is (follows m last) in
          ap (λ o. is_soon (Some d) (option_map (λ before. a.at - before) o)) last ∙ le-ltb (a.at - m) d (omega (arith, far))

      by : (o : Option ℕ) → distance load a.line ≡ o → is_soon (distance load a.line) (gap lasts a) ≡ false
      by None is = absurd (there is)
      by (Some d) is = ap (λ o. is_soon o (gap lasts a)) is ∙ at d is (get_or lasts a.line None) refl

  -- behind an arrival that is noted: a later one of its line is that far behind it, and so it is behind the one before
  module _ (lasts : Lasts) (a : Arrival) (inside : a.line < length lasts) where
    abbrev behind_lasts : Lasts
    behind_lasts = set lasts a.line (Some a.at)

    noted_same : get_or behind_lasts a.line None ≡ Some a.at
    noted_same = get_or-set_same lasts a.line (Some a.at) None inside

    later_is_behind : (b : Arrival) → Follows load behind_lasts b → b.line ≡ a.line → IsBehind (distance load a.line) a b
    later_is_behind b follows same =
        let far = follows a.at (ap (λ l. get_or behind_lasts l None) same ∙ noted_same) in
        turned (distance load a.line) (subst (λ l. IsAfter (distance load l) a.at b.at) same far)
      where
        turned : (o : Option ℕ) → IsAfter o a.at b.at → IsBehind o a b
        turned None h = h
        turned (Some d) h = h

    earlier_follows : (b : Arrival) → Follows load lasts a → Follows load behind_lasts b → Follows load lasts b
    earlier_follows b own follows m last = by (cases_eq b.line a.line)
      where
        joined : (o : Option ℕ) → IsAfter o m a.at → IsAfter o a.at b.at → IsAfter o m b.at
        joined None h g = h
        joined (Some d) h g = omega (arith, h, g)

        by : (b.line ≡ a.line) ⊎ (b.line ≡ a.line → ⊥) → IsAfter (distance load b.line) m b.at
        by (inl same) =
            joined (distance load b.line) (subst (λ l. IsAfter (distance load l) m a.at) (sym same) (own m (ap (λ l. get_or lasts l None) (sym same) ∙ last)))
            (follows a.at (ap (λ l. get_or behind_lasts l None) same ∙ noted_same))
        by (inr other) = follows m (get_or-set_other lasts a.line b.line (Some a.at) None other ∙ last)

    later_follows : (b : Arrival) → Follows load lasts b → (b.line ≡ a.line → IsBehind (distance load a.line) a b) → Follows load behind_lasts b
    later_follows b follows behind m last = by (cases_eq b.line a.line)
      where
        turned : (o : Option ℕ) → IsBehind o a b → IsAfter o a.at b.at
        turned None h = h
        turned (Some d) h = h

        moment : Some a.at ≡ Some m → IsAfter (distance load b.line) a.at b.at → IsAfter (distance load b.line) m b.at
        moment e h = subst (λ k. IsAfter (distance load b.line) k b.at) (some_same a.at m e) h

        by : (b.line ≡ a.line) ⊎ (b.line ≡ a.line → ⊥) → IsAfter (distance load b.line) m b.at
        by (inl same) =
            moment (sym (ap (λ l. get_or behind_lasts l None) same ∙ noted_same) ∙ last)
            (subst (λ l. IsAfter (distance load l) a.at b.at) (sym same) (turned (distance load a.line) (behind same)))
        by (inr other) = follows m (sym (get_or-set_other lasts a.line b.line (Some a.at) None other) ∙ last)

  all_mapped : (P Q : Arrival → Type 0) → ((b : Arrival) → P b → Q b) → (bs : List Arrival) → AllByRecursion P bs → AllByRecursion Q bs
  all_mapped P Q each [] h = tt
  all_mapped P Q each (b ∷ bs) h = (each b h.0, all_mapped P Q each bs h.1)

  all_both : (P Q R : Arrival → Type 0) → ((b : Arrival) → P b → Q b → R b) → (bs : List Arrival) → AllByRecursion P bs → AllByRecursion Q bs → AllByRecursion R bs
  all_both P Q R each [] h g = tt
  all_both P Q R each (b ∷ bs) h g = (each b h.0 g.0, all_both P Q R each bs h.1 g.1)

  -- each arrival is of a line of the controller
  abbrev AreBelow : ℕ → List Arrival → Type 0
  AreBelow n arrivals = AllByRecursion (λ a. a.line < n) arrivals

  some_is_none : (s : EarlyArrival) → Some s ≡ None → ⊥
  some_is_none s e = absurd cc

  keeps_from : (lasts : Lasts) (place : ℕ) (arrivals : List Arrival) → AreBelow (length lasts) arrivals → first_soon load lasts place arrivals ≡ None
      → KeepDistances load arrivals × AllByRecursion (Follows load lasts) arrivals
  keeps_from lasts place [] inside e = (tt, tt)
  keeps_from lasts place (a ∷ rest) inside e =
      by (λ within later. keeps_from (set lasts a.line (Some a.at)) (place + 1) rest within later) (is_soon (distance load a.line) (gap lasts a)) refl
    where
      by : (AreBelow (length (set lasts a.line (Some a.at))) rest → first_soon load (set lasts a.line (Some a.at)) (place + 1) rest ≡ None
          → KeepDistances load rest × AllByRecursion (Follows load (set lasts a.line (Some a.at))) rest) → (b : Bool) → is_soon (distance load a.line) (gap lasts a) ≡ b → KeepDistances load (a ∷ rest) × AllByRecursion (Follows load lasts) (a ∷ rest)
      by further true is =
          absurd (some_is_none (soon lasts place a)
          (sym (ap (λ b. cond b (Some (soon lasts place a)) (first_soon load (set lasts a.line (Some a.at)) (place + 1) rest)) is) ∙ e))
      by further false is =
          let own = not_soon lasts a is in
          let later = sym (ap (λ b. cond b (Some (soon lasts place a)) (first_soon load (set lasts a.line (Some a.at)) (place + 1) rest)) is) ∙ e in
          let size = length-set lasts a.line (Some a.at) in
          let ih = further (subst (λ n. AreBelow n rest) (sym size) inside.1) later in
          let F : Arrival → Type 0 = Follows load (set lasts a.line (Some a.at)) in (
            (own.0, all_mapped F (λ b. b.line ≡ a.line → IsBehind (distance load a.line) a b) (λ b. later_is_behind lasts a inside.0 b) rest ih.1, ih.0),
            (own.1, all_mapped F (Follows load lasts) (λ b. earlier_follows lasts a inside.0 b own.1) rest ih.1),
          )

  soon_from : (lasts : Lasts) (place : ℕ) (arrivals : List Arrival) → AreBelow (length lasts) arrivals → KeepDistances load arrivals
      → AllByRecursion (Follows load lasts) arrivals → first_soon load lasts place arrivals ≡ None
  soon_from lasts place [] inside keeps follows = refl
  soon_from lasts place (a ∷ rest) inside keeps follows =
      let not = is_not_soon lasts a keeps.0 follows.0 in
      let size = length-set lasts a.line (Some a.at) in
      ap (λ b. cond b (Some (soon lasts place a)) (first_soon load (set lasts a.line (Some a.at)) (place + 1) rest)) not
      ∙ soon_from (set lasts a.line (Some a.at)) (place + 1) rest (subst (λ n. AreBelow n rest) (sym size) inside.1) keeps.2
      (all_both (Follows load lasts) (λ b. b.line ≡ a.line → IsBehind (distance load a.line) a b) (Follows load (set lasts a.line (Some a.at)))
      (λ b. later_follows lasts a inside.0 b) rest follows.1 keeps.1)

  all_none : (arrivals : List Arrival) → AllByRecursion (Follows load no_lasts) arrivals
  all_none [] = tt
  all_none (b ∷ bs) = ((λ m e. absurd (none_yet line_count b.line m e)), all_none bs)

  pub keeps-exactly : (arrivals : List Arrival) → AllByRecursion (λ a. a.line < line_count) arrivals
      → (first_soon load no_lasts 0 arrivals ≡ None → KeepDistances load arrivals) × (KeepDistances load arrivals → first_soon load no_lasts 0 arrivals ≡ None)
  keeps-exactly arrivals inside = (
    (λ e. (keeps_from no_lasts 0 arrivals inside e).0),
    λ keeps. soon_from no_lasts 0 arrivals inside keeps (all_none arrivals),
  )
