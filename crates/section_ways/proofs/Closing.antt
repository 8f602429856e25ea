-- Ways that end at the position at which they begin, and where the lower task is raised wherever it stands.
use Rattle.std.proofs.Common.{◌≡◌, ℕ, suc, ◌+◌, ◌≤◌, ◌<◌, inl, leb, max, Bool, true, false, cond, List, [], ◌∷◌, ◌++◌, length, refl, sym, ap, ◌∙◌, subst, arith}
use Rattle.std.proofs.lemmas.Bool.{le-leb, lt-leb}
use Rattle.sloth_base.specs.declared.config.Config.{Config}
use Rattle.sloth_base.specs.declared.app.App.{App}
use Rattle.sloth_base.specs.Named.{declaration}
use Rattle.osek_scheduler.specs.Priority.{highest_priority}
use Rattle.osek_scheduler.specs.Apart.{static_priority}
use Rattle.osek_scheduler.proofs.Excluding.{below_ceiling}
use Rattle.osek_blocking.specs.Walks.{Position}
use Rattle.osek_blocking.specs.Sections.{IsLower, IsSection}
use Rattle.walk_sums.specs.declared.standing.Point.{Point}
use Rattle.walk_sums.specs.declared.standing.Standing.{Standing}
use Rattle.section_ways.specs.SectionWays.{StandAt, IsSectionWay, IsCycleWay}
use Rattle.section_ways.specs.Standings.{is_raised_at, IsStart, last_of, IsStretch, IsClosedWay}
use Rattle.walk_sums.specs.Positions.{position_of}
use Rattle.section_ways.proofs.Stretches.{section_of}

-- ---- points of positions

stand_count : (positions : List Position) (points : List Point) → StandAt positions points → length positions ≡ length points
stand_count [] [] s = refl
stand_count [] (p ∷ points) s = absurd s
stand_count ([] ∷ positions) [] s = absurd s
stand_count ([] ∷ positions) (p ∷ points) s = absurd s
stand_count ((here ∷ around) ∷ positions) [] s = absurd s
stand_count ((here ∷ around) ∷ positions) (p ∷ points) s = ap suc (stand_count positions points s.1)

count_more : (positions : List Position) (x : Position) (points : List Point) (p : Point) → length (positions ++ x ∷ []) ≡ length (points ++ p ∷ []) → length positions ≡ length points
count_more [] x [] p e = refl
count_more [] x (q ∷ []) p e = absurd (omega (arith, e))
count_more [] x (q ∷ r ∷ points) p e = absurd (omega (arith, e))
count_more (y ∷ []) x [] p e = absurd (omega (arith, e))
count_more (y ∷ z ∷ positions) x [] p e = absurd (omega (arith, e))
count_more (y ∷ positions) x (q ∷ points) p e = ap suc (count_more positions x points p (omega (arith, e)))

stand_less : (positions : List Position) (x : Position) (points : List Point) (p : Point) → length positions ≡ length points
    → StandAt (positions ++ x ∷ []) (points ++ p ∷ []) → StandAt positions points
stand_less [] x [] p e s = tt
stand_less [] x (q ∷ points) p e s = absurd (omega (arith, e))
stand_less (y ∷ positions) x [] p e s = absurd (omega (arith, e))
stand_less ([] ∷ positions) x (q ∷ points) p e s = absurd s
stand_less ((here ∷ around) ∷ positions) x (q ∷ points) p e s = (s.0, stand_less positions x points p (omega (arith, e)) s.1)

-- ---- sections

pub section_way : (config : Config) (app : App) (h t : ℕ) (from to : List Standing) (points : List Point) → IsLower config h t → IsStart config app h t from
    → IsStretch config app h t from to points → IsSectionWay config app h t points
section_way config app h t from to points lower start s = record {
  lower = lower;
  positions = position_of from ∷ s.further;
  is_section = section_of config app h t from to points start s;
  stand = s.stand;
  counted = s.counted;
}

-- ---- cycles

ends_split : (y : Position) (ys : List Position) → (before : List Position) × (y ∷ ys ≡ before ++ last_of y ys ∷ [])
ends_split y [] = ([], refl)
ends_split y (z ∷ zs) = let r = ends_split z zs in (y ∷ r.0, ap (λ l. y ∷ l) r.1)

module _ (config : Config) (app : App) (h t : ℕ) where
  -- a stretch of at least two points back to the position at which it begins
  pub closed : (from to : List Standing) (points : List Point) → IsStart config app h t from → IsStretch config app h t from to points
      → position_of to ≡ position_of from → 2 ≤ length points → IsClosedWay config app h t points
  closed from to points start s back two = by s.further refl
    where
      by : (f : List Position) → s.further ≡ f → IsClosedWay config app h t points
      by [] e =
          let n = stand_count (position_of from ∷ s.further) points s.stand in
          let none : length s.further ≡ 0 = ap length e in
          absurd (omega (arith, n, none, two))
      by (y ∷ ys) e =
          let r = ends_split y ys in
          let there : last_of y ys ≡ position_of from = sym (ap (λ l. last_of (position_of from) l) e) ∙ s.ends ∙ back in
          let all : s.further ≡ r.0 ++ position_of from ∷ [] = e ∙ r.1 ∙ ap (λ x. r.0 ++ x ∷ []) there in
          record {
            first = position_of from;
            further = r.0;
            is_section = subst (λ f. IsSection config app h t (position_of from ∷ f)) all (section_of config app h t from to points start s);
            stand = subst (λ f. StandAt (position_of from ∷ f) points) all s.stand;
          }

  -- without its last point it is a cycle
  pub cycle_of : (points less : List Point) (p : Point) → IsLower config h t → points ≡ less ++ p ∷ [] → IsClosedWay config app h t points → IsCycleWay config app h t less
  cycle_of points less p lower is c =
      let stand : StandAt ((c.first ∷ c.further) ++ c.first ∷ []) (less ++ p ∷ []) = subst (StandAt (c.first ∷ c.further ++ c.first ∷ [])) is c.stand in
      let n = count_more (c.first ∷ c.further) c.first less p (stand_count ((c.first ∷ c.further) ++ c.first ∷ []) (less ++ p ∷ []) stand) in
      record {
        lower = lower;
        first = c.first;
        further = c.further;
        is_section = c.is_section;
        stand = stand_less (c.first ∷ c.further) c.first less p n stand;
      }

-- ---- where nothing is held

module _ (config : Config) (app : App) (h : ℕ) (there : h < length config.tasks) where
  abbrev P : ℕ
  P = static_priority config h

  -- a lower task is raised at all of its positions exactly where it is not preemptable
  pub always_is : (t : ℕ) → IsLower config h t → (declaration config t).non ≡ is_raised_at config app h t []
  always_is t low = by (declaration config t).non refl
    where
      Q : Bool → Type 0
      Q b = b ≡ leb P (max (static_priority config t) (max 0 (cond b (highest_priority config) 0)))

      top : P ≤ highest_priority config
      top = below_ceiling config app h 32 there (inl refl)

      by : (b : Bool) → (declaration config t).non ≡ b → Q (declaration config t).non
      by true e = let le = top in subst Q (sym e) (sym (le-leb P (max (static_priority config t) (max 0 (highest_priority config))) (omega (arith, le))))
      by false e = let lt = low.1 in subst Q (sym e) (sym (lt-leb P (max (static_priority config t) (max 0 0)) (omega (arith, lt))))
