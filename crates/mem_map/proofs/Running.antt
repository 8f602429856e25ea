-- Extents one behind the other, each aligned.
use Rattle.std.proofs.Common.{◌≡◌, ◌≤◌, ◌+◌, ◌-◌, ◌%◌, ◌⊎◌, ℕ, suc, List, [], ◌∷◌, refl, sym, ap, subst, inl, inr, arith}
use Rattle.std.specs.Prelude.{All, map}
use Rattle.std.proofs.lemmas.List.Elements.{All-cons}
use Rattle.sloth_region.specs.declared.region.Extent.{Extent}
use Rattle.sloth_region.specs.Region.{aligned, FollowWithin}
use Rattle.sloth_region.proofs.Placed.{apart_within}
use Rattle.mem_map.specs.Run.{run, room_for, AreRun}

-- what extents are aligned to: a word, or four
abbrev pub IsWord : ℕ → Type 0
IsWord align = (align ≡ 4) ⊎ (align ≡ 16)

abbrev Aligns : ℕ → ℕ → Type 0
Aligns address align = (address ≤ aligned address align) × (aligned address align ≤ address + (align - 1)) × (aligned address align % align ≡ 0)

-- the next multiple is not below, and less than one step on
pub aligns : (address align : ℕ) → IsWord align → Aligns address align
aligns address align (inl e) = subst (Aligns address) (sym e) (omega arith, omega arith, omega arith)
aligns address align (inr e) = subst (Aligns address) (sym e) (omega arith, omega arith, omega arith)

-- a run with room follows one another up to the end
pub follow_run : (align from end : ℕ) (lengths : List ℕ) → IsWord align → All (λ len. 1 ≤ len) lengths → from + room_for align lengths ≤ end → FollowWithin from end (run align from lengths)
follow_run align from end [] w some room = omega (arith, room)
follow_run align from end (len ∷ lengths) w some room =
    let a = aligns from align w in
    (a.0, some 0 0 (omega arith), follow_run align (aligned from align + len) end lengths w (λ k d l. some (suc k) d (omega arith)) (omega (arith, a.1, room)))

lengths_run : (align from : ℕ) (lengths : List ℕ) → map (λ (e : Extent). e.len) (run align from lengths) ≡ lengths
lengths_run align from [] = refl
lengths_run align from (len ∷ lengths) = ap (λ rest. len ∷ rest) (lengths_run align (aligned from align + len) lengths)

aligned_run : (align from : ℕ) (lengths : List ℕ) → IsWord align → All (λ (e : Extent). e.base % align ≡ 0) (run align from lengths)
aligned_run align from [] w = λ k d l. absurd (omega arith)
aligned_run align from (len ∷ lengths) w =
    All-cons (λ (e : Extent). e.base % align ≡ 0) (record { base = aligned from align; len = len }) (run align (aligned from align + len) lengths)
    (aligns from align w).2 (aligned_run align (aligned from align + len) lengths w)

-- and is the run of these lengths
pub are_run : (align from end : ℕ) (lengths : List ℕ) → IsWord align → All (λ len. 1 ≤ len) lengths → from + room_for align lengths ≤ end → AreRun align from end lengths (run align from lengths)
are_run align from end lengths w some room = record {
  lengths_are = lengths_run align from lengths;
  apart = apart_within from end (run align from lengths) (follow_run align from end lengths w some room);
  aligned_each = aligned_run align from lengths w;
}
