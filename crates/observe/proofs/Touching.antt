-- The table of touched lines tells which arrivals are early.
use Rattle.std.proofs.Common.{◌≡◌, ◌≤◌, ◌<◌, ◌+◌, ℕ, zero, suc, true, false, List, [], ◌∷◌, ◌++◌, Option, Some, None, length, filter, refl, sym, ◌∙◌, ap, arith, nat_lt, inl, inr, length-set, get_or, get_or-set_other}
use Rattle.std.specs.Prelude.{◌||◌, not, slice_index, slice_set, replicate, IfSome}
use Rattle.std.specs.List.{list_any}
use Rattle.std.proofs.lemmas.Bool.Decides.{leb_tells, eqb_tells}
use Rattle.std.proofs.lemmas.Bool.{le-ltb, lt-ltb}
use Rattle.std.proofs.lemmas.List.Folds.{list_any-append}
use Rattle.std.proofs.Math.ListN.{set}
use Rattle.std.proofs.lemmas.Grind.{get_or-set_at}
use Rattle.std.proofs.Math.Bool.{or-false, and-false, or-true}
use Rattle.sloth_base.specs.declared.service.Arrival.{Arrival}
use Rattle.sloth_base.specs.declared.numbers.Step.{Step}
use Rattle.observe.specs.Observe.{is_touch, is_early}
use Rattle.sloth_base.specs.Options.{is_number}
use Rattle.observe.specs.Touches.{was_touched, noted_touches, HasPlace, IsTouchTable}

any-more : (at line : ℕ) (steps : List Step) (step : Step) → list_any (is_touch at line) (steps ++ step ∷ []) ≡ (list_any (is_touch at line) steps || is_touch at line step)
any-more at line steps step = list_any-append (is_touch at line) steps (step ∷ []) ∙ ap (λ b. list_any (is_touch at line) steps || b) (or-false (is_touch at line step))

-- a step that does not touch the line
any-same : (at line : ℕ) (steps : List Step) (step : Step) → is_number line step.touched ≡ false → list_any (is_touch at line) (steps ++ step ∷ []) ≡ list_any (is_touch at line) steps
any-same at line steps step off = any-more at line steps step ∙ rw (off, and-false, or-false) refl

-- a step that does
any-here : (at line : ℕ) (table : List ℕ) (count : ℕ) (steps : List Step) (step : Step) → IsTouchTable table count steps → step.count ≡ count → is_number line step.touched ≡ true
    → nat_lt at (step.count + 1) ≡ list_any (is_touch at line) (steps ++ step ∷ [])
any-here at line table count steps step t e on = elim (leb_tells at step.count) [
  | inl early ↦ (let now : nat_lt at (step.count + 1) ≡ true = lt-ltb at (step.count + 1) (omega arith) in
      now ∙ sym (any-more at line steps step ∙ rw (early.0, on, or-true) refl))
  | inr late ↦ (let now : nat_lt at (step.count + 1) ≡ false = le-ltb at (step.count + 1) (omega arith) in
      let bound : slice_index table line ≤ count = t.earlier line in
      let before : nat_lt at (slice_index table line) ≡ false = le-ltb at (slice_index table line) (omega arith) in
      now ∙ sym (any-more at line steps step ∙ rw (late.0, or-false) (sym (t.known line at) ∙ before)))
]

-- a step that touches no line
noted-none : (table : List ℕ) (count : ℕ) (steps : List Step) (step : Step) → ((line : ℕ) → is_number line step.touched ≡ false) → IsTouchTable table count steps → IsTouchTable table (count + 1) (steps ++ step ∷ [])
noted-none table count steps step other t = record {
  long = t.long;
  earlier = λ line. let bound : slice_index table line ≤ count = t.earlier line in omega arith;
  known = λ line at. t.known line at ∙ sym (any-same at line steps step (other line));
}

-- a step that touches this one
noted-line : (l : ℕ) (table : List ℕ) (count : ℕ) (steps : List Step) (step : Step) → step.touched ≡ Some l → l < 256 → IsTouchTable table count steps → step.count ≡ count
    → IsTouchTable (slice_set table l (step.count + 1)) (count + 1) (steps ++ step ∷ [])
noted-line l table count steps step is in_range t e = record {
  long = length-set table l (step.count + 1) ∙ t.long;
  earlier = λ line. elim (eqb_tells line l) [
    | inl same ↦ (let here : get_or (set table l (step.count + 1)) line 0 ≡ step.count + 1 = get_or-set_at table l line (step.count + 1) 0 same.1 (let long : length table ≡ 256 = t.long in omega arith) in omega arith)
    | inr other ↦ (let bound : slice_index table line ≤ count = t.earlier line in
        let there : get_or (set table l (step.count + 1)) line 0 ≡ get_or table line 0 = get_or-set_other table l line (step.count + 1) 0 other.1 in omega arith)
  ];
  known = λ line at. elim (eqb_tells l line) [
    | inl same ↦ (let here : get_or (set table l (step.count + 1)) line 0 ≡ step.count + 1 = get_or-set_at table l line (step.count + 1) 0 (sym same.1) (let long : length table ≡ 256 = t.long in omega arith) in
        ap (nat_lt at) here ∙ any-here at line table count steps step t e (rw (is, same.0) refl))
    | inr other ↦ (let there : get_or (set table l (step.count + 1)) line 0 ≡ get_or table line 0 = get_or-set_other table l line (step.count + 1) 0 (λ r. other.1 (sym r)) in
        ap (nat_lt at) there ∙ t.known line at ∙ sym (any-same at line steps step (rw (is, other.0) refl)))
  ];
}

noted-at : (touched : Option ℕ) (table : List ℕ) (count : ℕ) (steps : List Step) (step : Step) → step.touched ≡ touched → IfSome touched (λ line. line < 256) → IsTouchTable table count steps → step.count ≡ count
    → IsTouchTable (noted_touches touched step.count table) (count + 1) (steps ++ step ∷ [])
noted-at None table count steps step is place t e = noted-none table count steps step (λ line. rw is refl) t
noted-at (Some l) table count steps step is place t e = noted-line l table count steps step is place t e

-- the table goes on with the step
pub noted-keeps : (table : List ℕ) (count : ℕ) (steps : List Step) (step : Step) → HasPlace step → IsTouchTable table count steps → step.count ≡ count → IsTouchTable (noted_touches step.touched step.count table) (count + 1) (steps ++ step ∷ [])
noted-keeps table count steps step place t e = noted-at step.touched table count steps step refl place t e

zeros : (n line : ℕ) → slice_index (replicate n 0) line ≡ 0
zeros zero line = refl
zeros (suc n) zero = refl
zeros (suc n) (suc line) = zeros n line

-- the table where nothing was touched
pub tells-none : (count : ℕ) → IsTouchTable (replicate 256 0) count []
tells-none count = record {
  long = refl;
  earlier = λ line. let z : slice_index (replicate 256 0) line ≡ 0 = zeros 256 line in omega arith;
  known = λ line at. ap (nat_lt at) (zeros 256 line) ∙ le-ltb at 0 (omega arith);
}

-- the table tells of an arrival what the steps do
early-is : (table : List ℕ) (count : ℕ) (steps : List Step) (arrival : Arrival) → IsTouchTable table count steps → was_touched table arrival ≡ is_early steps arrival
early-is table count steps arrival t = t.known arrival.line arrival.at

pub filter-early : (table : List ℕ) (count : ℕ) (steps : List Step) (arrivals : List Arrival) → IsTouchTable table count steps → filter (was_touched table) arrivals ≡ filter (is_early steps) arrivals
filter-early table count steps [] t = refl
filter-early table count steps (arrival ∷ arrivals) t = rw (early-is table count steps arrival t, filter-early table count steps arrivals t) refl

pub filter-late : (table : List ℕ) (count : ℕ) (steps : List Step) (arrivals : List Arrival) → IsTouchTable table count steps
    → filter (λ arrival. not (was_touched table arrival)) arrivals ≡ filter (λ arrival. not (is_early steps arrival)) arrivals
filter-late table count steps [] t = refl
filter-late table count steps (arrival ∷ arrivals) t = rw (early-is table count steps arrival t, filter-late table count steps arrivals t) refl
