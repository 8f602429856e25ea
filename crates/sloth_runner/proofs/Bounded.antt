-- A run shows no more events than it has steps and arrivals.
use Rattle.std.proofs.Common.{◌≡◌, ◌∙◌, ℕ, zero, suc, ◌+◌, ◌<◌, ◌≤◌, Bool, true, false, not, List, [], ◌∷◌, ◌++◌, Some, None, Option, length, length-append, map, arith, refl, ap, subst}
use Rattle.std.specs.Prelude.{◌&&◌, if◌then◌else◌, cond, filter, nat_le, nat_lt}
use Rattle.std.specs.List.{flat_map}
use Rattle.std.proofs.lemmas.List.{length-map}
use Rattle.std.proofs.lemmas.List.Sums.{length-filter, count_by-le-length}
use Rattle.std.proofs.lemmas.List.Filters.{length-filter_both}
use Rattle.std.proofs.lemmas.Bool.{leb-true, ltb-true, le-leb}
use Rattle.sloth_base.specs.Machine.{State}
use Rattle.sloth_base.specs.Arrivals.{moments}
use Rattle.sloth_base.specs.declared.service.Arrival.{Arrival}
use Rattle.sloth_base.specs.declared.numbers.Step.{Step}
use Rattle.sloth_base.specs.declared.image.Image.{Image}
use Rattle.sloth_base.specs.declared.image.Mark.{Mark}
use Rattle.sloth_base.specs.declared.image.MarkKind.{MarkKind}
use Rattle.sloth_base.specs.declared.image.MarkKind.TheVariants as kind
use Rattle.observe.specs.Pieces.{RunPiece, Outside, Stretch, pieces, cut_off_steps, begins}
use Rattle.observe.specs.Observe.{View, view_of_image, mark_at, events_of_kind, outside_events, admission, stamp, is_early, first_masked_moment, last_of, found_admits, stretch_event, stretch_events, piece_events, observe}
use Rattle.rv32_machine.specs.Coherent.{AreCoherent}
use Rattle.rv32_machine.specs.Start.{start}
use Rattle.rv32_machine.specs.Advance.{StepOutcome, Goes, Halts}
use Rattle.rv32_machine.specs.Run.{moment, moment_of, on_goes, run_from, run, steps_of}
use Rattle.rv32_machine.proofs.Coherence.{coherent}
use Rattle.sim_induction.specs.Sound.{events_of}

-- ---- arrivals

-- how many arrivals are of this moment or of later ones
abbrev left : ℕ → List Arrival → ℕ
left from arrivals = length (filter (λ (a : Arrival). nat_le from a.at) arrivals)

left-all : (from : ℕ) (arrivals : List Arrival) → left from arrivals ≤ length arrivals
left-all from arrivals =
    let is = length-filter (λ (a : Arrival). nat_le from a.at) arrivals in
    let few = count_by-le-length (λ (a : Arrival). nat_le from a.at) arrivals in omega (arith, is, few)

three : (p q r : Bool) (a : Arrival) (ms ls ks : List Arrival) → (r ≡ true → p ≡ true) → (q ≡ true → r ≡ true → ⊥) → length ms + length ls ≤ length ks
    → length (cond (p && q) (a ∷ ms) ms) + length (cond r (a ∷ ls) ls) ≤ length (cond p (a ∷ ks) ks)
three true true true a ms ls ks up apart h = absurd (apart refl refl)
three true true false a ms ls ks up apart h = omega (arith, h)
three true false true a ms ls ks up apart h = omega (arith, h)
three true false false a ms ls ks up apart h = omega (arith, h)
three false q true a ms ls ks up apart h = let e : false ≡ true = up refl in cc
three false q false a ms ls ks up apart h = omega (arith, h)

left-moments : (from to : ℕ) (arrivals : List Arrival) → from ≤ to → length (moments from to arrivals) + left to arrivals ≤ left from arrivals
left-moments from to [] h = omega arith
left-moments from to (a ∷ rest) h =
    three (nat_le from a.at) (nat_lt a.at to) (nat_le to a.at) a (moments from to rest) (filter (λ (a : Arrival). nat_le to a.at) rest) (filter (λ (a : Arrival). nat_le from a.at) rest)
    (λ e. let l = leb-true to a.at e in le-leb from a.at (omega (arith, h, l)))
    (λ e f. let l = ltb-true a.at to e in let g = leb-true to a.at f in absurd (omega (arith, l, g)))
    (left-moments from to rest h)

-- ---- the events of a piece

of-kind : (k : MarkKind) (view : View) (mark : Mark) (step : Step) → length (events_of_kind k view mark step) ≤ 1
of-kind kind.Item view mark step = omega arith
of-kind kind.Idle view mark step = omega arith
of-kind kind.Jump view mark step = omega arith
of-kind kind.Opening view mark step = omega arith
of-kind kind.Back view mark step = omega arith

of-mark : (mark : Option Mark) (view : View) (step : Step) → length (outside_events mark view step) ≤ 1
of-mark (Some mark) view step = of-kind mark.kind view mark step
of-mark None view step = omega arith

module _ (view : View) (A : List Arrival) where
  of-outside : (step : Step) → length (piece_events view A (Outside step)) ≤ length (moments step.count (step.count + 1) A) + 1
  of-outside step =
      let admits = map (admission view) (moments step.count (step.count + 1) A) in
      let events = outside_events (mark_at view step.pc) view step in
      let a = length-map (moments step.count (step.count + 1) A) (admission view) in
      let b = length-map events (stamp step.count step.count) in
      let few = of-mark (mark_at view step.pc) view step in
      let all = length-append admits (map (stamp step.count step.count) events) in omega (arith, a, b, few, all)

  of-stretch : (first : Step) (more : List Step)
      → length (stretch_events view A (first ∷ more)) ≡ length (moments (first_masked_moment first) ((last_of first more).count + 1) A) + 1
  of-stretch first more =
      let inside = moments (first_masked_moment first) ((last_of first more).count + 1) A in
      let early : Arrival → Bool = is_early (first ∷ more) in
      let late : Arrival → Bool = λ a. not (early a) in
      let a = length-map (filter early inside) (admission view) in
      let b = length-map (filter late inside) (admission view) in
      let both = length-filter_both early late (λ x. refl) inside in
      let all = length-append (map (admission view) (filter early inside))
      (stamp first.count (last_of first more).count (stretch_event view first (last_of first more)) ∷ map (admission view) (filter late inside)) in
      omega (arith, a, b, both, all)

  of-found : (first : Step) (more : List Step) → length (found_admits view A (first ∷ more)) ≡ length (moments first.count (first_masked_moment first) A)
  of-found first more = length-map (moments first.count (first_masked_moment first) A) (admission view)

  masked-late : (first : Step) → (first.count ≤ first_masked_moment first) × (first_masked_moment first ≤ first.count + 1)
  masked-late first =
      let P : Bool → Type 0 = λ b. (first.count ≤ (if b then first.count + 1 else first.count)) × ((if b then first.count + 1 else first.count) ≤ first.count + 1) in
      elim first.enabled_before as P [ true ↦ (omega arith, omega arith) | false ↦ (omega arith, omega arith) ]

  -- ---- the events of a run

  -- the first moment of the open stretch, or this one where none is open
  abbrev opened_at : List Step → ℕ → ℕ
  opened_at [] count = count
  opened_at (first ∷ more) count = first.count

  -- how many events these pieces and the steps behind them show
  abbrev shown : List RunPiece → List Step → ℕ
  shown parts rest = length (flat_map (piece_events view A) parts) + length (found_admits view A rest)

  -- a stretch that may end with its last step
  in-stretch : (e : Bool) (first : Step) (more : List Step) (parts : List RunPiece) (rest : List Step) (on : List RunPiece) (on_rest : List Step) (n c : ℕ)
      → (last_of first more).count ≡ c → first.count ≤ c → shown parts rest ≤ n + left (c + 1) A → shown on on_rest ≤ n + left first.count A
      → shown (if e then Stretch (first ∷ more) ∷ parts else on) (if e then rest else on_rest) ≤ suc n + left first.count A
  in-stretch true first more parts rest on on_rest n c last begun ends goes =
      let found = of-found first more in
      let stretch = of-stretch first more in
      let P : ℕ → Type 0 = λ k. length (stretch_events view A (first ∷ more)) ≡ length (moments (first_masked_moment first) (k + 1) A) + 1 in
      let at_c = subst P last stretch in
      let masked = masked-late first in
      let m1 = left-moments first.count (first_masked_moment first) A masked.0 in
      let m2 = left-moments (first_masked_moment first) (c + 1) A (omega (arith, masked, begun)) in
      let own = length-append (found_admits view A (first ∷ more)) (stretch_events view A (first ∷ more)) in
      let all = length-append (piece_events view A (Stretch (first ∷ more))) (flat_map (piece_events view A) parts) in
      omega (arith, found, at_c, m1, m2, own, all, ends)
  in-stretch false first more parts rest on on_rest n c last begun ends goes = omega (arith, goes)

  outside-one : (step : Step) (parts : List RunPiece) (rest : List Step) (n c : ℕ) → step.count ≡ c → shown parts rest ≤ n + left (c + 1) A
      → shown (Outside step ∷ parts) rest ≤ suc n + left c A
  outside-one step parts rest n c is ends =
      let own = of-outside step in
      let P : ℕ → Type 0 = λ k. length (piece_events view A (Outside step)) ≤ length (moments k (k + 1) A) + 1 in
      let at_c = subst P is own in
      let m = left-moments c (c + 1) A (omega arith) in
      let all = length-append (piece_events view A (Outside step)) (flat_map (piece_events view A) parts) in
      omega (arith, at_c, m, all, ends)

  last-is : (first : Step) (more : List Step) (step : Step) → last_of first (more ++ step ∷ []) ≡ step
  last-is first [] step = refl
  last-is first (next ∷ more) step = last-is next more step

  -- the open stretch began before this count
  abbrev BegunBefore : List Step → ℕ → Type 0
  BegunBefore [] count = Unit {0}
  BegunBefore (first ∷ more) count = first.count < count

  few-from : (opened steps : List Step) (c : ℕ) (enabled : Bool) → AreCoherent c enabled steps → BegunBefore opened c
      → shown (pieces opened steps) (cut_off_steps opened steps) ≤ length steps + left (opened_at opened c) A
  few-from [] [] c enabled h begun = omega arith
  few-from (first ∷ more) [] c enabled h begun =
      let found = of-found first more in
      let masked = masked-late first in
      let m = left-moments first.count (first_masked_moment first) A masked.0 in omega (arith, found, m)
  few-from [] (step ∷ steps) c enabled h begun =
      let apart = few-from [] steps (c + 1) step.enabled_after h.2 tt in
      let own : step.count ≡ c = h.0 in
      let joined = few-from (step ∷ []) steps (c + 1) step.enabled_after h.2 (omega (arith, own)) in
      let L : ℕ → Type 0 = λ k. shown (if step.enabled_after then Stretch (step ∷ []) ∷ pieces [] steps else pieces (step ∷ []) steps)
      (if step.enabled_after then cut_off_steps [] steps else cut_off_steps (step ∷ []) steps) ≤ suc (length steps) + left k A in
      let P : Bool → Type 0 = λ b. shown (if b then Outside step ∷ pieces [] steps
      else if step.enabled_after then Stretch (step ∷ []) ∷ pieces [] steps else pieces (step ∷ []) steps)
      (if b then cut_off_steps [] steps else if step.enabled_after then cut_off_steps [] steps else cut_off_steps (step ∷ []) steps) ≤ suc (length steps) + left c A in
      elim (not (begins step)) as P [
        | true ↦ outside-one step (pieces [] steps) (cut_off_steps [] steps) (length steps) c own apart
        | false ↦ subst L own (in-stretch step.enabled_after step [] (pieces [] steps) (cut_off_steps [] steps) (pieces (step ∷ []) steps) (cut_off_steps (step ∷ []) steps) (length steps) c own
            (omega (arith, own)) apart joined)
      ]
  few-from (first ∷ more) (step ∷ steps) c enabled h begun =
      let apart = few-from [] steps (c + 1) step.enabled_after h.2 tt in
      let joined = few-from (first ∷ (more ++ step ∷ [])) steps (c + 1) step.enabled_after h.2 (omega (arith, begun)) in
      in-stretch step.enabled_after first (more ++ step ∷ []) (pieces [] steps) (cut_off_steps [] steps) (pieces (first ∷ (more ++ step ∷ [])) steps) (cut_off_steps (first ∷ (more ++ step ∷ [])) steps)
      (length steps) c (ap (λ s. s.count) (last-is first more step) ∙ h.0) (omega (arith, begun)) apart joined

  few : (steps : List Step) (enabled : Bool) → AreCoherent 0 enabled steps → length (observe view A steps) ≤ length steps + length A
  unfolding observe
  few steps enabled h =
      let all = few-from [] steps 0 enabled h tt in
      let those = left-all 0 A in
      let both = length-append (flat_map (piece_events view A) (pieces [] steps)) (found_admits view A (cut_off_steps [] steps)) in
      omega (arith, all, those, both)

-- ---- the steps of a run

steps-few : (n : ℕ) (A : List Arrival) (count : ℕ) (state : State) → length (steps_of (run_from n A count state)) ≤ n
unfolding run_from
steps-few zero A count state = omega arith
steps-few (suc n) A count state =
    let P : StepOutcome → Type 0 = λ o. length (steps_of (on_goes o [] (λ step after. moment_of A count state step after ∷ run_from n A (count + 1) after))) ≤ suc n in
    elim (moment A count state) as P [
      | Goes step after ↦ (let ih = steps-few n A (count + 1) after in omega (arith, ih))
      | Halts stop ↦ omega arith
    ]

-- a run of n instructions shows no more events than n and the arrivals
pub few-events : (image : Image) (A : List Arrival) (n : ℕ) → length (events_of image A n) ≤ n + length A
few-events image A n =
    let steps = steps_of (run n A (start image)) in
    let all = few (view_of_image image) A steps (start image).core.mie (coherent n A 0 (start image)) in
    let short = steps-few n A 0 (start image) in omega (arith, all, short)
