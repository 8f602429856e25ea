-- What an observer is after one step more.
use Rattle.std.proofs.Common.{◌≡◌, ◌≤◌, ◌+◌, ℕ, Bool, true, false, List, [], ◌∷◌, ◌++◌, Option, Some, None, map, filter, refl, sym, ap, arith, append_assoc, append-nil, subst}
use Rattle.std.specs.Prelude.{not, replicate, IfSome}
use Rattle.std.specs.Bool.{if◌then◌else◌}
use Rattle.std.specs.List.{flat_map}
use Rattle.sloth_base.specs.declared.service.Arrival.{Arrival}
use Rattle.sloth_base.specs.declared.image.Mark.{Mark}
use Rattle.sloth_base.specs.declared.image.MarkKind.{MarkKind}
use Rattle.sloth_base.specs.declared.image.MarkKind.TheVariants as kind
use Rattle.sloth_base.specs.declared.numbers.Step.{Step}
use Rattle.sloth_base.specs.Arrivals.{AreRisingMoments, moments}
use Rattle.observe.specs.Pieces.{Outside, Stretch, begins}
use Rattle.observe.specs.Observe.{View, piece_events, found_admits, placed_events, first_masked_moment, admission, last_of, outside_events, events_of_kind, mark_at, stamp, stretch_event}
use Rattle.observe.specs.Touches.{was_touched, noted_touches, HasPlace, IsTouchTable}
use Rattle.observe.specs.Progress.{Progress, left_over_events, advanced_progress_from, passed_progress, begun_progress, joined_progress, noted_progress, outside_progress, only_element, arrivals_due, arrivals_behind, arrivals_within, one_or_none, IsOpen, IsStretch, arrivals_from, progress_behind_stretch}
use Rattle.observe.proofs.Growing.{kept, Brings}
use Rattle.observe.proofs.Moments.{here-from, behind-from, within-from, moments-none}
use Rattle.observe.proofs.Touching.{noted-keeps, tells-none, filter-early, filter-late}

-- what the observer is after the step, where these are the steps of the stretch that is open before it
pub record Turned (view : View) (arrivals : List Arrival) (p : Progress) (opened : List Step) (step : Step) : Type 0 where
  pub brings : Brings view arrivals opened step (left_over_events view p)
  pub expected : p.expected ≡ step.count + 1
  pub coming : p.coming ≡ arrivals_from (step.count + 1) arrivals
  pub stretch : IsOpen arrivals p p.first (kept opened step)

-- what a turn rests on
pub record Ready (arrivals : List Arrival) (p : Progress) (step : Step) : Type 0 where
  pub ordered : AreRisingMoments 0 arrivals
  pub joins : IfSome p.first (λ first. HasPlace step)
  pub opens : begins step ≡ true → HasPlace step
  pub coming : p.coming ≡ arrivals_from step.count arrivals
  pub count : step.count ≡ p.expected

last-more : (first : Step) (more : List Step) (step : Step) → last_of first (more ++ step ∷ []) ≡ step
last-more first [] step = refl
last-more first (next ∷ more) step = last-more next more step

-- what the end of a stretch brings
ending-is : (view : View) (arrivals : List Arrival) (first step : Step) (steps : List Step) (inside coming : List Arrival) (table : List ℕ) (count : ℕ)
    → inside ≡ arrivals_from (first_masked_moment first) arrivals → coming ≡ arrivals_from (step.count + 1) arrivals → first_masked_moment first ≤ step.count + 1 → AreRisingMoments 0 arrivals → IsTouchTable table count steps
    → map (admission view) (filter (was_touched table) (arrivals_within inside coming))
    ++ (stamp first.count step.count (stretch_event view first step) ∷ map (admission view) (filter (λ arrival. not (was_touched table arrival)) (arrivals_within inside coming)))
    ≡ placed_events view steps (moments (first_masked_moment first) (step.count + 1) arrivals) first step
ending-is view arrivals first step steps inside coming table count i c le ordered t =
    let between : arrivals_within inside coming ≡ moments (first_masked_moment first) (step.count + 1) arrivals = rw (i, c) (within-from 0 (first_masked_moment first) (step.count + 1) arrivals ordered le) in
    rw (
      between,
      filter-early table count steps (moments (first_masked_moment first) (step.count + 1) arrivals) t,
      filter-late table count steps (moments (first_masked_moment first) (step.count + 1) arrivals) t,
    )
    refl

one-event : (view : View) (step : Step) (mark : Option Mark) → one_or_none (only_element (map (stamp step.count step.count) (outside_events mark view step))) ≡ map (stamp step.count step.count) (outside_events mark view step)
one-event view step None = refl
one-event view step (Some mark) = kinds mark.kind
  where
    kinds : (k : MarkKind) → one_or_none (only_element (map (stamp step.count step.count) (events_of_kind k view mark step))) ≡ map (stamp step.count step.count) (events_of_kind k view mark step)
    kinds kind.Item = refl
    kinds kind.Jump = refl
    kinds kind.Opening = refl
    kinds kind.Idle = refl
    kinds kind.Back = refl

coming-is : (arrivals : List Arrival) (p : Progress) (step : Step) → Ready arrivals p step → arrivals_behind step.count p.coming ≡ arrivals_from (step.count + 1) arrivals
coming-is arrivals p step r = rw r.coming (behind-from 0 step.count arrivals r.ordered)

here-is : (arrivals : List Arrival) (p : Progress) (step : Step) → Ready arrivals p step → arrivals_due step.count p.coming ≡ moments step.count (step.count + 1) arrivals
here-is arrivals p step r = rw r.coming (here-from 0 step.count arrivals r.ordered)

expected-is : (arrivals : List Arrival) (p : Progress) (step : Step) → Ready arrivals p step → p.expected + 1 ≡ step.count + 1
expected-is arrivals p step r = ap (λ n. n + 1) (sym r.count)

turned-outside : (view : View) (arrivals : List Arrival) (p : Progress) (step : Step) → Ready arrivals p step → p.first ≡ None → begins step ≡ false → Turned view arrivals (outside_progress view p step) [] step
turned-outside view arrivals p step r none off = record {
  brings = rw (off, here-is arrivals p step r, one-event view step (mark_at view step.pc)) (simp (append-nil, append_assoc));
  expected = expected-is arrivals p step r;
  coming = coming-is arrivals p step r;
  stretch = rw (off, none) tt;
}

-- the step follows others of its stretch
turned-next : (view : View) (arrivals : List Arrival) (p : Progress) (first : Step) (more : List Step) (step : Step) → Ready arrivals p step → IsStretch arrivals p first (first ∷ more) → HasPlace step → (b : Bool) → step.enabled_after ≡ b
    → Turned view arrivals (joined_progress view (passed_progress p step) first step) (first ∷ more) step
turned-next view arrivals p first more step r h place true on = record {
  brings =
      let masked : first_masked_moment first ≤ step.count + 1 = (let b : first_masked_moment first ≤ p.expected = h.begun in let e : step.count ≡ p.expected = r.count in omega arith) in
      let m : Progress = noted_progress (passed_progress p step) step in
      let P : Bool → Type 0 = λ b.
      flat_map (piece_events view arrivals) (if b then Stretch (first ∷ (more ++ step ∷ [])) ∷ [] else []) ++ found_admits view arrivals (if b then [] else first ∷ (more ++ step ∷ []))
      ≡ found_admits view arrivals (first ∷ more) ++ left_over_events view (if b then progress_behind_stretch view m first step else record m { first = Some first }) in
      let body : P true =
      rw (
        last-more first more step,
        ending-is view arrivals first step (first ∷ (more ++ step ∷ [])) p.inside (arrivals_behind step.count p.coming) (noted_touches step.touched step.count p.touched) (p.expected + 1) h.inside (coming-is arrivals p step r) masked r.ordered
            (noted-keeps p.touched p.expected (first ∷ more) step place h.tells r.count),
      )
      (simp append-nil) in
      subst P (sym on) body;
  expected = rw on (expected-is arrivals p step r);
  coming = rw on (coming-is arrivals p step r);
  stretch = rw on tt;
}
turned-next view arrivals p first more step r h place false off = record {
  brings = rw off (simp append-nil);
  expected = rw off (expected-is arrivals p step r);
  coming = rw off (coming-is arrivals p step r);
  stretch =
      let m : Progress = noted_progress (passed_progress p step) step in
      let now : Bool → Progress = λ b. if b then progress_behind_stretch view m first step else record m { first = Some first } in
      let P : Bool → Type 0 = λ b. IsOpen arrivals (now b) (now b).first (if b then [] else first ∷ (more ++ step ∷ [])) in
      subst P (sym off) (
        refl,
        record {
          inside = h.inside;
          begun = (let b : first_masked_moment first ≤ p.expected = h.begun in omega arith);
          tells = noted-keeps p.touched p.expected (first ∷ more) step place h.tells r.count;
        },
      );
}

-- where a stretch that begins with the step finds itself
first-inside : (arrivals : List Arrival) (p : Progress) (step : Step) → Ready arrivals p step → (b : Bool) → step.enabled_before ≡ b
    → (if step.enabled_before then arrivals_behind step.count p.coming else p.coming) ≡ arrivals_from (first_masked_moment step) arrivals
first-inside arrivals p step r true on = rw on (coming-is arrivals p step r)
first-inside arrivals p step r false off = rw off r.coming

first-found : (view : View) (arrivals : List Arrival) (p : Progress) (step : Step) → Ready arrivals p step → (b : Bool) → step.enabled_before ≡ b
    → map (admission view) (if step.enabled_before then arrivals_due step.count p.coming else []) ≡ map (admission view) (moments step.count (first_masked_moment step) arrivals)
first-found view arrivals p step r true on = rw on (ap (map (admission view)) (here-is arrivals p step r))
first-found view arrivals p step r false off = rw off (ap (map (admission view)) (sym (moments-none step.count arrivals)))

first-masked : (step : Step) → first_masked_moment step ≤ step.count + 1
first-masked step = elim step.enabled_before as (λ b. (if b then step.count + 1 else step.count) ≤ step.count + 1) [ true ↦ omega arith | false ↦ omega arith ]

-- the step begins a stretch
turned-first : (view : View) (arrivals : List Arrival) (p : Progress) (step : Step) → Ready arrivals p step → begins step ≡ true → (b : Bool) → step.enabled_after ≡ b
    → Turned view arrivals (joined_progress view (begun_progress p step) step step) [] step
turned-first view arrivals p step r opens true on = record {
  brings =
      let m : Progress = noted_progress (begun_progress p step) step in
      let P : Bool → Type 0 = λ b.
      flat_map (piece_events view arrivals) (if not (begins step) then Outside step ∷ [] else if b then Stretch (step ∷ []) ∷ [] else [])
      ++ found_admits view arrivals (if not (begins step) then [] else if b then [] else step ∷ [])
      ≡ left_over_events view (if b then progress_behind_stretch view m step step else record m { first = Some step }) in
      let body : P true =
      rw (
        opens,
        first-found view arrivals p step r step.enabled_before refl,
        ending-is view arrivals step step (step ∷ []) (if step.enabled_before then arrivals_behind step.count p.coming else p.coming) (arrivals_behind step.count p.coming) (noted_touches step.touched step.count (replicate 256 0)) (step.count + 1)
            (first-inside arrivals p step r step.enabled_before refl) (coming-is arrivals p step r) (first-masked step) r.ordered
            (noted-keeps (replicate 256 0) step.count [] step (r.opens opens) (tells-none step.count) refl),
      )
      (simp append-nil) in
      subst P (sym on) body;
  expected = rw on (expected-is arrivals p step r);
  coming = rw on (coming-is arrivals p step r);
  stretch = rw (opens, on) tt;
}
turned-first view arrivals p step r opens false off = record {
  brings = rw (opens, off, first-found view arrivals p step r step.enabled_before refl) (simp append-nil);
  expected = rw off (expected-is arrivals p step r);
  coming = rw off (coming-is arrivals p step r);
  stretch =
      let m : Progress = noted_progress (begun_progress p step) step in
      let now : Bool → Progress = λ b. if b then progress_behind_stretch view m step step else record m { first = Some step } in
      let P : Bool → Type 0 = λ b. IsOpen arrivals (now b) (now b).first (if not (begins step) then [] else if b then [] else step ∷ []) in
      let Q : ℕ → Type 0 = λ n. IsTouchTable (noted_touches step.touched step.count (replicate 256 0)) n (step ∷ []) in
      let K : Bool → Type 0 = λ b. IsOpen arrivals (now false) (Some step) (if not b then [] else step ∷ []) in
      let opened : IsOpen arrivals (now false) (Some step) (step ∷ []) = (
        refl,
        record {
          inside = first-inside arrivals p step r step.enabled_before refl;
          begun = (let e : step.count ≡ p.expected = r.count in let b : first_masked_moment step ≤ step.count + 1 = first-masked step in omega arith);
          tells = subst Q (ap (λ n. n + 1) r.count) (noted-keeps (replicate 256 0) step.count [] step (r.opens opens) (tells-none step.count) refl);
        },
      ) in
      subst P (sym off) (subst K (sym opens) opened);
}

-- one step more
pub turned : (view : View) (arrivals : List Arrival) (p : Progress) (step : Step) (first : Option Step) (opened : List Step) → Ready arrivals p step → p.first ≡ first → IsOpen arrivals p first opened
    → Turned view arrivals (advanced_progress_from first view p step) opened step
turned view arrivals p step None [] r is h = by_begin (begins step) refl
  where
    by_begin : (b : Bool) → begins step ≡ b → Turned view arrivals (advanced_progress_from None view p step) [] step
    by_begin true on = rw on (turned-first view arrivals p step r on step.enabled_after refl)
    by_begin false off = rw off (turned-outside view arrivals p step r is off)
turned view arrivals p step None (next ∷ more) r is h = absurd h
turned view arrivals p step (Some first) [] r is h = absurd h
turned view arrivals p step (Some first) (next ∷ more) r is h =
    let P : Step → Type 0 = λ x. IsStretch arrivals p x (next ∷ more) in
    let H : Option Step → Type 0 = λ o. IfSome o (λ first. HasPlace step) in
    rw h.0 (turned-next view arrivals p next more step r (subst P h.0 h.1) (subst H is r.joins) step.enabled_after refl)
