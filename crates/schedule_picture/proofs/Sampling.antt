-- Samples that are given, and lanes that show them.
use Rattle.std.proofs.Common.{◌≡◌, ◌≤◌, ◌<◌, ◌+◌, ◌-◌, ◌∙◌, ◌++◌, ◌∷◌, [], ℕ, List, length, get_or, refl, sym, ap, subst, arith}
use Rattle.std.proofs.lemmas.List.{length-append, get_or_append_left}
use Rattle.std.proofs.Math.Seq.{get_or-append_seam}
use Rattle.std.specs.Prelude.{Option, None, All}
use Rattle.std.specs.List.{AllByRecursion}
use Rattle.std.proofs.lemmas.List.Elements.{All-from_recursion}
use Rattle.sloth_base.specs.declared.service.Arrival.{Arrival}
use Rattle.sloth_base.specs.declared.image.Image.{Image}
use Rattle.rv32_machine.specs.Start.{start}
use Rattle.rv32_machine.proofs.Runs.{stop_none}
use Rattle.sloth_runner.specs.Runner.{HasRun, run_end, end_of}
use Rattle.sloth_runner.specs.Moments.{sloth_state}
use Rattle.sloth_runner.specs.declared.task_states.Seen.{Seen}
use Rattle.sloth_runner.specs.declared.runner.Halt.{Halt}
use Rattle.sloth_runner.specs.declared.runner.RunEnd.TheVariants as ends
use Rattle.run_samples.specs.declared.admissions.Admission.{Admission}
use Rattle.run_samples.specs.declared.samples.Sample.{Sample}
use Rattle.run_samples.specs.declared.samples.Sampler.{Sampler}
use Rattle.run_samples.specs.Admissions.{Notes, no_notes, run_admissions, with_accesses, with_sample, settled}
use Rattle.run_samples.specs.Samples.{AreSampledLevels, IsSample, IsSampling, StopsAt, no_sample, seen_behind, sampled_image, sampled_arrivals, sampled_count}
use Rattle.sloth_inspect.specs.declared.service_words.ServiceWords.{ServiceWords}
use Rattle.run_samples.specs.Addresses.{address_behind}
use Rattle.run_samples.specs.ServiceWords.{words_behind}
use Rattle.run_samples.proofs.Noted.{found_at, notes_none, notes_more}
use Rattle.schedule_picture.specs.Marks.{Watch, no_watch, watched, run_marks}
use Rattle.schedule_picture.specs.declared.marks.Mark.{Mark}
use Rattle.schedule_picture.proofs.Watched.{watch_none, watch_more, addresses_counted}
use Rattle.run_samples.proofs.OneSample.{samples-more}
use Rattle.lane_drawing.specs.declared.drawing.Bar.{Bar}
use Rattle.lane_drawing.specs.declared.drawing.Look.{Look}
use Rattle.lane_drawing.specs.declared.scale.Scale.{Scale}
use Rattle.lane_drawing.specs.Bars.{AreBars, IsBarInside}
use Rattle.lane_drawing.specs.Strips.{Lane, IsStrip, IsFreshStrip, ShowsMore, empty_lane, last_bar}
use Rattle.lane_drawing.proofs.Growing.{same_strip}
use Rattle.schedule_picture.specs.Lanes.{HaveChanged}
use Rattle.schedule_picture.specs.LaneLooks.{owned_lanes, lane_look, look_of}
use Rattle.schedule_picture.specs.Picture.{IsPictureOf, picture_text, picture_scale}
use Rattle.schedule_picture.specs.Samples.{HasGiven, HasGivenFirst, HasBars, StopsBefore}
use Rattle.schedule_picture.proofs.Shown.{HasShown}

-- ---- samples

pub given_none : (s : Sampler) → IsSampling s → sampled_count s ≡ 0 → HasGivenFirst (sampled_image s) (sampled_arrivals s) 0 s
given_none s sampling count = record {
  samples = [];
  counted = refl;
  given = record { sampling = sampling; image_is = refl; arrivals_are = refl; count = count; are_samples = tt };
}

-- the bars of a strip that was closed
strip_bars_of : (looks : ℕ → Option Look) (from to : ℕ) (old new : Lane) → IsStrip looks from to old → new.bars ≡ old.bars ++ last_bar old to
    → AreBars looks from to new.bars
strip_bars_of looks from to old new is more = let B : List Bar → Type 0 = AreBars looks from to in subst B (sym more) is.are_bars

module _ (image : Image) (A : List Arrival) where
  -- one sample more
  given_more : (xs : List Sample) (s t : Sampler) (x : Sample) → HasGiven image A xs s → IsSampling t
      → IsSample (sampled_image s) (sampled_arrivals s) (sampled_count s) x → sampled_image t ≡ sampled_image s → sampled_arrivals t ≡ sampled_arrivals s
      → sampled_count t ≡ sampled_count s + 1 → HasGiven image A (xs ++ x ∷ []) t
  given_more xs s t x h sampling sample i a count =
      let S : Image → Type 0 = λ j. IsSample j (sampled_arrivals s) (sampled_count s) x in
      let T : List Arrival → Type 0 = λ B. IsSample image B (sampled_count s) x in
      let U : ℕ → Type 0 = λ n. IsSample image A n x in
      let place : length xs ≡ 0 + length xs = omega arith in
      let mine : IsSample image A (0 + length xs) x = subst U (h.count ∙ place) (subst T h.arrivals_are (subst S h.image_is sample)) in
      record {
        sampling = sampling;
        image_is = i ∙ h.image_is;
        arrivals_are = a ∙ h.arrivals_are;
        count = count ∙ ap (λ n. n + 1) h.count ∙ sym (length-append xs (x ∷ []));
        are_samples = samples-more image A 0 xs x h.are_samples mine;
      }

  pub first_more : (k : ℕ) (s t : Sampler) (x : Sample) → HasGivenFirst image A k s → IsSampling t
      → IsSample (sampled_image s) (sampled_arrivals s) (sampled_count s) x → sampled_image t ≡ sampled_image s → sampled_arrivals t ≡ sampled_arrivals s
      → sampled_count t ≡ sampled_count s + 1 → HasGivenFirst image A (k + 1) t
  first_more k s t x h sampling sample i a count = record {
    samples = h.samples ++ x ∷ [];
    counted = length-append h.samples (x ∷ []) ∙ ap (λ n. n + 1) h.counted;
    given = given_more h.samples s t x h.given sampling sample i a count;
  }

  -- a run that stops at the next count stops before each later one
  pub stops_before : (k to : ℕ) (xs : List Sample) (s : Sampler) (halt : Halt) → HasGiven image A xs s → length xs ≡ k → k < to
      → StopsAt (sampled_image s) (sampled_arrivals s) (sampled_count s) halt → StopsBefore image A to halt
  stops_before k to xs s halt h counted below stops n past =
      let c = h.count in
      let E : Image → Type 0 = λ j. run_end j (sampled_arrivals s) n ≡ ends.Stopped halt.pc halt.stop in
      let F : List Arrival → Type 0 = λ B. run_end image B n ≡ ends.Stopped halt.pc halt.stop in
      subst F h.arrivals_are (subst E h.image_is (stops n (omega (arith, c, counted, below, past))))

  -- ---- lanes

  pub shown_none : (from : ℕ) (s : Sampler) (strips : List Lane) (notes : Notes) (watch : Watch) → HasGivenFirst image A from s → length strips ≡ owned_lanes image + 1
      → ((lane : ℕ) → lane < owned_lanes image + 1 → IsFreshStrip from (get_or strips lane empty_lane)) → notes ≡ no_notes → watch ≡ no_watch A
      → HasShown image A from from s strips notes watch
  shown_none from s strips notes watch h lanes fresh none unseen = record {
    samples = h.samples;
    counted = h.counted;
    given = h.given;
    lanes = lanes;
    are_strips = λ lane few. fresh lane (omega (arith, few)) (look_of image h.samples lane);
    noted = none ∙ notes_none image A from h.samples;
    watched = unseen ∙ watch_none image A from h.samples;
  }

  -- the looks at earlier counts are the same with one sample more
  same_looks : (xs : List Sample) (x : Sample) (lane count : ℕ) → count < length xs
      → look_of image xs lane count ≡ look_of image (xs ++ x ∷ []) lane count
  same_looks xs x lane count below =
      ap (λ (y : Sample). lane_look (length image.tasks) (length image.counters) y lane) (sym (get_or_append_left xs (x ∷ []) no_sample count below))

  last_look : (xs : List Sample) (x : Sample) (lane k : ℕ) → length xs ≡ k → look_of image (xs ++ x ∷ []) lane k ≡ lane_look (length image.tasks) (length image.counters) x lane
  last_look xs x lane k counted =
      let L : ℕ → Type 0 = λ n. look_of image (xs ++ x ∷ []) lane n ≡ lane_look (length image.tasks) (length image.counters) x lane in
      subst L counted (ap (λ (y : Sample). lane_look (length image.tasks) (length image.counters) y lane) (get_or-append_seam xs x [] no_sample))

  -- one count more
  pub shown_more : (from k tasks counters : ℕ) (r s t : Sampler) (x : Sample) (old new : List Lane) (notes between behind : Notes)
      (words : ServiceWords) (address : ℕ) (seen more : Watch) → HasShown image A from k r old notes seen → from ≤ k → tasks ≡ length image.tasks → counters ≡ length image.counters → s ≡ r → IsSampling t
      → IsSample (sampled_image s) (sampled_arrivals s) (sampled_count s) x → sampled_image t ≡ sampled_image s → sampled_arrivals t ≡ sampled_arrivals s
      → sampled_count t ≡ sampled_count s + 1 → HaveChanged (λ lane. ShowsMore k (lane_look tasks counters x lane)) (tasks + counters + 1) old new
      → between ≡ with_accesses notes (found_at (sampled_image r) (sampled_arrivals r) (sampled_count r)) → behind ≡ with_sample between x
      → words ≡ words_behind (sampled_image s) (sampled_arrivals s) (sampled_count s) → address ≡ address_behind (sampled_image s) (sampled_arrivals s) (sampled_count s)
      → more ≡ watched seen x words.alarms address
      → HasShown image A from (k + 1) t new behind more
  shown_more from k tasks counters r s t x old new notes between behind words address seen more shown past same counted noted sampling sample i a count changed finds tells reads stood marks =
      let S : Sampler → Type 0 = λ y. HasShown image A from k y old notes seen in
      let h : HasShown image A from k s old notes seen = subst S (sym noted) shown in
      let H : ℕ → Type 0 = λ n. HaveChanged (λ lane. ShowsMore k (lane_look n counters x lane)) (n + counters + 1) old new in
      let G : ℕ → Type 0 =
      λ m. HaveChanged (λ lane. ShowsMore k (lane_look (length image.tasks) m x lane)) (length image.tasks + m + 1) old new in
      let all = subst G counted (subst H same changed) in
      let c = h.counted in
      record {
        samples = h.samples ++ x ∷ [];
        counted = length-append h.samples (x ∷ []) ∙ ap (λ n. n + 1) h.counted;
        given = given_more h.samples s t x h.given sampling sample i a count;
        lanes = all.lanes ∙ h.lanes;
        are_strips = λ lane few.
            all.changed lane (omega (arith, few)) (look_of image (h.samples ++ x ∷ []) lane) from past
            (same_strip (look_of image h.samples lane) (look_of image (h.samples ++ x ∷ []) lane) from k (get_or old lane empty_lane)
            (λ n low high. same_looks h.samples x lane n (omega (arith, high, c))) (h.are_strips lane few))
            (last_look h.samples x lane k h.counted);
        noted = notes_more image A from k s h.samples x notes between behind past h.given.image_is h.given.arrivals_are (h.given.count ∙ h.counted) h.counted h.noted
            (finds ∙ ap (λ (y : Sampler). with_accesses notes (found_at (sampled_image y) (sampled_arrivals y) (sampled_count y))) (sym noted)) tells;
        watched = watch_more image A from k s h.samples x words address seen more past h.given.image_is h.given.arrivals_are (h.given.count ∙ h.counted) h.counted
            h.watched reads stood marks;
      }

  -- the bars are those of all counts where what was shown last has its own
  pub shown_all : (from to : ℕ) (s : Sampler) (old new : List Lane) (notes behind : Notes) (seen : Watch) → from ≤ to → HasShown image A from to s old notes seen
      → HaveChanged (λ lane before after. after.bars ≡ before.bars ++ last_bar before to) (length old) old new
      → behind ≡ settled notes (seen_behind (sampled_image s) (sampled_arrivals s) (sampled_count s)) → HasBars image A from to s new behind.admissions seen.marks seen.addresses
  shown_all from to s old new notes behind seen ordered h changed told =
      let l = h.lanes in
      let S : Option Seen → Notes → List Admission = λ o n. (settled n o).admissions in
      let last : to ≡ from + (to - from) = omega (arith, ordered) in
      let tasks : seen_behind (sampled_image s) (sampled_arrivals s) (sampled_count s) ≡ seen_behind image A (from + (to - from)) =
      ap (λ i. seen_behind i (sampled_arrivals s) (sampled_count s)) h.given.image_is ∙ ap (λ B. seen_behind image B (sampled_count s)) h.given.arrivals_are
      ∙ ap (seen_behind image A) (h.given.count ∙ h.counted ∙ last) in
      record {
        samples = h.samples;
        counted = h.counted;
        given = h.given;
        lanes = changed.lanes ∙ h.lanes;
        are_bars = λ lane few.
            let is = h.are_strips lane few in
            let more = changed.changed lane (omega (arith, few, l)) in
            strip_bars_of (look_of image h.samples lane) from to (get_or old lane empty_lane) (get_or new lane empty_lane) is more;
        noted = ap (λ (n : Notes). n.admissions) told ∙ ap (λ o. S o notes) tasks ∙ ap (S (seen_behind image A (from + (to - from)))) h.noted;
        marked = ap (λ (w : Watch). w.marks) h.watched;
        addressed = ap (λ (w : Watch). w.addresses) h.watched;
      }

  -- ---- the picture

  -- the run gets to the last count
  whole_run : (to : ℕ) (xs : List Sample) (s : Sampler) → HasGiven image A xs s → length xs ≡ to → run_end image A to ≡ ends.Whole
  whole_run to xs s h counted =
      let R : Image → Type 0 = λ i. HasRun s.runner i (sampled_count s) in
      let ran : HasRun s.runner image (sampled_count s) = subst R h.image_is h.sampling.ran in
      let E : ℕ → List Arrival → Type 0 = λ k B. run_end image B k ≡ ends.Whole in
      let whole : E (sampled_count s) (sampled_arrivals s) = ap end_of (stop_none (sampled_count s) (sampled_arrivals s) 0 (start image) (sloth_state s.runner.machine) ran.after) in
      subst (λ k. E k A) (h.count ∙ counted) (subst (E (sampled_count s)) h.arrivals_are whole)

  pub picture_of : (from to : ℕ) (s : Sampler) (strips : List Lane) (admissions : List Admission) (marks : List Mark) (addresses levels : List ℕ) (scale : Scale) (text : List ℕ)
      → HasBars image A from to s strips admissions marks addresses → AreSampledLevels (sampled_image s) (sampled_arrivals s) (sampled_count s) levels → scale ≡ picture_scale image from to
      → text ≡ picture_text (record {
        image = image;
        admissions = admissions;
        marks = marks;
        addresses = addresses;
        levels = levels;
        scale = scale;
        bars = λ lane. (get_or strips lane empty_lane).bars;
      })
      → IsPictureOf image A from to text
  picture_of from to s strips admissions marks addresses levels scale text h are at is =
      let L : Image → Type 0 = λ i. AreSampledLevels i (sampled_arrivals s) (sampled_count s) levels in
      let M : List Arrival → Type 0 = λ B. AreSampledLevels image B (sampled_count s) levels in
      let N : ℕ → Type 0 = λ n. AreSampledLevels image A n levels in
      let D : List Admission → List Mark → List ℕ → Scale → List ℕ =
      λ a m p x.
      picture_text (record { image = image; admissions = a; marks = m; addresses = p; levels = levels; scale = x; bars = λ lane. (get_or strips lane empty_lane).bars }) in
      record {
        whole = whole_run to h.samples s h.given h.counted;
        samples = h.samples;
        counted = h.counted;
        are_samples = h.given.are_samples;
        levels = levels;
        are_levels = subst N (h.given.count ∙ h.counted) (subst M h.given.arrivals_are (subst L h.given.image_is are));
        bars = λ lane. (get_or strips lane empty_lane).bars;
        are_bars = h.are_bars;
        is = is ∙ ap (D admissions marks addresses) at ∙ ap (λ a. D a marks addresses (picture_scale image from to)) h.noted
            ∙ ap (λ m. D (run_admissions image A h.samples from (to - from)) m addresses (picture_scale image from to)) h.marked
            ∙ ap (λ p. D (run_admissions image A h.samples from (to - from)) (run_marks image A h.samples from (to - from)) p (picture_scale image from to)) h.addressed;
      }

  -- there is an address for each count of the picture
  pub addresses_there : (from to : ℕ) (s : Sampler) (strips : List Lane) (admissions : List Admission) (marks : List Mark) (addresses : List ℕ)
      → HasBars image A from to s strips admissions marks addresses → from ≤ to → to ≡ from + length addresses
  addresses_there from to s strips admissions marks addresses h ordered =
      let counted : length addresses ≡ to - from = ap (λ (l : List ℕ). length l) h.addressed ∙ addresses_counted image A from h.samples (to - from) in
      omega (arith, ordered, counted)

-- ---- bars within the counts

inside : (looks : ℕ → Option Look) (first from to : ℕ) (bars : List Bar) → first ≤ from → AreBars looks from to bars → AllByRecursion (IsBarInside first to) bars
inside looks first from to [] h are = tt
inside looks first from to (bar ∷ bars) h are =
    let behind = are.0.behind in
    let some = are.0.some in
    (record { behind = omega (arith, h, behind); some = some; within = are.0.within }, inside looks first bar.to to bars (omega (arith, h, behind, some)) are.1)

pub all_inside : (looks : ℕ → Option Look) (from to : ℕ) (bars : List Bar) → AreBars looks from to bars → All (IsBarInside from to) bars
all_inside looks from to bars are = All-from_recursion (IsBarInside from to) bars (inside looks from from to bars (omega arith) are)
