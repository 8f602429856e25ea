use Rattle.std.proofs.Common.{◌≡◌, ◌+◌, ◌∙◌, ℕ, All, List, length, get_or, sym, subst}
use Rattle.run_samples.specs.declared.admissions.Admission.{Admission}
use Rattle.lane_drawing.specs.declared.scale.Scale.{Scale}
use Rattle.schedule_picture.specs.declared.marks.Mark.{Mark}
use Rattle.lane_drawing.specs.Bars.{IsBarInside}
use Rattle.lane_drawing.specs.Strips.{Lane, empty_lane}
use Rattle.schedule_picture.specs.LaneLooks.{look_of}
use Rattle.schedule_picture.specs.Samples.{HasBars}
use Rattle.schedule_picture.proofs.Sampling.{picture_of, addresses_there, all_inside}
use Rattle.schedule_picture.proofs.picture.recorded_text.Goals as goal

pub drawn_text-requires : goal.drawn_text-requires
drawn_text-requires c =
    let image = c.args.image.now in
    let strips = c.as_slice.result.now in
    let recorded = c.args.recording.now in
    let K : List Lane → Type 0 = λ l. HasBars image c.args.arrivals.now c.args.from c.args.to c.args.sampler.now l recorded.noting.admissions recorded.watching.marks recorded.watching.addresses in
    let bars = subst K (sym c.as_slice.ensures.value) c.requires.bars in
    record {
      format = c.requires.format;
      scale = c.picture_scale.ensures.scale;
      addresses =
          let P : Scale → Type 0 = λ x. x.to ≡ x.from + length c.addresses.result.now in
          let Q : List ℕ → Type 0 = λ l. c.args.to ≡ c.args.from + length l in
          subst P (sym c.picture_scale.ensures.is) (subst Q (sym c.addresses.ensures)
          (addresses_there image c.args.arrivals.now c.args.from c.args.to c.args.sampler.now strips _ _ _ bars c.requires.ordered));
      lanes = bars.lanes;
      inside = λ lane few.
          let I : Scale → Type 0 = λ x. All (IsBarInside x.from x.to) (get_or strips lane empty_lane).bars in
          subst I (sym c.picture_scale.ensures.is)
          (all_inside (look_of image bars.samples lane) c.args.from c.args.to (get_or strips lane empty_lane).bars (bars.are_bars lane few));
    }

pub returns : goal.returns
returns c =
    let image = c.args.image.now in
    let arrivals = c.args.arrivals.now in
    let sampler = c.args.sampler.now in
    let strips = c.as_slice.result.now in
    let recorded = c.args.recording.now in
    let H : List Lane → Type 0 =
    λ l. HasBars image arrivals c.args.from c.args.to sampler l recorded.noting.admissions recorded.watching.marks recorded.watching.addresses in
    let I : List Admission → Type 0 = λ a. HasBars image arrivals c.args.from c.args.to sampler strips a recorded.watching.marks recorded.watching.addresses in
    let J : List Mark → Type 0 = λ m. HasBars image arrivals c.args.from c.args.to sampler strips c.admissions.result.now m recorded.watching.addresses in
    let K : List ℕ → Type 0 = λ p. HasBars image arrivals c.args.from c.args.to sampler strips c.admissions.result.now c.marks.result.now p in
    let bars = subst K (sym c.addresses.ensures) (subst J (sym c.marks.ensures) (subst I (sym c.admissions.ensures)
    (subst H (sym c.as_slice.ensures.value) c.requires.bars))) in
    picture_of image arrivals c.args.from c.args.to sampler strips c.admissions.result.now c.marks.result.now c.addresses.result.now c.levels.result
    c.picture_scale.result _ bars c.levels.ensures.levels c.picture_scale.ensures.is c.in_ok-text.ensures
