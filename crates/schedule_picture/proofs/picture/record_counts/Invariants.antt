use Rattle.run_samples.specs.Samples.{sampled_image, sampled_arrivals}
use Rattle.schedule_picture.proofs.Shown.{HasShown}
use Rattle.schedule_picture.proofs.picture.record_counts.Given as goal

abbrev pub invariant-loop-count : goal.invariant-loop-count
invariant-loop-count l = HasShown (sampled_image l.fn.sampler) (sampled_arrivals l.fn.sampler) l.from l.count l.sampler l.recording.strips.items l.recording.noting l.recording.watching
