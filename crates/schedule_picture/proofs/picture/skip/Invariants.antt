use Rattle.run_samples.specs.Samples.{sampled_image, sampled_arrivals}
use Rattle.schedule_picture.specs.Samples.{HasGivenFirst}
use Rattle.schedule_picture.proofs.picture.skip.Given as goal

abbrev pub invariant-loop : goal.invariant-loop
invariant-loop l = HasGivenFirst (sampled_image l.fn.sampler) (sampled_arrivals l.fn.sampler) l.counter l.sampler
