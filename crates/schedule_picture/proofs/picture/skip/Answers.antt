use Rattle.run_samples.specs.Samples.{sampled_image, sampled_arrivals}
use Rattle.schedule_picture.proofs.Sampling.{first_more}
use Rattle.schedule_picture.proofs.picture.skip.Goals as goal

pub loop-preserved : goal.loop-preserved
loop-preserved c =
    let is = c.in-Ok.ensures in
    first_more (sampled_image c.args.sampler.now) (sampled_arrivals c.args.sampler.now) c.loop.counter c.loop.sampler c.next.new.self c.in-Ok.field-0
    c.loop.invariant is.sampling is.sample is.image is.arrivals is.count
