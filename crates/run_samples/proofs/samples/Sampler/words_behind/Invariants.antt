use Rattle.std.proofs.Common.{◌≡◌, ◌≤◌, ◌-◌}
use Rattle.run_samples.specs.Samples.{IsSampling, sampled_image, sampled_arrivals, sampled_count}
use Rattle.run_samples.proofs.samples.Sampler.words_behind.Given as goal

abbrev pub invariant-loop-self : goal.invariant-loop-self
invariant-loop-self l = record {
  sampling : IsSampling l.self;
  image : sampled_image l.self ≡ sampled_image l.fn.self;
  arrivals : sampled_arrivals l.self ≡ sampled_arrivals l.fn.self;
  few : sampled_count l.self ≤ l.fn.count;
}

abbrev pub decreases-loop-self : goal.decreases-loop-self
decreases-loop-self l = l.fn.count - sampled_count l.self
