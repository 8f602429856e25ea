use Rattle.std.proofs.Common.{◌≡◌, ◌∙◌, ◌<◌, sym, ap, arith}
use Rattle.sloth_runner.specs.Runner.{run_end}
use Rattle.run_samples.specs.Samples.{sampled_image, sampled_arrivals, sampled_count}
use Rattle.run_samples.specs.ServiceWords.{words_behind}
use Rattle.run_samples.proofs.samples.Sampler.words_behind.Goals as goal

-- the run stops at the next count, which comes before
pub returns-in-Err : goal.returns-in-Err
returns-in-Err c n below =
    let h = c.loop-self.invariant in
    let here : sampled_count c.loop-self.self < n = omega (arith, below) in
    ap (λ i. run_end i (sampled_arrivals c.args.self.now) n) (sym h.image)
    ∙ ap (λ a. run_end (sampled_image c.loop-self.self) a n) (sym h.arrivals)
    ∙ c.in-Err.ensures.stops n here

pub returns : goal.returns
returns c =
    let h = c.loop-self.invariant in
    let at : sampled_count c.loop-self.self ≡ c.args.count = omega arith in
    c.service_words.ensures.words ∙ ap (λ i. words_behind i (sampled_arrivals c.loop-self.self) (sampled_count c.loop-self.self)) h.image
    ∙ ap (λ a. words_behind (sampled_image c.args.self.now) a (sampled_count c.loop-self.self)) h.arrivals
    ∙ ap (words_behind (sampled_image c.args.self.now) (sampled_arrivals c.args.self.now)) at
