use Rattle.std.proofs.Common.{◌+◌, ◌≡◌, ◌∙◌, ℕ, sym, subst, arith}
use Rattle.run_samples.specs.Samples.{sampled_image, sampled_arrivals, sampled_count}
use Rattle.run_samples.specs.Addresses.{address_behind}
use Rattle.run_samples.specs.ServiceWords.{words_behind}
use Rattle.run_samples.specs.declared.samples.Sampler.{Sampler}
use Rattle.schedule_picture.specs.Samples.{HasBars}
use Rattle.schedule_picture.proofs.Sampling.{shown_none, shown_more, shown_all}
use Rattle.schedule_picture.proofs.Shown.{HasShown}
use Rattle.schedule_picture.proofs.picture.record_counts.Goals as goal

pub loop-count-init : goal.loop-count-init
loop-count-init c =
    let tasks = c.requires.tasks in
    let counters = c.requires.counters in
    shown_none (sampled_image c.args.sampler.now) (sampled_arrivals c.args.sampler.now) c.args.from c.args.sampler.now c.args.recording.now.strips.items c.args.recording.now.noting c.args.recording.now.watching
    c.requires.given (let lanes = c.requires.lanes in omega (arith, lanes, tasks, counters)) (λ lane below. c.requires.fresh lane (omega (arith, below, tasks, counters)))
    c.requires.none c.requires.unseen

pub loop-count-preserved : goal.loop-count-preserved
loop-count-preserved c =
    let image = sampled_image c.args.sampler.now in
    let arrivals = sampled_arrivals c.args.sampler.now in
    let is = c.in-Ok.ensures in
    let past = c.loop-count.auto.count in
    let same : c.service_words-words.new.self ≡ c.loop-count.sampler = c.service_words-words.ensures.same ∙ c.note.ensures.same in
    let R : Sampler → Type 0 = λ s. c.service_words-words.result ≡ words_behind (sampled_image s) (sampled_arrivals s) (sampled_count s) in
    shown_more image arrivals c.args.from c.loop-count.count c.args.tasks c.args.counters c.loop-count.sampler c.service_words-words.new.self c.next.new.self c.in-Ok.sample
    c.loop-count.recording.strips.items c.show.new.strips.items c.loop-count.recording.noting c.note.new.self c.show-in-Ok.new.self
    c.service_words-words.result c.address-address.result c.loop-count.recording.watching c.watch.new.self c.loop-count.invariant past
    c.requires.tasks c.requires.counters same is.sampling is.sample is.image is.arrivals is.count c.in_ok-show-in-Ok.ensures.shows c.in_ok-note.ensures.noted
    c.in_ok-show-in-Ok-2.ensures (subst R (sym c.service_words-words.ensures.same) c.service_words-words.ensures.words) c.address-address.ensures
    c.in_ok-watch-in-Ok.ensures

pub returns-clause-bars : goal.returns-clause-bars
returns-clause-bars c =
    let image = sampled_image c.args.sampler.now in
    let arrivals = sampled_arrivals c.args.sampler.now in
    let l = c.loop-count in
    let past = c.loop-count-test.false in
    let few = l.auto.count-end in
    let ordered = c.requires.ordered in
    let all : l.count ≡ c.args.to = omega (arith, past, few, ordered) in
    let H : ℕ → Type 0 = λ k. HasShown image arrivals c.args.from k l.sampler l.recording.strips.items l.recording.noting l.recording.watching in
    let B : Sampler → Type 0 = λ s. HasBars image arrivals c.args.from c.args.to s c.close.new.strips.items c.end.new.self.admissions l.recording.watching.marks l.recording.watching.addresses in
    subst B (sym c.in_ok-end.ensures.same)
    (shown_all image arrivals c.args.from c.args.to l.sampler l.recording.strips.items c.close.new.strips.items l.recording.noting c.end.new.self l.recording.watching ordered (subst H all l.invariant)
    c.in_ok-close.ensures c.in_ok-end.ensures.ended)
