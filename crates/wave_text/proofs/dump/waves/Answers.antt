use Rattle.std.proofs.Common.{◌≡◌, ◌∙◌, ◌++◌, ℕ, List, Some, length, ap, subst, arith}
use Rattle.std.specs.Prelude.{false}
use Rattle.wave_text.specs.declared.dump.Dump.{Dump}
use Rattle.sloth_base.specs.declared.numbers.Owners.{Owners}
use Rattle.wave_text.specs.declared.dump.Moment.{Moment}
use Rattle.wave_text.specs.Changes.{changes, with_moment}
use Rattle.wave_text.specs.Text.{entry_lines}
use Rattle.wave_text.proofs.Waving.{IsDumping, dumping-none, dumping-more, waves-whole}
use Rattle.wave_text.proofs.dump.waves.Goals as goal

pub loop-count-init : goal.loop-count-init
loop-count-init c =
    let dump : Dump = record { text = c.in_ok-header.field-0; count = 0; stamped = false } in
    let fresh = c.in_ok-sampler.ensures in
    dumping-none c.args.image.now c.args.arrivals.now c.in_ok-sampler.sampler dump c.no_words-words.result fresh.sampling fresh.image fresh.arrivals fresh.fresh
    c.in_ok-header.ensures c.no_words-words.ensures

pub loop-count-preserved : goal.loop-count-preserved
loop-count-preserved c =
    let l = c.loop-count in
    let m : Moment = record { sample = c.in-Ok.sample; words = c.words_behind_look-words.result } in
    let O : List (List ℕ) → List (List ℕ) → Owners = λ t u. record { tasks = length t; counters = length u } in
    let W : Owners → List ℕ = λ o. l.dump.text.items ++ entry_lines (with_moment l.count false (changes o l.old (Some m))) in
    let text = c.in_ok-moment-in-Ok.ensures ∙ ap (λ t. W (O t c.items-2.result.now)) c.items.ensures ∙ ap (λ u. W (O c.args.image.now.tasks u)) c.items-2.ensures in
    dumping-more c.args.image.now c.args.arrivals.now l.count l.sampler c.service_words-now.new.self c.next.new.self l.dump c.moment.new.self l.old c.in-Ok.sample
    l.words c.service_words-now.result c.words_behind_look-words.result l.invariant c.service_words-now.ensures.same
    c.in-Ok.ensures.sampling c.in-Ok.ensures.sample c.next.ensures.image c.next.ensures.arrivals c.in-Ok.ensures.count c.service_words-now.ensures.words
    c.words_behind_look-words.ensures text

pub returns : goal.returns
returns c =
    let l = c.loop-count in
    let P : ℕ → Type 0 = λ k. IsDumping c.args.image.now c.args.arrivals.now k l.sampler l.dump l.old l.words in
    let same : l.count ≡ c.args.n = omega (arith, c.loop-count-test.false, l.auto.count-end) in
    waves-whole c.args.image.now c.args.arrivals.now c.args.n l.sampler l.dump c.end.new.self l.old l.words (subst P same l.invariant) c.in_ok-end.ensures
