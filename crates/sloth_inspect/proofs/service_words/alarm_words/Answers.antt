use Rattle.std.proofs.Common.{◌≡◌, ◌∙◌, ◌-◌, ◌++◌, ap, arith, ℕ, List, set, map, replicate}
use Rattle.std.specs.List.{range_with_len}
use Rattle.sloth_base.specs.Limits.{alarm_limit}
use Rattle.sloth_region.specs.Layout.{alarm_left}
use Rattle.rv32_instr.specs.Ram.{word_at}
use Rattle.rv32_instr.specs.Memory.{Memory}
use Rattle.sloth_inspect.proofs.Places.{one_more_of, all_places}
use Rattle.sloth_inspect.proofs.service_words.alarm_words.Goals as goal

pub loop-alarm-preserved : goal.loop-alarm-preserved
loop-alarm-preserved c =
    let place = c.loop-alarm.alarm in
    let memory = c.args.bus.now in
    let told = c.alarm_word.ensures.is ∙ ap (λ (m : Memory). word_at m.ram (alarm_left place)) c.loop-alarm.invariant.1 in (
      ap (λ (xs : List ℕ). set xs place c.alarm_word.result) c.loop-alarm.invariant.0
          ∙ ap (λ (x : ℕ). set (map (λ p. word_at memory.ram (alarm_left p)) (range_with_len 0 place) ++ replicate (alarm_limit - place) 0) place x) told
          ∙ one_more_of (λ p. word_at memory.ram (alarm_left p)) 0 alarm_limit place (omega arith),
      c.alarm_word.ensures.same ∙ c.loop-alarm.invariant.1,
    )

pub returns-clause-words : goal.returns-clause-words
returns-clause-words c =
    let l = c.loop-alarm in
    let past = c.loop-alarm-test.false in
    let few = l.auto.alarm-end in
    let all : l.alarm ≡ alarm_limit = omega (arith, past, few) in
    l.invariant.0 ∙ all_places (λ p. word_at c.args.bus.now.ram (alarm_left p)) 0 alarm_limit l.alarm all
