use Rattle.std.proofs.Common.{◌≡◌, ◌∙◌, ◌-◌, ◌++◌, ap, arith, ℕ, List, set, map, replicate}
use Rattle.std.specs.List.{range_with_len}
use Rattle.sloth_base.specs.Limits.{task_limit}
use Rattle.sloth_region.specs.Layout.{events}
use Rattle.rv32_instr.specs.Ram.{word_at}
use Rattle.rv32_instr.specs.Memory.{Memory}
use Rattle.sloth_inspect.proofs.Places.{one_more_of, all_places}
use Rattle.sloth_inspect.proofs.service_words.event_words.Goals as goal

pub loop-task-preserved : goal.loop-task-preserved
loop-task-preserved c =
    let place = c.loop-task.task in
    let memory = c.args.bus.now in
    let told = c.event_word.ensures.is ∙ ap (λ (m : Memory). word_at m.ram (events place)) c.loop-task.invariant.1 in (
      ap (λ (xs : List ℕ). set xs place c.event_word.result) c.loop-task.invariant.0
          ∙ ap (λ (x : ℕ). set (map (λ p. word_at memory.ram (events p)) (range_with_len 0 place) ++ replicate (task_limit - place) 0) place x) told
          ∙ one_more_of (λ p. word_at memory.ram (events p)) 0 task_limit place (omega arith),
      c.event_word.ensures.same ∙ c.loop-task.invariant.1,
    )

pub returns-clause-words : goal.returns-clause-words
returns-clause-words c =
    let l = c.loop-task in
    let past = c.loop-task-test.false in
    let few = l.auto.task-end in
    let all : l.task ≡ task_limit = omega (arith, past, few) in
    l.invariant.0 ∙ all_places (λ p. word_at c.args.bus.now.ram (events p)) 0 task_limit l.task all
