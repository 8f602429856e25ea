use Rattle.std.proofs.Common.{◌≡◌, ◌∙◌, ℕ, List, [], ◌∷◌, ◌++◌, codes, ap}
use Rattle.std.proofs.lemmas.Result.{on_ok_weaker}
use Rattle.sloth_base.specs.declared.config.AlarmDecl.{AlarmDecl}
use Rattle.sloth_base.specs.declared.config.CounterDecl.{CounterDecl}
use Rattle.sloth_base.specs.declared.config.TaskDecl.{TaskDecl}
use Rattle.sloth_region.specs.Layout.{below_word, context_bytes, cur, idle_context}
use Rattle.symbol_image.specs.Symbols.{alarm_words, context_symbol, counter_words, kernel_object, resume_words, saved_words, scheduler_words, state_words, word_symbol, word_symbols}
use Rattle.symbol_image.specs.declared.symbol.Symbol.{Symbol}
use Rattle.symbol_image.proofs.Put.{two_put}
use Rattle.symbol_image.proofs.symbol.push_words.Goals as goal

pub returns : goal.returns
unfolding word_symbols
returns c =
    let config = c.args.config.now in
    let old = c.args.all.now.items in
    let a = c.push_word.new.all.items in
    let b = c.push_states.new.all.items in
    let d = c.push_counters.new.all.items in
    let e = c.push_alarms.new.all.items in
    let f = c.push_word-2.new.all.items in
    let g = c.push_resumes.new.all.items in
    let i = c.push_levels.new.all.items in
    let j = c.push_scheduler.new.all.items in
    let new = c.push.new.list.items in
    let states = state_words 0 config.tasks in
    let counters = counter_words 0 config.counters in
    let alarms = alarm_words 0 config.alarms in
    let resumes = resume_words 0 config.tasks in
    let levels = saved_words 0 config.resources in
    let scheduler = scheduler_words config.res_scheduler in
    let first : List Symbol = word_symbol (codes "kernel$cur") cur ∷ [] in
    let below : List Symbol = word_symbol (codes "kernel$below") below_word ∷ [] in
    let last : List Symbol = context_symbol ∷ [] in
    let put_states : b ≡ a ++ states = c.in_ok-push_states.ensures ∙ ap (λ (l : List TaskDecl). a ++ state_words 0 l) c.items.ensures in
    let put_counters : d ≡ b ++ counters = c.in_ok-push_counters.ensures ∙ ap (λ (l : List CounterDecl). b ++ counter_words 0 l) c.items-2.ensures in
    let put_alarms : e ≡ d ++ alarms = c.in_ok-push_alarms.ensures ∙ ap (λ (l : List AlarmDecl). d ++ alarm_words 0 l) c.items-3.ensures in
    let put_resumes : g ≡ f ++ resumes = c.in_ok-push_resumes.ensures ∙ ap (λ (l : List TaskDecl). f ++ resume_words 0 l) c.items-4.ensures in
    let put_levels : i ≡ g ++ levels = c.in_ok-push_levels.ensures ∙ ap (λ (l : List (List ℕ)). g ++ saved_words 0 l) c.items-5.ensures in
    let clock : e ≡ old ++ (first ++ (states ++ (counters ++ alarms))) =
    two_put old a e first (states ++ (counters ++ alarms)) c.in_ok-push_word.ensures
    (two_put a b e states (counters ++ alarms) put_states (two_put b d e counters alarms put_counters put_alarms)) in
    let named = c.named.ensures ∙ ap (λ n. kernel_object n idle_context context_bytes) c.in_ok-name.ensures in
    on_ok_weaker c.push.result
    (λ h. two_put old e new (first ++ (states ++ (counters ++ alarms))) (below ++ (resumes ++ (levels ++ (scheduler ++ last)))) clock
    (two_put e f new below (resumes ++ (levels ++ (scheduler ++ last))) c.in_ok-push_word-2.ensures
    (two_put f g new resumes (levels ++ (scheduler ++ last)) put_resumes
    (two_put g i new levels (scheduler ++ last) put_levels
    (two_put i j new scheduler last c.in_ok-push_scheduler.ensures (h ∙ ap (λ s. j ++ s ∷ []) named))))))
    c.push.ensures
