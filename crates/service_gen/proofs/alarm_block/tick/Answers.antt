use Rattle.std.proofs.Common.{◌≡◌, ◌∙◌, ℕ, ◌<◌, List, get_or, length, sym, ap, subst, arith}
use Rattle.std.proofs.lemmas.List.{get_or_default}
use Rattle.sloth_base.specs.Named.{counter_declaration, undeclared_counter}
use Rattle.sloth_base.specs.declared.config.AlarmDecl.{AlarmDecl}
use Rattle.sloth_base.specs.declared.config.Config.{Config}
use Rattle.sloth_base.specs.declared.config.CounterDecl.{CounterDecl}
use Rattle.service_gen.specs.declared.tick_code.NumberedAlarm.{NumberedAlarm}
use Rattle.service_gen.specs.Alarms.{AreAlarmsInRange, alarms_from, counter_alarms}
use Rattle.service_gen.specs.AlarmPieces.{tick_code}
use Rattle.service_gen.specs.Tick.{IsTickCode}
use Rattle.service_gen.proofs.Lengths.{tick_long}
use Rattle.service_gen.proofs.Numbering.{numbered}
use Rattle.service_gen.proofs.alarm_block.tick.Goals as goal

-- the alarms, as the calls told of them, and the counter's greatest value
alarms_are : (config : Config) (counter : ℕ) (lent found : List NumberedAlarm) (declared : List AlarmDecl) → lent ≡ found → found ≡ alarms_from counter 0 declared → declared ≡ config.alarms
    → lent ≡ counter_alarms config counter
alarms_are config counter lent found declared e f g = e ∙ f ∙ ap (alarms_from counter 0) g

max_is : (config : Config) (counter : ℕ) (d : CounterDecl) (declared : List CounterDecl) → counter < length config.counters → declared ≡ config.counters
    → (get_or declared counter d).max ≡ (counter_declaration config counter).max
max_is config counter d declared exists same =
    ap (λ (x : CounterDecl). x.max)
    (ap (λ (l : List CounterDecl). get_or l counter d) same ∙ get_or_default config.counters counter d undeclared_counter exists)

pub code-requires : goal.code-requires
code-requires c =
    let config = c.args.config.now in
    let counter = c.args.counter in
    let few = c.requires.range.few_counters in
    let below = c.requires.exists in
    let are = alarms_are config counter _ _ _ c.deref.ensures.value c.in_ok-alarms.ensures c.items.ensures in
    (omega (arith, few, below), subst AreAlarmsInRange (sym are) (numbered config c.requires.range counter))

pub returns-clause-size : goal.returns-clause-size
returns-clause-size c =
    let config = c.args.config.now in
    let counter = c.args.counter in
    let max = (get_or c.items-2.result.now counter c.index-items-counter.result).max in
    let are = alarms_are config counter _ _ _ c.deref.ensures.value c.in_ok-alarms.ensures c.items.ensures in
    ap length (c.from_vec.ensures ∙ c.in_ok-code.ensures.is) ∙ ap (λ (l : List NumberedAlarm). length (tick_code counter max l)) are
    ∙ tick_long counter max config.alarms

pub returns-clause-effect : goal.returns-clause-effect
returns-clause-effect c =
    let config = c.args.config.now in
    let counter = c.args.counter in
    let are = alarms_are config counter _ _ _ c.deref.ensures.value c.in_ok-alarms.ensures c.items.ensures in
    let max = max_is config counter c.index-items-counter.result _ c.requires.exists c.items-2.ensures in
    subst (IsTickCode counter (counter_declaration config counter).max (counter_alarms config counter)) (sym c.from_vec.ensures)
    (subst (λ (l : List NumberedAlarm). IsTickCode counter (counter_declaration config counter).max l c.in_ok-code.code.items) are
    (subst (λ m. IsTickCode counter m c.deref.result.now c.in_ok-code.code.items) max c.in_ok-code.ensures.effect))
