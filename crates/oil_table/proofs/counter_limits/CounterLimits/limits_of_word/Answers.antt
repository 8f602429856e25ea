use Rattle.std.proofs.Common.{◌∙◌, List, ap, sym, get_or, length, arith}
use Rattle.std.specs.Prelude.{codes, find, position}
use Rattle.std.specs.Str.{bytes_eq}
use Rattle.std.proofs.lemmas.List.{get_or_read}
use Rattle.oil_parse.specs.declared.tree.OilObject.{OilObject}
use Rattle.oil_table.specs.Objects.{is_declaration}
use Rattle.oil_table.specs.declared.counter_limits.Limits.{Limits}
use Rattle.oil_table.specs.AlarmCounters.{limits_given}
use Rattle.oil_table.proofs.Indexes.{limits_within, limits_some, limits_none}
use Rattle.oil_table.proofs.counter_limits.CounterLimits.limits_of_word.Goals as goal

pub index-requires : goal.index-requires
index-requires c =
    let i = c.self.inside in
    let word = c.args.word.now in
    let e = sym (ap (position (bytes_eq word)) c.self.invariant.named) ∙ sym c.number.ensures ∙ c.in-Some.is in
    let h = limits_within word i.objects.now c.in-Some.number e in
    let l = ap length c.self.invariant.limited in
    omega (arith, h, l, i.limits.ok.0)

pub returns-in-Some : goal.returns-in-Some
returns-in-Some c =
    let i = c.self.inside in
    let word = c.args.word.now in
    let e = sym (ap (position (bytes_eq word)) c.self.invariant.named) ∙ sym c.number.ensures ∙ c.in-Some.is in
    let h = limits_within word i.objects.now c.in-Some.number e in
    let l = ap length c.self.invariant.limited in
    let d : Limits = record { least = 0; greatest = 0 } in
    get_or_read i.limits.items c.in-Some.number _ (omega (arith, h, l)) c.index.ensures d
    ∙ ap (λ (limits : List Limits). get_or limits c.in-Some.number d) c.self.invariant.limited
    ∙ limits_some word i.objects.now c.in-Some.number d e
    ∙ ap (λ (objects : List OilObject). limits_given (find (is_declaration (codes "COUNTER") word) objects)) c.self.view_is

pub returns-in-None : goal.returns-in-None
returns-in-None c =
    let i = c.self.inside in
    let word = c.args.word.now in
    limits_none word i.objects.now (sym (ap (position (bytes_eq word)) c.self.invariant.named) ∙ sym c.number.ensures ∙ c.in-None.is)
    ∙ ap (λ (objects : List OilObject). limits_given (find (is_declaration (codes "COUNTER") word) objects)) c.self.view_is
