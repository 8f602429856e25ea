use Rattle.std.proofs.Common.{◌∙◌, ◌++◌, [], ◌∷◌, ⊎_elim, refl, ap, sym, subst, List}
use Rattle.std.specs.Prelude.{◌==◌, bit_and, bit_or, option_copied}
use Rattle.std.specs.List.{list_any}
use Rattle.std.proofs.lemmas.Bool.{or_cases, or_parts}
use Rattle.oil_parse.specs.declared.tree.OilAttr.{OilAttr}
use Rattle.oil_rules.specs.declared.references.Reference.{Reference}
use Rattle.oil_rules.specs.References.{ReferenceContext}
use Rattle.oil_rules.specs.KeptReferences.{is_to, AreKept}
use Rattle.oil_rules.proofs.KeptReferences.{same_true, kept_bits, kept_again, kept_more}
use Rattle.oil_rules.proofs.references.References.with.Goals as goal

pub invariant_of-result-then-is_told : goal.invariant_of-result-then-is_told
invariant_of-result-then-is_told c =
    let i = c.self.inside in
    let a = c.args.attr.now in
    let v = c.in-Some.word.now in
    let mask = c.mask_named-mask.result in
    let word = sym c.event_word.ensures ∙ ap option_copied c.in-Some.is in
    let attrs = ap (λ (r : ReferenceContext). r.attrs ++ a ∷ []) c.self.view_is ∙ sym c.requires in
    subst (λ (x : List OilAttr). AreKept i.events.now x i.kept.items i.once i.twice) attrs
    (⊎_elim
    (λ e. kept_bits i.events.now i.attrs.now a i.kept.items i.once i.twice c.self.invariant v mask word c.mask_named-mask.ensures (same_true (bit_and mask i.twice) mask e))
    (λ e. kept_again i.events.now i.attrs.now a i.kept.items i.once i.twice c.self.invariant v mask word c.mask_named-mask.ensures e)
    (or_cases (bit_and mask i.twice == mask) (list_any (is_to v) i.kept.items) (sym c.is_told.ensures ∙ c.if-is_told.true)))

pub invariant_of-result-2 : goal.invariant_of-result-2
invariant_of-result-2 c =
    let i = c.self.inside in
    let a = c.args.attr.now in
    let v = c.in-Some.word.now in
    let mask = c.mask_named-mask.result in
    let reference : Reference = record { word = c.in-Some.word; mask = mask } in
    let word = sym c.event_word.ensures ∙ ap option_copied c.in-Some.is in
    let attrs = ap (λ (r : ReferenceContext). r.attrs ++ a ∷ []) c.self.view_is ∙ sym c.requires in
    let new = (or_parts (bit_and mask i.twice == mask) (list_any (is_to v) i.kept.items) (sym c.is_told.ensures ∙ c.if-is_told.false)).1 in
    subst (λ (x : List Reference). AreKept i.events.now c.args.attrs.now x (bit_or i.once mask) (bit_or i.twice (bit_and i.once mask))) (sym c.in_ok-push.ensures)
    (subst (λ (x : List OilAttr). AreKept i.events.now x (i.kept.items ++ reference ∷ []) (bit_or i.once mask) (bit_or i.twice (bit_and i.once mask))) attrs
    (kept_more i.events.now i.attrs.now a i.kept.items i.once i.twice c.self.invariant v mask word c.mask_named-mask.ensures reference refl refl new))
