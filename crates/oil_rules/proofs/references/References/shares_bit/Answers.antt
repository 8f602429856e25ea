use Rattle.std.proofs.Common.{◌∙◌, ap, sym, ℕ}
use Rattle.std.specs.Prelude.{option_copied}
use Rattle.std.specs.List.{list_any}
use Rattle.oil_rules.specs.References.{ReferenceContext, refers_to_clash}
use Rattle.oil_rules.specs.KeptReferences.{is_clash}
use Rattle.oil_rules.proofs.KeptReferences.{shares, shares_none}
use Rattle.oil_rules.proofs.references.References.shares_bit.Goals as goal

pub returns-in-Some : goal.returns-in-Some
returns-in-Some c =
    let i = c.self.inside in
    let now = c.args.self.now in
    let word = c.in-Some.word.now in
    c.has_clash.ensures ∙ ap (λ (m : ℕ). list_any (is_clash word m) i.kept.items) c.mask_named.ensures ∙ c.self.invariant.same word
    ∙ ap (λ (r : ReferenceContext). list_any (refers_to_clash r.events word) r.attrs) c.self.view_is
    ∙ sym (shares now.events now.attrs word c.args.attr.now (sym c.event_word.ensures ∙ ap option_copied c.in-Some.is))

pub returns-in-None : goal.returns-in-None
returns-in-None c =
    sym (shares_none c.args.self.now.events c.args.self.now.attrs c.args.attr.now (sym c.event_word.ensures ∙ ap option_copied c.in-None.is))
