use Rattle.std.proofs.Common.{◌≡◌, ◌∙◌, sym, List, get_or, subst}
use Rattle.sloth_base.specs.declared.config.EventDecl.{EventDecl}
use Rattle.oil_table.specs.Events.{mask_named}
use Rattle.oil_table.proofs.Names.{within, mask_some, mask_none}
use Rattle.oil_table.proofs.uses.EventTable.mask_named.Goals as goal

pub returns-in-Some : goal.returns-in-Some
returns-in-Some c =
    let i = c.self.inside in
    let e = sym c.number.ensures ∙ c.in-Some.is in
    subst (λ (x : List EventDecl). (get_or i.events.now c.in-Some.number c.index-self-number.result).mask ≡ mask_named x c.args.name.now) c.self.view_is
    (mask_some c.args.name.now i.events.now i.numbers.now c.in-Some.number c.index-self-number.result c.self.invariant e (within c.args.name.now i.events.now i.numbers.now c.in-Some.number c.self.invariant e))

pub returns-in-None : goal.returns-in-None
returns-in-None c =
    subst (λ (x : List EventDecl). 0 ≡ mask_named x c.args.name.now) c.self.view_is
    (mask_none c.args.name.now c.self.inside.events.now c.self.inside.numbers.now c.self.invariant (sym c.number.ensures ∙ c.in-None.is))
