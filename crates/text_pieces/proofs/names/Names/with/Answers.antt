use Rattle.std.proofs.Common.{◌≡◌, ◌∙◌, ap, sym, subst, map, length, arith, List, ℕ}
use Rattle.std.proofs.lemmas.List.{length-map}
use Rattle.text_pieces.specs.Names.{referent, AreNumbered}
use Rattle.text_pieces.proofs.Numbering.{numbered_push, names_push}
use Rattle.text_pieces.proofs.names.Names.with.Goals as goal

pub invariant_of-result : goal.invariant_of-result
invariant_of-result c =
    let i = c.self.inside in
    let names = map referent i.list.items in
    let name = c.args.name in
    let l = length-map i.list.items referent in
    let counted : c.len.result ≡ length names = omega (arith, l, c.len.ensures, i.list.ok.0) in
    subst (λ (x : List (List ℕ)). AreNumbered c.number_first.new.first x)
    (sym (ap (map referent) c.in_ok-push.ensures ∙ names_push i.list.items name))
    (numbered_push i.first c.number_first.new.first names name.now c.len.result counted c.self.invariant c.in_ok-number_first.ensures)
