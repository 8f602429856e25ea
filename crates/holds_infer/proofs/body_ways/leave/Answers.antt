use Rattle.std.proofs.Common.{List, ℕ, Option, sym, subst}
use Rattle.std.specs.Prelude.{IfSome}
use Rattle.holds_infer.specs.WayLists.{AreHeldBehind}
use Rattle.holds_infer.proofs.body_ways.leave.Goals as goal

pub arrive-requires-clause-held : goal.arrive-requires-clause-held
arrive-requires-clause-held c =
    let f = c.args.func.now in
    let i = c.args.item in
    subst (AreHeldBehind f i) (sym c.items.ensures)
    (subst (λ (found : Option (List ℕ)). IfSome found (AreHeldBehind f i)) c.in-Some.is c.in_ok-held.ensures)

pub arrive-requires-2-clause-held : goal.arrive-requires-2-clause-held
arrive-requires-2-clause-held c =
    let f = c.args.func.now in
    let i = c.args.item in
    subst (AreHeldBehind f i) (sym c.items-2.ensures)
    (subst (λ (found : Option (List ℕ)). IfSome found (AreHeldBehind f i)) c.in-Some.is c.in_ok-held.ensures)
