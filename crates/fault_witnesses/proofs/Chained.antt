-- Calls that were found.
use Rattle.std.proofs.Common.{◌≡◌, ℕ, ◌+◌, ◌<◌, true, List, length, get_or, ⊎_elim, ap, subst, arith}
use Rattle.std.specs.Prelude.{◌==◌, ◌&&◌}
use Rattle.std.specs.List.{list_any}
use Rattle.std.proofs.lemmas.Bool.{false≢true, eqb-true, and_parts, cases_lt}
use Rattle.sloth_base.specs.declared.app.App.{App}
use Rattle.sloth_base.specs.declared.app.Item.{Item}
use Rattle.sloth_base.specs.declared.app.Op.{Op}
use Rattle.sloth_base.specs.declared.app.Op.TheVariants as op
use Rattle.sloth_base.specs.Named.{function, no_item}
use Rattle.call_graph.specs.Rows.{is_call}
use Rattle.call_graph.proofs.Itself.{item_found}
use Rattle.fault_witnesses.specs.CallChains.{IsCallOn, caller_at, no_link}
use Rattle.fault_witnesses.specs.declared.chains.Link.{Link}

called_is : (g : ℕ) (o : Op) → is_call g o ≡ true → o ≡ op.Invoke g
called_is g (op.Invoke h) e = ap (λ x. op.Invoke x) (eqb-true h g e)
called_is g _ e = absurd (false≢true e)

pub call_found : (app : App) (caller : ℕ) (link : Link) → caller < length app.funcs
    → list_any (λ (item : Item). is_call link.func item.op && (item.line == link.line)) (function app caller).items ≡ true → IsCallOn app caller link
call_found app caller link known h =
    let r = item_found (λ (item : Item). is_call link.func item.op && (item.line == link.line)) (function app caller).items h in
    let item = get_or (function app caller).items r.0 no_item in
    let parts = and_parts (is_call link.func item.op) (item.line == link.line) r.2 in
    (r.0, record { known = known; inside = r.1; is = called_is link.func item.op parts.0 }, eqb-true item.line link.line parts.1)

-- one more call of a chain
pub chain_more : (app : App) (start n : ℕ) (links : List Link) (caller : ℕ) (link : Link) → n < length links → link ≡ get_or links n no_link → caller ≡ caller_at start links n
    → IsCallOn app caller link → ((k : ℕ) → k < n → IsCallOn app (caller_at start links k) (get_or links k no_link))
    → (k : ℕ) → k < n + 1 → IsCallOn app (caller_at start links k) (get_or links k no_link)
chain_more app start n links caller link inside is at call each k l = ⊎_elim
    (λ less. each k less)
    (λ ge.
    let same : n ≡ k = omega (arith, l, ge) in
    subst (λ x. IsCallOn app (caller_at start links x) (get_or links x no_link)) same
    (subst (λ (c : ℕ). IsCallOn app c (get_or links n no_link)) at (subst (IsCallOn app caller) is call)))
    (cases_lt k n)
