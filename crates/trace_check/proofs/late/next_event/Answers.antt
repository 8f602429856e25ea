use Rattle.std.proofs.Common.{◌≡◌, ◌∙◌, List, ℕ, Some, true, false, sym, subst}
use Rattle.std.specs.Prelude.{◌↔◌}
use Rattle.sloth_base.specs.declared.service.Stamped.{Stamped}
use Rattle.trace_text.specs.EventLines.{IsLineOf}
use Rattle.trace_check.proofs.TraceText.{begins_no_end, reads_some, reads_none}
use Rattle.trace_check.proofs.late.next_event.Goals as goal

pub returns-then-not-has-clause-none : goal.returns-then-not-has-clause-none
returns-then-not-has-clause-none c =
    let names = c.args.names.now in
    begins_no_end names.tasks names.funcs names.counters c.requires.tasks c.requires.funcs c.requires.counters c.requires.apart c.args.text.now (sym c.has.ensures ∙ c.if-not-has.true)

pub returns-clause-some : goal.returns-clause-some
returns-clause-some c =
    let names = c.args.names.now in
    let line = c.before-2.result.now in
    let P : List (List ℕ) → List (List ℕ) → List (List ℕ) → Type 0 = λ ts fs cs. (e : Stamped) → (c.read_line.result ≡ Some e) ↔ IsLineOf ts fs cs e line in
    reads_some names.tasks names.funcs names.counters c.requires.tasks c.requires.funcs c.requires.counters c.requires.apart c.args.text.now line c.read_line.result
    (sym c.has.ensures ∙ c.if-not-has.false) c.before-2.ensures
    (subst (λ (ts : List (List ℕ)). P ts names.funcs names.counters) c.items.ensures
    (subst (λ (fs : List (List ℕ)). P c.items.result.now fs names.counters) c.items-2.ensures
    (subst (λ (cs : List (List ℕ)). P c.items.result.now c.items-2.result.now cs) c.items-3.ensures c.read_line.ensures)))

pub returns-clause-none : goal.returns-clause-none
returns-clause-none c =
    let names = c.args.names.now in
    let line = c.before-2.result.now in
    let P : List (List ℕ) → List (List ℕ) → List (List ℕ) → Type 0 = λ ts fs cs. (e : Stamped) → (c.read_line.result ≡ Some e) ↔ IsLineOf ts fs cs e line in
    reads_none names.tasks names.funcs names.counters c.requires.tasks c.requires.funcs c.requires.counters c.requires.apart c.args.text.now line c.read_line.result
    c.before-2.ensures
    (subst (λ (ts : List (List ℕ)). P ts names.funcs names.counters) c.items.ensures
    (subst (λ (fs : List (List ℕ)). P c.items.result.now fs names.counters) c.items-2.ensures
    (subst (λ (cs : List (List ℕ)). P c.items.result.now c.items-2.result.now cs) c.items-3.ensures c.read_line.ensures)))
