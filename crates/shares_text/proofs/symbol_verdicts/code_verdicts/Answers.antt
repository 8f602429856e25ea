use Rattle.std.proofs.Common.{ℕ, List, ap, sym, subst, ◌∙◌}
use Rattle.sloth_base.specs.declared.app.Func.{Func}
use Rattle.osek_scheduler.specs.Priority.{greatest}
use Rattle.shares_text.specs.declared.sites.Access.{Access}
use Rattle.shares_text.specs.declared.sites.CallSite.{CallSite}
use Rattle.shares_text.specs.Sites.{gather, access_at, call_at, down_from}
use Rattle.shares_text.specs.Tables.{AreCalls, AreAccesses}
use Rattle.shares_text.proofs.Gathering.{ordered_are, accesses_are}
use Rattle.shares_text.proofs.symbol_verdicts.code_verdicts.Goals as goal

pub all_ways-requires-clause-calls : goal.all_ways-requires-clause-calls
all_ways-requires-clause-calls c =
    let table = c.args.table.now in
    let rank = c.args.ranks.now.rank in
    let calls = c.deref.ensures.value ∙ c.in_ok-calls.ensures ∙ ap (λ (fs : List Func). gather call_at 0 fs table) c.items-funcs.ensures in
    subst (λ (l : List CallSite). AreCalls c.args.config.now c.args.app.now l)
    (sym (c.deref-2.ensures.value ∙ c.in_ok-ordered.ensures ∙ ap (λ (r : List ℕ). down_from r c.deref.result.now (greatest r)) c.items.ensures
    ∙ ap (λ (l : List CallSite). down_from rank l (greatest rank)) calls))
    (ordered_are c.args.config.now c.args.app.now c.args.ranks.now table c.requires.belong c.requires.table)

pub verdicts-requires-clause-accesses : goal.verdicts-requires-clause-accesses
verdicts-requires-clause-accesses c =
    subst (λ (l : List Access). AreAccesses c.args.config.now c.args.app.now l)
    (sym (c.deref-3.ensures.value ∙ c.in_ok-accesses.ensures ∙ ap (λ (fs : List Func). gather access_at 0 fs c.args.table.now) c.items-funcs.ensures))
    (accesses_are c.args.config.now c.args.app.now c.args.table.now c.requires.table)
