use Rattle.std.proofs.Common.{List, sym, subst}
use Rattle.std.proofs.lemmas.Result.{err_from_is_err_and}
use Rattle.sloth_base.specs.Owners.{owners_in}
use Rattle.load_text.specs.declared.load_line.Entry.{Entry}
use Rattle.load_text.specs.Loads.{IsLoad}
use Rattle.sloth_base.specs.declared.service.Arrival.{Arrival}
use Rattle.run_load.specs.RunText.{HasToldRun}
use Rattle.response_text.proofs.Keeping.{owned}
use Rattle.sloth_build.proofs.Ready.{may_build}
use Rattle.run_load.proofs.Unread.{sources_unread, load_unread, arrivals_unread}
use Rattle.run_load.proofs.text.run_text.Goals as goal

pub returns-in_err-source-clause-refused : goal.returns-in_err-source-clause-refused
returns-in_err-source-clause-refused c =
    let failed = err_from_is_err_and c.from_residual.result c.from_residual.ensures.1 in
    rw (failed.1, failed.2) (sources_unread c.args.oil.now c.args.src.now c.args.load.now c.args.arr.now c.in_err-source.field-0.0 c.in_err-source.ensures.refused)

pub returns-in_err-entries-clause-refused : goal.returns-in_err-entries-clause-refused
returns-in_err-entries-clause-refused c =
    let failed = err_from_is_err_and c.from_residual-in_err-entries.result c.from_residual-in_err-entries.ensures.1 in
    let source = c.in_ok-source.source in
    rw (failed.1, failed.2)
    (load_unread c.args.oil.now c.args.src.now c.args.load.now c.args.arr.now source.config source.app c.in_err-entries.field-0.0 c.in_ok-source.ensures.accepted c.in_err-entries.ensures.refused)

pub returns-in_err-arrivals-clause-refused : goal.returns-in_err-arrivals-clause-refused
returns-in_err-arrivals-clause-refused c =
    let failed = err_from_is_err_and c.from_residual-in_err-arrivals.result c.from_residual-in_err-arrivals.ensures.1 in
    let source = c.in_ok-source.source in
    rw (failed.1, failed.2)
    (arrivals_unread c.args.oil.now c.args.src.now c.args.load.now c.args.arr.now source.config source.app c.in_ok-entries.entries.items c.in_err-arrivals.field-0.0
    c.in_ok-source.ensures.accepted c.in_ok-entries.ensures.load c.in_err-arrivals.ensures.refused)

pub told_built-requires-clause-may : goal.told_built-requires-clause-may
told_built-requires-clause-may c =
    let is = c.in_ok-source.ensures in
    may_build _ _ is.well_formed is.named _ is.bounds

pub told_built-requires-clause-in_load : goal.told_built-requires-clause-in_load
told_built-requires-clause-in_load c =
    let source = c.in_ok-source.source in
    subst (λ (l : List Entry). IsLoad (owners_in source.config) l) (sym c.deref.ensures.value) (owned source.config c.in_ok-entries.entries.items c.in_ok-entries.ensures.in_range)

pub returns-clause-told : goal.returns-clause-told
returns-clause-told c =
    let source = c.in_ok-source.source in
    let is = c.in_ok-told_built.ensures in
    let entries = c.in_ok-entries.entries.items in
    let arrivals = c.in_ok-arrivals.arrivals.items in
    let H : List Entry → List Arrival → Type 0 = λ l a. HasToldRun source.config source.app l c.args.arr.now a is.0 c.args.n c.in_ok-told_built.field-0 in
    record {
      config = source.config;
      app = source.app;
      accepted = c.in_ok-source.ensures.accepted;
      image = is.0;
      built = is.1;
      entries = entries;
      is_load = c.in_ok-entries.ensures.load;
      arrivals = arrivals;
      are_arrivals = c.in_ok-arrivals.ensures.read;
      has = subst (λ (a : List Arrival). H entries a) c.deref-2.ensures.value (subst (λ (l : List Entry). H l c.deref-2.result.now) c.deref.ensures.value is.2);
    }
