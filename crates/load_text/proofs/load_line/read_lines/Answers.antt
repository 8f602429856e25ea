use Rattle.std.proofs.Common.{◌∙◌, ℕ, ◌++◌, ◌∷◌, [], List, ap, map, get_or}
use Rattle.std.specs.Borrow.{Bor}
use Rattle.std.proofs.lemmas.Result.{err_from_is_err_and}
use Rattle.text_pieces.specs.Names.{referent}
use Rattle.trace_text.proofs.LineByLine.{next-of, values-more, one-sound, first-error}
use Rattle.load_text.specs.declared.load_line.Entry.{Entry}
use Rattle.load_text.specs.LoadText.{is_entry, entry_of, entries_of, LineFault}
use Rattle.load_text.proofs.FaultLines.{fault_line}
use Rattle.load_text.proofs.load_line.read_lines.Goals as goal

pub returns-in_err-read_line-clause-refused : goal.returns-in_err-read_line-clause-refused
returns-in_err-read_line-clause-refused c =
    let failed = err_from_is_err_and c.from_residual.result c.from_residual.ensures.1 in
    let parts = c.args.lines.now in
    let i = c.loop-n.n in
    let tasks = c.args.tasks.now in
    let counters = c.args.counters.now in
    let read = c.loop-n.read.items in
    let none : Bor (List ℕ) = record { ref_ptr = (0, 0); now = [] } in
    let own_line = fault_line tasks counters in
    let next = next-of is_entry (entry_of tasks counters) (LineFault tasks counters) own_line parts i read none c.loop-n-test.true c.loop-n.invariant.read c.loop-n.invariant.none in
    rw (failed.1, failed.2)
    (first-error is_entry (entry_of tasks counters) (LineFault tasks counters) own_line (map referent parts) i read (get_or parts i none).now c.in_err-read_line.field-0.0 next
    c.in_err-read_line.ensures.refused)

pub loop-n-preserved : goal.loop-n-preserved
loop-n-preserved c =
    let parts = c.args.lines.now in
    let i = c.loop-n.n in
    let tasks = c.args.tasks.now in
    let counters = c.args.counters.now in
    let read = c.loop-n.read.items in
    let none : Bor (List ℕ) = record { ref_ptr = (0, 0); now = [] } in
    let line = (get_or parts i none).now in
    let own_line = fault_line tasks counters in
    let next = next-of is_entry (entry_of tasks counters) (LineFault tasks counters) own_line parts i read none c.loop-n-test.true c.loop-n.invariant.read c.loop-n.invariant.none in
    let of = c.in_ok-read_line.ensures in
    record {
      read = of.read
          ∙ (ap (λ (xs : List Entry). xs ++ entries_of tasks counters (line ∷ [])) next.behind
          ∙ values-more is_entry (entry_of tasks counters) (LineFault tasks counters) own_line (map referent parts) i line next.inside next.line_is);
      in_range = of.in_range;
      none = one-sound is_entry (entry_of tasks counters) (LineFault tasks counters) own_line (map referent parts) i read line next of.none;
    }
