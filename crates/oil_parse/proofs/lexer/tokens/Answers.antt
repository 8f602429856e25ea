use Rattle.std.proofs.Common.{◌∙◌, sym}
use Rattle.std.proofs.lemmas.Bool.{leb-true}
use Rattle.std.proofs.lemmas.Result.{err_from_is_err_and}
use Rattle.oil_parse.proofs.Cuts.{goes, within_next, lines_next, stops, ends, seen}
use Rattle.oil_parse.proofs.lexer.tokens.Goals as goal

pub loop-cutter-preserved : goal.loop-cutter-preserved
loop-cutter-preserved c = record {
  within = within_next c.loop-cutter.cutter c.cut.new.self c.in_ok-cut.ensures.more c.loop-cutter.invariant.within;
  lines = lines_next c.loop-cutter.cutter c.cut.new.self c.in_ok-cut.ensures.more c.loop-cutter.invariant.lines;
  goes = goes c.args.text c.loop-cutter.cutter c.cut.new.self c.loop-cutter.invariant.goes c.in_ok-cut.ensures.more;
}

pub returns-in_err-cut-clause-refused : goal.returns-in_err-cut-clause-refused
returns-in_err-cut-clause-refused c =
    let p = err_from_is_err_and c.from_residual.result c.from_residual.ensures.1 in
    rw (p.1, p.2) (stops c.args.text c.loop-cutter.cutter c.in_err-cut.field-0.0 c.loop-cutter.invariant.goes c.in_err-cut.ensures.stopped)

pub returns-clause-slices : goal.returns-clause-slices
returns-clause-slices c =
    (ends c.args.text c.loop-cutter.cutter c.loop-cutter.invariant.goes (leb-true _ _ (sym c.is_done.ensures ∙ c.loop-cutter-test.false))).0

pub returns-clause-tokens : goal.returns-clause-tokens
returns-clause-tokens c = seen c.args.text c.loop-cutter.cutter.tokens.items (returns-clause-slices c)

pub returns-clause-none : goal.returns-clause-none
returns-clause-none c =
    (ends c.args.text c.loop-cutter.cutter c.loop-cutter.invariant.goes (leb-true _ _ (sym c.is_done.ensures ∙ c.loop-cutter-test.false))).1
