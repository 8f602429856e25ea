use Rattle.std.proofs.Common.{◌≡◌, true, map}
use Rattle.std.proofs.lemmas.Result.{err_from_is_err_and}
use Rattle.oil_parse.specs.Tokens.{lexeme}
use Rattle.oil_parse.proofs.Loop.{reads_at, stuck_at, reads_end, unfinished, refused, whole, within_by}
use Rattle.oil_parse.proofs.tree.parse.Goals as goal

pub returns-in_err-read-clause-refused : goal.returns-in_err-read-clause-refused
returns-in_err-read-clause-refused c =
    let p = err_from_is_err_and c.from_residual.result c.from_residual.ensures.1 in
    rw (p.1, p.2) (stuck_at c.args.tokens.now c.loop-token.parser c.loop-token.token-index _ c.loop-token-test.true c.loop-token.invariant.reads
    c.in_err-read.field-0.0 c.in_err-read.ensures.stopped)

pub loop-token-preserved : goal.loop-token-preserved
loop-token-preserved c =
    let m = c.in_ok-read.ensures.moved in
    record {
      reads = reads_at c.args.tokens.now c.loop-token.parser c.read.new.self c.loop-token.token-index _ c.loop-token-test.true c.loop-token.invariant.reads m;
      within = within_by c.loop-token.parser.expect _ c.read.new.self.expect c.loop-token.token-index m.goes c.loop-token.invariant.within;
    }

pub returns-then-not-is_done-clause-refused : goal.returns-then-not-is_done-clause-refused
returns-then-not-is_done-clause-refused c =
    rw (c.lesser.ensures, c.oil.ensures)
    (unfinished (map lexeme c.args.tokens.now) c.loop-token.parser
    (reads_end c.args.tokens.now c.loop-token.parser c.loop-token.token-index c.loop-token-test.false c.loop-token.invariant.reads)
    (λ d. let t : c.is_done.result ≡ true = c.is_done.ensures.1 d in let f = c.if-not-is_done.true in cc))

pub returns-in-Some-clause-refused : goal.returns-in-Some-clause-refused
returns-in-Some-clause-refused c =
    refused (map lexeme c.args.tokens.now) c.loop-token.parser c.in-Some.least
    (reads_end c.args.tokens.now c.loop-token.parser c.loop-token.token-index c.loop-token-test.false c.loop-token.invariant.reads) (c.is_done.ensures.0 c.if-not-is_done.false) c.in-Some.is

pub returns-in-None-clause-tree : goal.returns-in-None-clause-tree
returns-in-None-clause-tree c =
    rw c.from_vec.ensures (whole (map lexeme c.args.tokens.now) c.loop-token.parser
    (reads_end c.args.tokens.now c.loop-token.parser c.loop-token.token-index c.loop-token-test.false c.loop-token.invariant.reads) (c.is_done.ensures.0 c.if-not-is_done.false) c.in-None.is).0

pub returns-in-None-clause-none : goal.returns-in-None-clause-none
returns-in-None-clause-none c =
    (whole (map lexeme c.args.tokens.now) c.loop-token.parser
    (reads_end c.args.tokens.now c.loop-token.parser c.loop-token.token-index c.loop-token-test.false c.loop-token.invariant.reads) (c.is_done.ensures.0 c.if-not-is_done.false) c.in-None.is).1
