use Rattle.std.proofs.Common.{◌∙◌, ◌++◌, ◌≡◌, ap, subst, sym, take, append-nil, length-append, arith}
use Rattle.std.specs.Io.KnownBytes.{Consumes}
use Rattle.std.proofs.KnownBytes.{Consumes-kept}
use Rattle.std.proofs.Transfers.{drop-appended}
use Rattle.sloth_io.proofs.Reading.{appended, left_alone, reads_more}
use Rattle.sloth_io.proofs.replaced_files.read_whole.Goals as goal

pub returns-in_default-clause-front : goal.returns-in_default-clause-front
returns-in_default-clause-front g c =
    let (bytes, grown, left, consumed) = c.loop-count.invariant in (bytes, grown)

pub returns-in_default-clause-taken : goal.returns-in_default-clause-taken
returns-in_default-clause-taken g c other =
    let (bytes, grown, left, consumed) = c.loop-count.invariant in
    let start = c.args.into.now.items in
    subst (Consumes _ _) (sym (drop-appended start c.loop-count.into.items bytes grown)) (Consumes-kept _ _ _ bytes consumed c.in_default.ensures.bytes)

pub returns-then-count-eq0-clause-ok : goal.returns-then-count-eq0-clause-ok
returns-then-count-eq0-clause-ok g c =
    let (bytes, grown, left, consumed) = c.loop-count.invariant in (bytes, grown, omega (arith, left))

pub returns-then-count-eq0-clause-front : goal.returns-then-count-eq0-clause-front
returns-then-count-eq0-clause-front g c =
    let (bytes, grown, left, consumed) = c.loop-count.invariant in (bytes, grown)

pub returns-then-count-eq0-clause-taken : goal.returns-then-count-eq0-clause-taken
returns-then-count-eq0-clause-taken g c other =
    let (bytes, grown, left, consumed) = c.loop-count.invariant in
    let start = c.args.into.now.items in
    let more = reads_more _ _ _ start _ bytes _ grown consumed c.in-Ok.ensures.bytes.0 in
    let none : bytes ++ take c.in-Ok.count c.read.new.buf ≡ bytes = ap (λ n. bytes ++ take n c.read.new.buf) c.if-count-eq0.true ∙ append-nil bytes in
    subst (Consumes _ _) (none ∙ sym (drop-appended start c.loop-count.into.items bytes grown)) more.1

pub returns-then-is_err-clause-front : goal.returns-then-is_err-clause-front
returns-then-is_err-clause-front g c =
    let (bytes, grown, left, consumed) = c.loop-count.invariant in
    (bytes, left_alone c.extend_from_slice.result c.extend_from_slice.new.self.items c.loop-count.into.items (take c.in-Ok.count c.read.new.buf) c.extend_from_slice.ensures.items (sym c.if-is_err.ensures.value) ∙ grown)

pub returns-then-count-left-clause-too_long : goal.returns-then-count-left-clause-too_long
returns-then-count-left-clause-too_long g c is =
    let (bytes, grown, left, consumed) = c.loop-count.invariant in
    let piece = take c.in-Ok.count c.read.new.buf in
    let now = appended c.extend_from_slice.result c.extend_from_slice.new.self.items c.loop-count.into.items piece c.extend_from_slice.ensures.items (sym c.if-is_err.ensures.value) in
    let more = reads_more _ _ _ c.args.into.now.items _ bytes piece grown consumed c.in-Ok.ensures.bytes.0 in
    (bytes ++ piece, now ∙ more.0, omega (arith, left, c.if-count-left.true, length-append bytes piece, c.in-Ok.ensures.bound.1))

pub returns-then-count-left-clause-front : goal.returns-then-count-left-clause-front
returns-then-count-left-clause-front g c =
    let (bytes, grown, left, consumed) = c.loop-count.invariant in
    let piece = take c.in-Ok.count c.read.new.buf in
    let now = appended c.extend_from_slice.result c.extend_from_slice.new.self.items c.loop-count.into.items piece c.extend_from_slice.ensures.items (sym c.if-is_err.ensures.value) in
    let more = reads_more _ _ _ c.args.into.now.items _ bytes piece grown consumed c.in-Ok.ensures.bytes.0 in (bytes ++ piece, now ∙ more.0)

pub returns-then-count-left-clause-taken : goal.returns-then-count-left-clause-taken
returns-then-count-left-clause-taken g c other =
    let (bytes, grown, left, consumed) = c.loop-count.invariant in
    let start = c.args.into.now.items in
    let piece = take c.in-Ok.count c.read.new.buf in
    let now = appended c.extend_from_slice.result c.extend_from_slice.new.self.items c.loop-count.into.items piece c.extend_from_slice.ensures.items (sym c.if-is_err.ensures.value) in
    let more = reads_more _ _ _ start _ bytes piece grown consumed c.in-Ok.ensures.bytes.0 in
    subst (Consumes _ _) (sym (drop-appended start _ (bytes ++ piece) (now ∙ more.0))) more.1

pub loop-count-preserved : goal.loop-count-preserved
loop-count-preserved g c =
    let (bytes, grown, left, consumed) = c.loop-count.invariant in
    let piece = take c.in-Ok.count c.read.new.buf in
    let now = appended c.extend_from_slice.result c.extend_from_slice.new.self.items c.loop-count.into.items piece c.extend_from_slice.ensures.items (sym c.if-is_err.ensures.value) in
    let more = reads_more _ _ _ c.args.into.now.items _ bytes piece grown consumed c.in-Ok.ensures.bytes.0 in (
      bytes ++ piece,
      now ∙ more.0,
      omega (arith, left, c.if-count-left.false, length-append bytes piece, c.in-Ok.ensures.bound.1),
      more.1,
    )
