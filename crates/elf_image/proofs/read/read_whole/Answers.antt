use Rattle.std.proofs.Common.{◌≡◌, ◌∙◌, ◌+◌, ap, subst, take, drop, length}
use Rattle.std.proofs.lemmas.Result.{err_from_is_err_and, IfErr-weaker}
use Rattle.elf_image.specs.Reading.{AreNamesAndMarks, IsContentsError, IsDescriptionError, IsDescription, IsNote}
use Rattle.elf_image.proofs.Steps.{both-ok, contents-fail, description-fails, elf-read}
use Rattle.elf_image.proofs.Whole.{memory-size}
use Rattle.elf_image.proofs.read.read_whole.Goals as goal

pub returns-in_err-outline-clause-failed : goal.returns-in_err-outline-clause-failed
returns-in_err-outline-clause-failed c =
    let frame = c.in_ok-size.ensures.read in
    let noted : c.behind-note.result.now ≡ drop (116 + c.in_ok-size.size) c.args.bytes.now = c.behind-note.ensures in
    let is = subst (λ x. IsNote x c.in_ok-length.length) noted c.in_ok-length.ensures.read in
    let described : c.part-description.result.now ≡ take c.in_ok-length.length (drop 20 (drop (116 + c.in_ok-size.size) c.args.bytes.now)) =
    c.part-description.ensures ∙ ap (λ x. take c.in_ok-length.length (drop 20 x)) noted in
    let failed = err_from_is_err_and c.from_residual-in_err-outline.result c.from_residual-in_err-outline.ensures.1 in
    rw (failed.1, failed.2)
    (description-fails c.args.bytes.now c.in_ok-size.size frame.0 frame.1 c.in_ok-length.length is c.in_err-outline.field-0.0
    (subst (λ x. IsDescriptionError c.in_err-outline.field-0.0 x) described c.in_err-outline.ensures.failed))

pub returns-clause-read : goal.returns-clause-read
returns-clause-read c =
    let frame = c.in_ok-size.ensures.read in
    let o = c.in_ok-outline.outline in
    let noted : c.behind-note.result.now ≡ drop (116 + c.in_ok-size.size) c.args.bytes.now = c.behind-note.ensures in
    let is = subst (λ x. IsNote x c.in_ok-length.length) noted c.in_ok-length.ensures.read in
    let described : c.part-description.result.now ≡ take c.in_ok-length.length (drop 20 (drop (116 + c.in_ok-size.size) c.args.bytes.now)) =
    c.part-description.ensures ∙ ap (λ x. take c.in_ok-length.length (drop 20 x)) noted in
    let whole = subst (λ x. IsDescription x o.tasks.items o.funcs.items o.counters.items o.memory o.count) described c.in_ok-outline.ensures.read in
    let size : length c.part-memory.result.now ≡ c.in_ok-size.size =
    ap (λ x. length x) c.part-memory.ensures ∙ memory-size c.args.bytes.now c.in_ok-size.size frame.0 frame.1 in
    both-ok c.read_contents.result _ _ _ (λ image read memory.
    elf-read c.args.bytes.now c.in_ok-size.size frame.0 frame.1 c.in_ok-length.length is o.tasks.items o.funcs.items o.counters.items o.memory o.count whole image
    (subst (λ s. AreNamesAndMarks (take c.in_ok-length.length (drop 20 (drop (116 + c.in_ok-size.size) c.args.bytes.now))) o.tasks.items o.funcs.items o.counters.items o.memory o.count s image) size
    (subst (λ x. AreNamesAndMarks x o.tasks.items o.funcs.items o.counters.items o.memory o.count (length c.part-memory.result.now) image) described read))
    (memory ∙ c.part-memory.ensures))
    c.read_contents.ensures.read c.read_contents.ensures.memory

pub returns-clause-failed : goal.returns-clause-failed
returns-clause-failed c =
    let frame = c.in_ok-size.ensures.read in
    let o = c.in_ok-outline.outline in
    let noted : c.behind-note.result.now ≡ drop (116 + c.in_ok-size.size) c.args.bytes.now = c.behind-note.ensures in
    let is = subst (λ x. IsNote x c.in_ok-length.length) noted c.in_ok-length.ensures.read in
    let described : c.part-description.result.now ≡ take c.in_ok-length.length (drop 20 (drop (116 + c.in_ok-size.size) c.args.bytes.now)) =
    c.part-description.ensures ∙ ap (λ x. take c.in_ok-length.length (drop 20 x)) noted in
    let whole = subst (λ x. IsDescription x o.tasks.items o.funcs.items o.counters.items o.memory o.count) described c.in_ok-outline.ensures.read in
    let size : length c.part-memory.result.now ≡ c.in_ok-size.size =
    ap (λ x. length x) c.part-memory.ensures ∙ memory-size c.args.bytes.now c.in_ok-size.size frame.0 frame.1 in
    IfErr-weaker c.read_contents.result _ _ (λ f h.
    contents-fail c.args.bytes.now c.in_ok-size.size frame.0 frame.1 c.in_ok-length.length is o.tasks.items o.funcs.items o.counters.items o.memory o.count whole f
    (subst (λ s. IsContentsError f (take c.in_ok-length.length (drop 20 (drop (116 + c.in_ok-size.size) c.args.bytes.now))) o.tasks.items o.funcs.items o.counters.items o.memory o.count s) size
    (subst (λ x. IsContentsError f x o.tasks.items o.funcs.items o.counters.items o.memory o.count (length c.part-memory.result.now)) described h)))
    c.read_contents.ensures.failed
