use Rattle.std.proofs.Common.{◌≡◌, ◌+◌, ◌*◌, ◌∙◌, ℕ, length, drop, sym, ap, subst, arith}
use Rattle.std.proofs.lemmas.List.{drop_all, length-drop}
use Rattle.std.proofs.lemmas.Bool.{true≢false}
use Rattle.std.proofs.lemmas.Result.{err_from_is_err_and}
use Rattle.sloth_base.specs.ImageRange.{AreAscending, service_limit}
use Rattle.image_file.specs.Reading.{IsMarksError, parts_at}
use Rattle.image_file.proofs.RightParts.{marks_fail, right_by}
use Rattle.image_file.proofs.read.last_marks.Goals as goal

pub returns-in_err-marks-clause-failed : goal.returns-in_err-marks-clause-failed
returns-in_err-marks-clause-failed c =
    let q = err_from_is_err_and c.from_residual.result c.from_residual.ensures.1 in
    let file = c.args.bytes.now in
    let p = c.args.outline.now in
    let u : c.len.result ≡ length p.counters.items = omega (arith, c.len.ensures, p.counters.ok.0) in
    let services : c.service_limit-services.result ≡ service_limit (length p.counters.items) = c.service_limit-services.ensures ∙ ap service_limit u in
    let n : c.len-funcs.result ≡ length p.funcs.items = omega (arith, c.len-funcs.ensures, p.funcs.ok.0) in
    let P : ℕ → ℕ → Type 0 = λ s n. IsMarksError c.in_err-marks.field-0.0 file (p.memory + p.size) p.count s n p.size in
    rw (q.1, q.2) (marks_fail c.in_err-marks.field-0.0 file p.tasks.items p.funcs.items p.counters.items p.memory p.size p.count _ c.requires.long c.requires.parts
    (subst (λ s. P s (length p.funcs.items)) services (subst (P c.service_limit-services.result) n c.in_err-marks.ensures.failed)))

pub returns-then-not-are_ascending-clause-failed :
    goal.returns-then-not-are_ascending-clause-failed
returns-then-not-are_ascending-clause-failed c =
    let file = c.args.bytes.now in
    let p = c.args.outline.now in
    let u : c.len.result ≡ length p.counters.items = omega (arith, c.len.ensures, p.counters.ok.0) in
    let services : c.service_limit-services.result ≡ service_limit (length p.counters.items) = c.service_limit-services.ensures ∙ ap service_limit u in
    let n : c.len-funcs.result ≡ length p.funcs.items = omega (arith, c.len-funcs.ensures, p.funcs.ok.0) in
    let right = right_by file p.tasks.items p.funcs.items p.counters.items c.deref.result.now c.deref-2.result.now c.deref-3.result.now p.memory p.size p.count
    c.service_limit-services.result c.len-funcs.result c.in_ok-marks.marks.items c.deref.ensures.value c.deref-2.ensures.value c.deref-3.ensures.value services n
    c.requires.long (c.are_right_names.ensures.0 c.if-not-are_right_names.false) c.in_ok-marks.ensures.read c.in_ok-marks.ensures.counted in rw c.into-then-not-are_ascending.ensures (
      parts_at file p.tasks.items p.funcs.items p.counters.items p.memory p.size p.count,
      drop (p.memory + p.size + p.count * 12) file,
      c.in_ok-marks.marks.items,
      c.requires.parts,
      right,
      λ rising. true≢false (sym (c.are_ascending.ensures.1 (subst AreAscending (sym c.deref-4.ensures.value) rising)) ∙ c.if-not-are_ascending.true),
    )

pub returns-then-is_followed-clause-failed : goal.returns-then-is_followed-clause-failed
returns-then-is_followed-clause-failed c =
    let file = c.args.bytes.now in
    let p = c.args.outline.now in
    let u : c.len.result ≡ length p.counters.items = omega (arith, c.len.ensures, p.counters.ok.0) in
    let services : c.service_limit-services.result ≡ service_limit (length p.counters.items) = c.service_limit-services.ensures ∙ ap service_limit u in
    let n : c.len-funcs.result ≡ length p.funcs.items = omega (arith, c.len-funcs.ensures, p.funcs.ok.0) in
    let right = right_by file p.tasks.items p.funcs.items p.counters.items c.deref.result.now c.deref-2.result.now c.deref-3.result.now p.memory p.size p.count
    c.service_limit-services.result c.len-funcs.result c.in_ok-marks.marks.items c.deref.ensures.value c.deref-2.ensures.value c.deref-3.ensures.value services n
    c.requires.long (c.are_right_names.ensures.0 c.if-not-are_right_names.false) c.in_ok-marks.ensures.read c.in_ok-marks.ensures.counted in
    let rising : AreAscending c.in_ok-marks.marks.items = subst AreAscending c.deref-4.ensures.value (c.are_ascending.ensures.0 c.if-not-are_ascending.false) in
    let more = c.is_followed.ensures.follows c.if-is_followed.true in
    let left = length-drop (p.memory + p.size + p.count * 12) file in rw c.into-then-is_followed.ensures (
      parts_at file p.tasks.items p.funcs.items p.counters.items p.memory p.size p.count,
      drop (p.memory + p.size + p.count * 12) file,
      c.in_ok-marks.marks.items,
      c.requires.parts,
      right,
      rising,
      λ none. let nothing = ap length none in omega (arith, more, left, nothing),
    )

pub returns-clause-read : goal.returns-clause-read
returns-clause-read c =
    let file = c.args.bytes.now in
    let p = c.args.outline.now in
    let u : c.len.result ≡ length p.counters.items = omega (arith, c.len.ensures, p.counters.ok.0) in
    let services : c.service_limit-services.result ≡ service_limit (length p.counters.items) = c.service_limit-services.ensures ∙ ap service_limit u in
    let n : c.len-funcs.result ≡ length p.funcs.items = omega (arith, c.len-funcs.ensures, p.funcs.ok.0) in
    let right = right_by file p.tasks.items p.funcs.items p.counters.items c.deref.result.now c.deref-2.result.now c.deref-3.result.now p.memory p.size p.count
    c.service_limit-services.result c.len-funcs.result c.in_ok-marks.marks.items c.deref.ensures.value c.deref-2.ensures.value c.deref-3.ensures.value services n
    c.requires.long (c.are_right_names.ensures.0 c.if-not-are_right_names.false) c.in_ok-marks.ensures.read c.in_ok-marks.ensures.counted in
    let rising : AreAscending c.in_ok-marks.marks.items = subst AreAscending c.deref-4.ensures.value (c.are_ascending.ensures.0 c.if-not-are_ascending.false) in
    let short = c.is_followed.ensures.ends c.if-is_followed.false in
    record { right = right; ascending = rising; ends = drop_all (p.memory + p.size + p.count * 12) file (omega arith) }
