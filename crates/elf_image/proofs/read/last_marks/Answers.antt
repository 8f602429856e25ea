use Rattle.std.proofs.Common.{◌≡◌, ◌∙◌, ap, sym, subst, length, arith, rules, ℕ}
use Rattle.std.proofs.lemmas.Bool.{true≢false}
use Rattle.sloth_base.specs.ImageRange.{AreAscending, service_limit}
use Rattle.image_file.specs.Reading.{IsMarksError, MarksStand}
use Rattle.image_file.specs.declared.read.FileError.{FileError}
use Rattle.image_file.specs.declared.read.ImageFault.{ImageFault}
use Rattle.elf_image.proofs.Descriptions.{one-marks}
use Rattle.elf_image.proofs.Steps.{marks-miss}
use Rattle.elf_image.proofs.read.last_marks.Goals as goal

pub returns-in-Err-Fault-clause-failed : goal.returns-in-Err-Fault-clause-failed
returns-in-Err-Fault-clause-failed c =
    let o = c.args.all.now in
    let u : c.len.result ≡ length o.counters.items = omega (arith, c.len.ensures, o.counters.ok.0) in
    let services : c.service_limit-services.result ≡ service_limit (length o.counters.items) = c.service_limit-services.ensures ∙ ap service_limit u in
    let n : c.len-funcs.result ≡ length o.funcs.items = omega (arith, c.len-funcs.ensures, o.funcs.ok.0) in
    marks-miss c.in-Err-Fault.field-0-0 c.args.file.now o.tasks.items o.funcs.items o.counters.items o.memory o.count c.args.size
    c.service_limit-services.result c.len-funcs.result services n
    (subst (λ (f : FileError ImageFault). IsMarksError f c.args.file.now o.memory o.count c.service_limit-services.result c.len-funcs.result c.args.size)
    c.in-Err-Fault.field-0-is c.in-Err-Fault.ensures.failed)

pub returns-then-not-are_ascending-clause-failed : goal.returns-then-not-are_ascending-clause-failed
returns-then-not-are_ascending-clause-failed c =
    let o = c.args.all.now in
    let stand : MarksStand c.args.file.now o.memory (service_limit (length o.counters.items)) (length o.funcs.items) c.args.size c.in-Ok.marks.items = search rules in
    rw c.into-then-not-are_ascending.ensures (λ image read.
    let same : image.marks ≡ c.in-Ok.marks.items =
    one-marks c.args.file.now o.memory (service_limit (length o.counters.items)) (length o.funcs.items) c.args.size image.marks c.in-Ok.marks.items
    c.requires.parts.within.few_functions c.requires.fits read.marks stand (read.counted ∙ sym c.in-Ok.ensures.counted) in
    true≢false (sym (c.are_ascending.ensures.1 (subst AreAscending (same ∙ sym c.deref.ensures.value) read.ascending)) ∙ c.if-not-are_ascending.true))

pub returns-clause-read : goal.returns-clause-read
returns-clause-read c = record {
  names = c.has_right_names.ensures.0 c.if-not-has_right_names.false;
  marks_stand = search rules;
  counted = c.in-Ok.ensures.counted;
  ascending = subst AreAscending c.deref.ensures.value (c.are_ascending.ensures.0 c.if-not-are_ascending.false);
}
