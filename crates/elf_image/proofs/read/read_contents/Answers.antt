use Rattle.std.proofs.Common.{◌≡◌, List, length, sym, subst}
use Rattle.sloth_base.specs.ImageRange.{AreAscending, service_limit}
use Rattle.sloth_base.specs.declared.image.Mark.{Mark}
use Rattle.image_file.specs.Reading.{MarksStand}
use Rattle.elf_image.proofs.read.read_contents.Goals as goal

pub returns-clause-read : goal.returns-clause-read
returns-clause-read c =
    let o = c.args.all in
    let right = c.in_ok-marks.ensures.read in
    let are = sym c.from_vec-5.ensures in
    record {
      tasks_are = c.from_vec.ensures;
      funcs_are = c.from_vec-2.ensures;
      counters_are = c.from_vec-3.ensures;
      names = right.names;
      marks = subst (λ (marks : List Mark). MarksStand c.args.file.now o.memory (service_limit (length o.counters.items)) (length o.funcs.items)
          (length c.args.memory.now) marks) are right.marks_stand;
      counted = subst (λ (marks : List Mark). length marks ≡ o.count) are right.counted;
      ascending = subst AreAscending are right.ascending;
    }
