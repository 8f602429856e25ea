use Rattle.std.proofs.Common.{◌≡◌, ◌∙◌, ◌-◌, ap, drop, length, refl, arith}
use Rattle.std.proofs.lemmas.List.{take_rest}
use Rattle.sloth_io.specs.FileStore.{files_after_read, shown_files}
use Rattle.sloth_io.proofs.Reading.{only_failed_counted, only_overlong_counted, read_beyond, read_done, read_missed, read_untold, taken_back, taken_beyond, taken_whole}
use Rattle.sloth_io.proofs.file_store.SystemFilesStore.read.Goals as goal

pub returns-clause-ok : goal.returns-clause-ok
returns-clause-ok g c =
    let outcome = c.read_file-outcome.result in
    let old = c.args.into.now.items in
    let mid = c.read_file-outcome.new.into.items in
    let before = shown_files c.args.self.now in
    let start : c.len-before.result ≡ length old = c.len-before.ensures ∙ c.args.into.now.ok.0 in
    let delivered =
    take_rest c.deref.result.now c.len-before.result ∙ ap (drop c.len-before.result) c.deref.ensures.value ∙ ap (λ n. drop n mid) start in
    read_done outcome c.args.limit c.args.name.now old mid c.take_back.new.into.items before (shown_files c.tell_read.new.self) (λ tells. cc)
    c.read_file-outcome.ensures.ok c.take_back.ensures.ok
    (c.tell_read.ensures.told ∙ ap (λ bytes. files_after_read outcome c.args.name.now bytes before) delivered)

pub returns-clause-err : goal.returns-clause-err
returns-clause-err g c =
    let start : c.len-before.result ≡ length c.args.into.now.items = c.len-before.ensures ∙ c.args.into.now.ok.0 in
    taken_back c.read_file-outcome.result c.args.into.now.items c.read_file-outcome.new.into.items c.take_back.new.into.items c.read_file-outcome.ensures.front
    (rw start at c.take_back.ensures.err)

pub returns-clause-nothing : goal.returns-clause-nothing
returns-clause-nothing g c =
    read_untold c.read_file-outcome.result c.args.name.now _ (shown_files c.args.self.now) (shown_files c.tell_read.new.self) c.tell_read.ensures.told

pub returns-clause-failed : goal.returns-clause-failed
returns-clause-failed g c is =
    read_missed c.read_file-outcome.result c.args.name.now _ (shown_files c.args.self.now) (shown_files c.tell_read.new.self) refl c.tell_read.ensures.told is

pub returns-clause-too_long : goal.returns-clause-too_long
returns-clause-too_long g c is =
    read_beyond c.read_file-outcome.result c.args.limit c.args.name.now _ (shown_files c.args.self.now) (shown_files c.tell_read.new.self) (λ tells. cc)
    c.tell_read.ensures.told is

pub returns-clause-failed_reads : goal.returns-clause-failed_reads
returns-clause-failed_reads g c other =
    only_failed_counted c.read_file-outcome.result c.args.name.now _ (shown_files c.args.self.now) (shown_files c.tell_read.new.self) c.tell_read.ensures.told other

pub returns-clause-overlong_reads : goal.returns-clause-overlong_reads
returns-clause-overlong_reads g c other =
    only_overlong_counted c.read_file-outcome.result c.args.name.now _ (shown_files c.args.self.now) (shown_files c.tell_read.new.self) c.tell_read.ensures.told other

pub returns-clause-taken : goal.returns-clause-taken
returns-clause-taken g c =
    let old = c.args.into.now.items in
    let mid = c.read_file-outcome.new.into.items in
    let start : c.len-before.result ≡ length old = c.len-before.ensures ∙ c.args.into.now.ok.0 in
    let end : c.len.result ≡ length mid = c.len.ensures ∙ c.read_file-outcome.new.into.ok.0 in
    let taken : c.tell_read.new.self.taken ≡ length mid - length old = omega (arith, c.tell_read.ensures.taken, start, end) in
    taken_whole c.read_file-outcome.result old mid c.take_back.new.into.items c.tell_read.new.self.taken c.read_file-outcome.ensures.front taken c.take_back.ensures.ok

pub returns-clause-taken_beyond : goal.returns-clause-taken_beyond
returns-clause-taken_beyond g c is =
    let old = c.args.into.now.items in
    let mid = c.read_file-outcome.new.into.items in
    let start : c.len-before.result ≡ length old = c.len-before.ensures ∙ c.args.into.now.ok.0 in
    let end : c.len.result ≡ length mid = c.len.ensures ∙ c.read_file-outcome.new.into.ok.0 in
    let taken : c.tell_read.new.self.taken ≡ length mid - length old = omega (arith, c.tell_read.ensures.taken, start, end) in
    taken_beyond c.args.limit old mid c.tell_read.new.self.taken taken (c.read_file-outcome.ensures.too_long is)
