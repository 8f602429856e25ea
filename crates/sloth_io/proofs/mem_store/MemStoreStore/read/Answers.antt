use Rattle.std.proofs.Common.{◌≡◌, ◌∙◌, ap, drop, length, subst, sym, refl}
use Rattle.std.specs.Prelude.{◌==◌}
use Rattle.std.proofs.lemmas.List.{take_rest}
use Rattle.std.proofs.lemmas.Result.{on_err_weaker}
use Rattle.sloth_io.specs.Counts.{count_after_call, next_call}
use Rattle.sloth_io.specs.Slots.{bytes_named}
use Rattle.sloth_io.specs.MemStore.{fault_by, files_of, is_next_call_failed, is_overlong, is_too_long, reads_after, shown_files}
use Rattle.sloth_io.specs.declared.mem_store.MemStore.{MemStore}
use Rattle.sloth_io.proofs.Delivering.{IsRefused, mem_beyond, mem_done, mem_missed, mem_untold, overlong-is}
use Rattle.sloth_io.proofs.mem_store.MemStoreStore.read.Goals as goal

pub returns-clause-ok : goal.returns-clause-ok
returns-clause-ok c =
    let outcome = c.deliver-outcome.result in
    let name = c.args.name.now in
    let old = c.args.into.now.items in
    let new = c.deliver-outcome.new.into.items in
    let begun = c.begin_read-fails.new.self in
    let rest = c.begin_read-fails.ensures.rest in
    let start : c.len-before.result ≡ length old = c.len-before.ensures ∙ c.args.into.now.ok.0 in
    let delivered =
    take_rest c.deref.result.now c.len-before.result ∙ ap (drop c.len-before.result) c.deref.ensures.value ∙ ap (λ n. drop n new) start in
    mem_done outcome (bytes_named name (files_of begun)) c.args.limit name old new (shown_files c.args.self.now) (shown_files c.tell_read.new.self)
    (sym (ap (λ (store : MemStore). bytes_named name (files_of store)) rest)) c.deliver-outcome.ensures.ok
    (c.tell_read.ensures.reads
    ∙ ap (λ bytes. reads_after outcome name bytes begun.reads.items) delivered
    ∙ ap (λ (store : MemStore). reads_after outcome name (drop (length old) new) store.reads.items) rest)

pub returns-clause-nothing : goal.returns-clause-nothing
returns-clause-nothing c =
    let begun = c.begin_read-fails.new.self.reads.items in
    let now = c.tell_read.new.self.reads.items in
    let made : now ≡ begun → now ≡ c.args.self.now.reads.items = λ e. e ∙ ap (λ (store : MemStore). store.reads.items) c.begin_read-fails.ensures.rest in
    on_err_weaker c.deliver-outcome.result made (mem_untold c.deliver-outcome.result c.args.name.now _ begun now c.tell_read.ensures.reads)

pub returns-clause-failed : goal.returns-clause-failed
returns-clause-failed c failed =
    let name = c.args.name.now in
    let old = c.args.self.now in
    mem_missed c.begin_read-fails.result (bytes_named name (files_of c.begin_read-fails.new.self)) c.args.limit c.deliver-outcome.result name
    (λ call. call == next_call old.calls) old.fails.items (shown_files old) (shown_files c.tell_read.new.self) c.deliver-outcome.ensures.refused refl
    (sym (ap (λ (store : MemStore). bytes_named name (files_of store)) c.begin_read-fails.ensures.rest)) refl c.begin_read-fails.ensures.fails
    (c.tell_read.ensures.failed_reads ∙ ap (λ (store : MemStore). store.failed_reads) c.begin_read-fails.ensures.rest) failed

pub returns-clause-too_long : goal.returns-clause-too_long
returns-clause-too_long c long =
    let name = c.args.name.now in
    let outcome = c.deliver-outcome.result in
    mem_beyond c.begin_read-fails.result (bytes_named name (files_of c.begin_read-fails.new.self)) c.args.limit outcome name (shown_files c.args.self.now)
    (shown_files c.tell_read.new.self) c.deliver-outcome.ensures.refused
    (sym (ap (λ (store : MemStore). bytes_named name (files_of store)) c.begin_read-fails.ensures.rest))
    (c.tell_read.ensures.overlong_reads
    ∙ ap (λ (store : MemStore). count_after_call (is_overlong outcome) store.overlong_reads) c.begin_read-fails.ensures.rest) long

pub returns-clause-refused : goal.returns-clause-refused
returns-clause-refused c =
    let name = c.args.name.now in
    let outcome = c.deliver-outcome.result in
    let held = ap (λ (store : MemStore). bytes_named name (files_of store)) c.begin_read-fails.ensures.rest in
    subst (λ fails. IsRefused fails (bytes_named name (files_of c.args.self.now)) c.args.limit outcome) c.begin_read-fails.ensures.fails
    (subst (λ bytes. IsRefused c.begin_read-fails.result bytes c.args.limit outcome) held c.deliver-outcome.ensures.refused)

pub returns-clause-counted_overlong : goal.returns-clause-counted_overlong
returns-clause-counted_overlong c =
    let name = c.args.name.now in
    let old = c.args.self.now in
    let begun = c.begin_read-fails.new.self in
    let rest = c.begin_read-fails.ensures.rest in
    let outcome = c.deliver-outcome.result in
    c.tell_read.ensures.overlong_reads
    ∙ ap (λ (store : MemStore). count_after_call (is_overlong outcome) store.overlong_reads) rest
    ∙ ap (λ b. count_after_call b old.overlong_reads)
    (overlong-is c.begin_read-fails.result (bytes_named name (files_of begun)) c.args.limit outcome c.deliver-outcome.ensures.refused
    ∙ ap (λ fails. is_too_long (fault_by fails (bytes_named name (files_of begun)) c.args.limit)) c.begin_read-fails.ensures.fails
    ∙ ap (λ (store : MemStore). is_too_long (fault_by (is_next_call_failed old) (bytes_named name (files_of store)) c.args.limit)) rest)
