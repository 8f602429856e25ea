use Rattle.std.proofs.Common.{◌≡◌, ap, sym, ◌∙◌, length, refl, arith}
use Rattle.std.proofs.lemmas.Grind.{common_steps}
use Rattle.sloth_io.proofs.Files.{bytes_named-written, bytes_named-written_other, space_named-written}
use Rattle.sloth_io.specs.Slots.{bytes_named, space_named}
use Rattle.sloth_io.specs.MemStore.{files_of, is_sure}
use Rattle.sloth_io.specs.declared.mem_store.MemStore.{MemStore}
use Rattle.sloth_io.proofs.mem_store.MemStoreStore.write.Goals as goal

pub returns-then-replace-clause-ok : goal.returns-then-replace-clause-ok
returns-then-replace-clause-ok c =
    let files = rw c.as_bytes.ensures.value at c.if-replace.ensures.files in
    let space = rw c.as_bytes.ensures.value at c.if-replace.ensures.done in
    let called = c.call.ensures.rest in (
      λ h. ap (bytes_named c.args.name.now) files ∙ bytes_named-written c.args.name.now c.args.bytes.now (length c.args.bytes.now) _ (sym space),
      grind (arith, common_steps),
    )

pub returns-then-replace-clause-others : goal.returns-then-replace-clause-others
returns-then-replace-clause-others c other n =
    let files = rw c.as_bytes.ensures.value at c.if-replace.ensures.files in
    ap (bytes_named other) files
    ∙ bytes_named-written_other c.args.name.now c.args.bytes.now other _ n
    ∙ ap (λ store. bytes_named other (files_of store)) c.call.ensures.rest

pub returns-then-replace-clause-keeps : goal.returns-then-replace-clause-keeps
returns-then-replace-clause-keeps c =
    let files = rw c.as_bytes.ensures.value at c.if-replace.ensures.files in
    let called = c.call.ensures.rest in
    let writes : c.call.new.self.failed_writes ≡ c.args.self.now.failed_writes = ap (λ (store : MemStore). store.failed_writes) called in
    record {
      tells = refl;
      sure = ap (λ (store : MemStore). is_sure store.fails.items) called;
      space = λ other. ap (space_named other) files ∙ space_named-written c.args.name.now c.args.bytes.now other _
          ∙ ap (λ (store : MemStore). space_named other (files_of store)) called;
      failed_reads = ap (λ (store : MemStore). store.failed_reads) called;
      overlong_reads = ap (λ (store : MemStore). store.overlong_reads) called;
      failed_writes = omega (arith, writes);
      reads = ap (λ (store : MemStore). store.reads.items) called;
      same = ap (λ (store : MemStore). store.same.items) called;
    }
