use Rattle.std.proofs.Common.{◌≡◌, ◌∙◌, ℕ, sym, subst}
use Rattle.std.proofs.lemmas.Bool.{true≢false}
use Rattle.elf_image.specs.Faults.{HasLoadHeader}
use Rattle.elf_image.proofs.Frames.{load-is}
use Rattle.elf_image.proofs.reading.read_load_header.Goals as goal

pub returns-then-not-is_header-clause-failed : goal.returns-then-not-is_header-clause-failed
returns-then-not-is_header-clause-failed c =
    rw c.into.ensures (
      c.requires,
      λ m has.
          let same : c.read_u32-size.result ≡ m = load-is c.args.bytes.now c.read_u32-size.result m _ c.read_u32-size.ensures.stands c.read_u32-size.type_inv has in
          let own : HasLoadHeader c.args.bytes.now c.read_u32-size.result = subst (λ (k : ℕ). HasLoadHeader c.args.bytes.now k) (sym same) has in
          true≢false (sym (c.in_ok-is_header.ensures.1 own.header) ∙ c.if-not-is_header.true),
    )

pub returns-then-not-is_memory_size-clause-failed : goal.returns-then-not-is_memory_size-clause-failed
returns-then-not-is_memory_size-clause-failed c =
    rw c.into-then-not-is_memory_size.ensures (
      c.requires,
      λ m has.
          let same : c.read_u32-size.result ≡ m = load-is c.args.bytes.now c.read_u32-size.result m _ c.read_u32-size.ensures.stands c.read_u32-size.type_inv has in
          let own : HasLoadHeader c.args.bytes.now c.read_u32-size.result = subst (λ (k : ℕ). HasLoadHeader c.args.bytes.now k) (sym same) has in
          true≢false (sym (c.is_memory_size.ensures.1 own.memory) ∙ c.if-not-is_memory_size.true),
    )

pub returns-clause-read : goal.returns-clause-read
returns-clause-read c = record {
  elf = c.requires;
  memory = c.is_memory_size.ensures.0 c.if-not-is_memory_size.false;
  header = c.in_ok-is_header.ensures.0 c.if-not-is_header.false;
}
