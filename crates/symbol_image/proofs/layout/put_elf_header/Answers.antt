use Rattle.std.proofs.Common.{◌≡◌, ◌++◌, ◌∷◌, [], ℕ, List, rules}
use Rattle.std.specs.List.{flat_map}
use Rattle.std.proofs.lemmas.Result.{on_ok_weaker}
use Rattle.elf_image.specs.ElfText.{elf_class, elf_magic}
use Rattle.image_file.specs.Fields.{two_bytes}
use Rattle.symbol_image.specs.Headers.{elf_kind, elf_places}
use Rattle.symbol_image.proofs.Put.{two_put}
use Rattle.symbol_image.proofs.layout.put_elf_header.Goals as goal

pub returns : goal.returns
returns c =
    let old = c.args.file.now.items in
    let a = c.put_bytes.new.section.items in
    let b = c.put_bytes-2.new.section.items in
    let kind = c.put_halves.new.file.items in
    let places = c.put_lengths.new.section.items in
    let new = c.put_halves-2.new.file.items in
    let at = c.args.sections_at in
    let machine : List ℕ = flat_map two_bytes (2 ∷ 243 ∷ []) in
    let halves : List ℕ = flat_map two_bytes (52 ∷ 32 ∷ 3 ∷ 40 ∷ 12 ∷ 11 ∷ []) in
    let first : kind ≡ old ++ elf_kind =
    two_put old a kind elf_magic (elf_class ++ machine) (search rules) (two_put a b kind elf_class machine c.in_ok-put_bytes-2.ensures c.in_ok-put_halves.ensures) in
    on_ok_weaker c.put_halves-2.result
    (λ h. two_put old kind new elf_kind (elf_places at ++ halves) first (two_put kind places new (elf_places at) halves c.in_ok-put_lengths.ensures h))
    c.put_halves-2.ensures
