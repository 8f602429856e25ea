use Rattle.std.proofs.Common.{◌≡◌, ◌∙◌, ◌++◌, ◌∷◌, sym, ap, append-nil, rules}
use Rattle.std.specs.List.{flat_map}
use Rattle.image_file.specs.Fields.{four_bytes}
use Rattle.symbol_image.specs.Entries.{unit_names, unit_places}
use Rattle.symbol_image.specs.EntryBytes.{value_bytes}
use Rattle.symbol_image.proofs.Put.{two_put}
use Rattle.symbol_image.proofs.Whole.{unit_made}
use Rattle.symbol_image.proofs.line_section.unit.Goals as goal

pub returns : goal.returns
returns c =
    let info = c.in_ok-info.info.items in
    let names = c.put_text-3.new.section.items in
    let places = c.put_u32-3.new.file.items in
    let low = four_bytes c.args.low in
    let high = four_bytes c.args.high in
    let lines = four_bytes 0 in
    let first : names ≡ info ++ 1 ∷ flat_map value_bytes (unit_names c.args.source.now) = search rules in
    let second : places ≡ names ++ flat_map value_bytes (unit_places c.args.low c.args.high) =
    two_put names c.put_u32.new.file.items places low (high ++ lines) c.in_ok-put_u32.ensures
    (two_put c.put_u32.new.file.items c.put_u32-2.new.file.items places high lines c.in_ok-put_u32-2.ensures c.in_ok-put_u32-3.ensures)
    ∙ ap (λ l. names ++ (low ++ (high ++ l))) (sym (append-nil lines)) in
    unit_made c.args.source.now c.args.low c.args.high info names places (search rules) first second
