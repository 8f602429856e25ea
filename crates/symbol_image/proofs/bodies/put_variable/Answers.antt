use Rattle.std.proofs.Common.{◌≡◌, ◌∙◌, ◌++◌, ◌∷◌, [], sym, ap, rules}
use Rattle.std.proofs.lemmas.List.{append-nil}
use Rattle.std.proofs.lemmas.Result.{on_ok_weaker}
use Rattle.image_file.specs.Fields.{four_bytes}
use Rattle.symbol_image.specs.Entries.{at_address}
use Rattle.symbol_image.specs.EntryBytes.{Location, value_bytes}
use Rattle.symbol_image.specs.Fields.{text_bytes}
use Rattle.symbol_image.proofs.Lengths.{location_put}
use Rattle.symbol_image.proofs.Put.{two_put}
use Rattle.symbol_image.proofs.bodies.put_variable.Goals as goal

pub returns : goal.returns
returns c =
    let old = c.args.info.now.items in
    let a = c.put_bytes.new.section.items in
    let b = c.put_text.new.section.items in
    let d = c.put_bytes-2.new.section.items in
    let e = c.put_u32.new.file.items in
    let f = c.put_length.new.section.items in
    let new = c.put_u32-2.new.file.items in
    let text = text_bytes c.args.symbol.now.name in
    let line = four_bytes c.args.line in
    let kind = four_bytes c.args.kind in
    let place = value_bytes (Location (at_address c.args.at)) in
    let named : b ≡ a ++ text = search rules in
    on_ok_weaker c.put_u32-2.result
    (λ h. two_put old a new (5 ∷ []) (text ++ 1 ∷ (line ++ (kind ++ place))) c.in_ok-put_bytes.ensures
    (two_put a b new text (1 ∷ (line ++ (kind ++ place))) named
    (two_put b d new (1 ∷ []) (line ++ (kind ++ place)) c.in_ok-put_bytes-2.ensures
    (two_put d e new line (kind ++ place) c.in_ok-put_u32.ensures
    (two_put e f new kind place c.in_ok-put_length.ensures
    (h ∙ location_put c.args.at f c.put_bytes-3.new.section.items c.in_ok-put_bytes-3.ensures)))))
    ∙ ap (λ l. old ++ 5 ∷ (text ++ 1 ∷ (line ++ (kind ++ l)))) (sym (append-nil place)))
    c.put_u32-2.ensures
