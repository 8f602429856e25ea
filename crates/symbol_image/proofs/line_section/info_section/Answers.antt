use Rattle.std.proofs.Common.{◌≡◌, ◌∙◌, ◌++◌, ◌∷◌, [], ℕ, List, ap, length, rules}
use Rattle.std.proofs.lemmas.Result.{IfOk-weaker}
use Rattle.sloth_base.specs.declared.app.Func.{Func}
use Rattle.sloth_base.specs.declared.app.Symbol.{Symbol}
use Rattle.symbol_image.specs.Entries.{all_body_bytes, all_symbol_bytes, info_section}
use Rattle.symbol_image.specs.Fields.{sized}
use Rattle.symbol_image.proofs.Whole.{long_enough, section_made}
use Rattle.symbol_image.proofs.line_section.info_section.Goals as goal

pub behind_length-requires : goal.behind_length-requires
behind_length-requires c =
    let put : c.put_bytes.new.section.items ≡ c.put_bodies.new.info.items ++ 0 ∷ [] = search rules in
    long_enough _ _ _ _ c.in_ok-info.info.items c.put_types.new.info.items c.put_symbols.new.info.items c.put_bodies.new.info.items c.as_slice.result.now
    c.in_ok-info.ensures c.in_ok-types.ensures.put c.in_ok-put_symbols.ensures c.in_ok-put_bodies.ensures (c.as_slice.ensures.value ∙ put)

pub returns : goal.returns
returns c =
    let put : c.put_bytes.new.section.items ≡ c.put_bodies.new.info.items ++ 0 ∷ [] = search rules in
    let symbols = c.in_ok-put_symbols.ensures
    ∙ (ap (λ (a : List ℕ). c.put_types.new.info.items ++ all_symbol_bytes c.in_ok-types.types c.args.lines.now a (length c.put_types.new.info.items) 0
    c.items-symbols.result.now) c.items-at.ensures
    ∙ ap (λ (s : List Symbol). c.put_types.new.info.items ++ all_symbol_bytes c.in_ok-types.types c.args.lines.now c.args.places.now.symbols
    (length c.put_types.new.info.items) 0 s) c.items-symbols.ensures) in
    let bodies = c.in_ok-put_bodies.ensures
    ∙ ap (λ (f : List Func). c.put_symbols.new.info.items ++ all_body_bytes c.in_ok-types.types c.args.places.now c.args.end
    (length c.put_symbols.new.info.items) 0 f) c.items.ensures in
    let made = section_made c.args.source.now c.args.app.now c.args.places.now c.args.end c.args.lines.now c.item_address.result c.item_address.ensures
    c.in_ok-types.types c.in_ok-info.info.items c.put_types.new.info.items c.put_symbols.new.info.items c.put_bodies.new.info.items
    c.as_slice.result.now c.in_ok-info.ensures c.in_ok-types.ensures.word c.in_ok-types.ensures.byte c.in_ok-types.ensures.put symbols bodies
    (c.as_slice.ensures.value ∙ put) in
    IfOk-weaker c.sized.result (λ section. section.items ≡ sized c.behind_length.result.now)
    (λ section. section.items ≡ info_section c.args.source.now c.args.app.now c.args.places.now c.args.end c.args.lines.now)
    (λ section e. e ∙ (ap sized c.behind_length.ensures ∙ made)) c.sized.ensures
