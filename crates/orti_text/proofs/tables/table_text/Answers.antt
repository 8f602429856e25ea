use Rattle.std.proofs.Common.{◌≡◌, ◌∙◌, ◌++◌, List, ℕ, ap, map}
use Rattle.std.specs.List.{flat_map}
use Rattle.std.specs.Prelude.{codes}
use Rattle.orti_text.specs.OrtiTable.{declared_kind, objects_of_kind, present_kinds}
use Rattle.orti_text.specs.Tables.{head_text, kind_text, object_text}
use Rattle.orti_text.specs.declared.attributes.Kind.{Kind}
use Rattle.orti_text.proofs.tables.table_text.Goals as goal

pub returns : goal.returns
returns c =
    let config = c.args.config.now in
    let m = c.args.map.now in
    let present = present_kinds config in
    let kinds : List ℕ = flat_map kind_text (map (declared_kind config) present) in
    let one : c.push_kinds.new.text.items ≡ head_text ++ kinds =
    c.in_ok-push_kinds.ensures
    ∙ ap (λ (l : List Kind). c.in_ok-text.text.items ++ flat_map kind_text (map (declared_kind config) l)) (c.as_slice.ensures.value ∙ c.in_ok-kinds.ensures)
    ∙ ap (λ (x : List ℕ). x ++ kinds) c.in_ok-text.ensures in
    let two : c.line.new.text.items ≡ head_text ++ kinds ++ codes "};\n" = c.in_ok-line.ensures ∙ ap (λ (x : List ℕ). x ++ codes "};\n") one in
    c.in_ok-push_objects.ensures
    ∙ ap (λ (l : List Kind). c.line.new.text.items ++ flat_map object_text (flat_map (objects_of_kind config m) l)) (c.as_slice-2.ensures.value ∙ c.in_ok-kinds.ensures)
    ∙ ap (λ (x : List ℕ). x ++ flat_map object_text (flat_map (objects_of_kind config m) present)) two
