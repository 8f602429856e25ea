-- Texts have one file at most.
use Rattle.std.proofs.Common.{◌≡◌, ◌∙◌, ℕ, ◌+◌, List, [], ◌∷◌, ◌++◌, drop, get_or, map, refl, ap, sym, subst}
use Rattle.sloth_base.specs.declared.app.App.{App}
use Rattle.sloth_base.specs.declared.config.Config.{Config}
use Rattle.sloth_base.specs.declared.limits.Bounds.{Bounds}
use Rattle.sloth_region.specs.declared.region.Extent.{Extent}
use Rattle.sloth_region.specs.declared.region.Map.{Map}
use Rattle.std.specs.List.{flat_map}
use Rattle.stack_bounds.specs.Bounds.{AreBounds}
use Rattle.mem_map.specs.Planned.{IsPlanned}
use Rattle.mem_map.proofs.OnePlan.{one_plan}
use Rattle.sloth_source.proofs.Unique.{one_meaning}
use Rattle.map_text.proofs.OneText.{same_bounds}
use Rattle.mem_map.specs.StackParts.{no_extent}
use Rattle.orti_text.specs.Attributes.{attribute_name, attributes, kind_word, object_names}
use Rattle.orti_text.specs.Formulas.{Number, Hex}
use Rattle.orti_text.specs.OrtiTable.{declared_kind, named_value, numbered_object, numbered_objects, objects_of_kind, orti_table, present_kinds}
use Rattle.orti_text.specs.OrtiText.{OneText}
use Rattle.orti_text.specs.Tables.{Expression, table_text}
use Rattle.orti_text.specs.Values.{attribute_value}
use Rattle.orti_text.specs.declared.attributes.Attribute.{Attribute}
use Rattle.orti_text.specs.declared.attributes.Attribute.TheVariants as attribute
use Rattle.orti_text.specs.declared.attributes.Kind.{Kind}

-- ---- the table of maps whose extents are the same

module _ (config : Config) (m n : Map) (e : m.extents ≡ n.extents) where
  same_value : (a : Attribute) (k : ℕ) → attribute_value config m a k ≡ attribute_value config n a k
  same_value attribute.Size k = ap (λ (l : List Extent). Expression (Number (get_or (drop 3 l) k no_extent).len)) e
  same_value attribute.BaseAddress k = ap (λ (l : List Extent). Expression (Hex (get_or (drop 3 l) k no_extent).base)) e
  same_value other k = refl

  same_values : (k : ℕ) (list : List Attribute) → map (named_value config m k) list ≡ map (named_value config n k) list
  same_values k [] = refl
  same_values k (a ∷ list) =
      ap (λ v. record { name = attribute_name config a; value = v } ∷ map (named_value config m k) list) (same_value a k)
      ∙ ap (λ l. named_value config n k a ∷ l) (same_values k list)

  same_objects : (kind : Kind) (k : ℕ) (names : List (List ℕ)) → numbered_objects config m kind k names ≡ numbered_objects config n kind k names
  same_objects kind k [] = refl
  same_objects kind k (name ∷ names) =
      ap (λ v. record { kind = kind_word kind; name = name; values = v } ∷ numbered_objects config m kind (k + 1) names) (same_values k (attributes config kind))
      ∙ ap (λ l. numbered_object config n kind k name ∷ l) (same_objects kind (k + 1) names)

  same_kinds : (kinds : List Kind) → flat_map (objects_of_kind config m) kinds ≡ flat_map (objects_of_kind config n) kinds
  same_kinds [] = refl
  same_kinds (kind ∷ kinds) =
      ap (λ l. l ++ flat_map (objects_of_kind config m) kinds) (same_objects kind 0 (object_names config kind))
      ∙ ap (λ l. objects_of_kind config n kind ++ l) (same_kinds kinds)

  same_table : table_text (orti_table config m) ≡ table_text (orti_table config n)
  same_table = ap (λ l. table_text (record { kinds = map (declared_kind config) (present_kinds config); objects = l })) (same_kinds (present_kinds config))

pub one_text : OneText
one_text oil src one two h k =
    let same = one_meaning oil src h.config k.config h.app k.app h.accepted k.accepted in
    let B : Config → Type 0 = λ c. AreBounds c h.app h.bounds in
    let C : App → Type 0 = λ x. AreBounds k.config x h.bounds in
    let P : Config → Type 0 = λ c. IsPlanned c h.app h.bounds h.has_table.plan in
    let Q : App → Type 0 = λ x. IsPlanned k.config x h.bounds h.has_table.plan in
    let R : Bounds → Type 0 = λ x. IsPlanned k.config k.app x h.has_table.plan in
    let bounds = same_bounds k.config k.app h.bounds k.bounds k.well_formed (subst C same.1 (subst B same.0 h.are_bounds)) k.are_bounds in
    let planned = subst R bounds (subst Q same.1 (subst P same.0 h.has_table.planned)) in
    let alike = one_plan k.config k.app k.well_formed.in_range k.bounds h.has_table.plan k.has_table.plan planned k.has_table.planned in
    h.has_table.is ∙ ap (λ c. table_text (orti_table c h.has_table.plan)) same.0 ∙ same_table k.config h.has_table.plan k.has_table.plan alike.extents ∙ sym k.has_table.is
