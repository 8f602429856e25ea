-- What debuggers show of a kernel: a table of a configuration and of the stacks of its map.
use Rattle.std.specs.Prelude.{ℕ, ◌+◌, ◌==◌, Bool, not, List, [], ◌∷◌, filter, flat_map, length, map}
use Rattle.sloth_base.specs.declared.config.Config.{Config}
use Rattle.sloth_region.specs.declared.region.Map.{Map}
use Rattle.orti_text.specs.Attributes.{all_kinds, attribute_about, attribute_name, attributes, is_traced, kind_about, kind_word, meaning, object_names}
use Rattle.orti_text.specs.Tables as table
use Rattle.orti_text.specs.Values.{attribute_value}
use Rattle.orti_text.specs.declared.attributes.Attribute.{Attribute}
use Rattle.orti_text.specs.declared.attributes.Kind.{Kind}

abbrev pub declared_attribute : Config → Attribute → table.Attribute
declared_attribute config a = record { traced = is_traced a; meaning = meaning config a; name = attribute_name config a; about = attribute_about a }

abbrev pub declared_kind : Config → Kind → table.Kind
declared_kind config k = record { word = kind_word k; attributes = map (declared_attribute config) (attributes config k); about = kind_about k }

-- the attribute of an object, by the number of the object
abbrev pub named_value : Config → Map → ℕ → Attribute → table.Named
named_value config m n a = record { name = attribute_name config a; value = attribute_value config m a n }

abbrev pub numbered_object : Config → Map → Kind → ℕ → (name : List ℕ) → table.Object
numbered_object config m k n name = record { kind = kind_word k; name = name; values = map (named_value config m n) (attributes config k) }

-- the objects of a kind that have these names, numbered from this number on
abbrev pub numbered_objects : Config → Map → Kind → ℕ → List (List ℕ) → List table.Object
numbered_objects config m k n [] = []
numbered_objects config m k n (name ∷ names) = numbered_object config m k n name ∷ numbered_objects config m k (n + 1) names

abbrev pub objects_of_kind : Config → Map → Kind → List table.Object
objects_of_kind config m k = numbered_objects config m k 0 (object_names config k)

abbrev pub has_object : Config → Kind → Bool
has_object config k = not (length (object_names config k) == 0)

-- the kinds that have an object, in the order of the file
abbrev pub present_kinds : Config → List Kind
present_kinds config = filter (has_object config) all_kinds

abbrev pub orti_table : Config → Map → table.Table
orti_table config m = record { kinds = map (declared_kind config) (present_kinds config); objects = flat_map (objects_of_kind config m) (present_kinds config) }
