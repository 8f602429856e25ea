-- The line of a label in task source.
use Rattle.std.specs.Prelude.{ℕ, ◌==◌, ◌++◌, Bool, if◌then◌else◌, List, [], map, length, drop, get_or, codes}
use Rattle.std.specs.List.{flat_map}
use Rattle.sloth_base.specs.ConfigRange.{resource_name}
use Rattle.sloth_base.specs.declared.config.Config.{Config}
use Rattle.text_pieces.specs.Lines.{line_of}

-- the names of these resources
abbrev pub resource_names : Config → List ℕ → List (List ℕ)
resource_names config held = map (resource_name config) held

-- `label NAME`, and `, R` for each resource
abbrev pub label_text : List ℕ → List (List ℕ) → List ℕ
label_text name resources = codes "label " ++ (name ++ flat_map (λ resource. codes ", " ++ resource) resources)

-- the CR before the LF of a line that has one
abbrev pub line_end : Bool → List ℕ → List ℕ
line_end is_last part = drop (length (line_of is_last part)) part
