-- Where pieces begin, part by part.
use Rattle.std.proofs.Common.{◌≡◌, ◌∙◌, ◌-◌, ℕ, List, [], ◌∷◌, ◌++◌, append_assoc, ap, sym}
use Rattle.sloth_base.specs.declared.config.Config.{Config}
use Rattle.sloth_base.specs.MemoryMap.{memory_base, vectors_base, boot_base}
use Rattle.sloth_region.specs.declared.region.Map.{Map}
use Rattle.mem_map.specs.Stacks.{address_behind_data}
use Rattle.map_text.specs.declared.piece_starts.Kind.TheVariants as kind
use Rattle.map_text.specs.declared.piece_starts.Start.{Start}
use Rattle.map_text.specs.Rows.{code_places, first_starts, last_starts, numbered_starts, routine_starts, single_start, starts_of}

-- four lists, joined in two ways
regrouped : (a b c d : List Start) → a ++ (b ++ c ++ d) ≡ a ++ b ++ c ++ d
regrouped a b c d = ap (λ xs. a ++ xs) (append_assoc b c d) ∙ sym (append_assoc a b (c ++ d)) ∙ sym (append_assoc (a ++ b) c d)

-- the three parts, one behind the other
pub starts_joined : (config : Config) (m : Map) (none one two all : List Start) (code : List ℕ) → none ≡ [] → one ≡ none ++ first_starts m
    → two ≡ one ++ routine_starts config m → all ≡ two ++ last_starts code m → code ≡ code_places m → all ≡ starts_of config m
unfolding starts_of
starts_joined config m none one two all code e f g h k =
    let routines = routine_starts config m in
    let functions = numbered_starts kind.Code 0 (code_places m) in
    let symbols = numbered_starts kind.Data 0 m.places.symbols in
    let end = single_start kind.End (address_behind_data m - 4) ∷ [] in
    h
    ∙ ap (λ xs. xs ++ last_starts code m) (g ∙ ap (λ xs. xs ++ routines) (f ∙ ap (λ xs. xs ++ first_starts m) e))
    ∙ ap (λ places. first_starts m ++ routines ++ last_starts places m) k
    ∙ ap (λ xs. single_start kind.Words memory_base ∷ single_start kind.Vectors vectors_base ∷ single_start kind.Boot boot_base ∷ single_start kind.Idle m.idle ∷ xs)
    (regrouped routines functions symbols end)
