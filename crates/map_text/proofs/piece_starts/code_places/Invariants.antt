use Rattle.std.proofs.Common.{◌≡◌, ◌++◌, map, drop, get_or}
use Rattle.map_text.specs.Rows.{address_behind_code, code_places}
use Rattle.map_text.proofs.piece_starts.code_places.Given as goal

abbrev pub invariant-loop-first : goal.invariant-loop-first
invariant-loop-first l =
    l.places.items ++ map (λ first. get_or l.map.places.items first (address_behind_code l.map)) (drop l.first-index l.map.places.first) ≡ code_places l.map
