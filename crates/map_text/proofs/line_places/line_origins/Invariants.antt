use Rattle.std.proofs.Common.{◌≡◌, ◌++◌, [], drop, map}
use Rattle.text_pieces.specs.Names.{referent}
use Rattle.map_text.specs.LinePlaces.{further_files, line_places, no_place}
use Rattle.map_text.proofs.line_places.line_origins.Given as goal

abbrev pub invariant-loop-n : goal.invariant-loop-n
invariant-loop-n l =
    (l.files.items ++ further_files l.names (map referent (drop l.n l.lines)) ≡ further_files [] (map referent l.lines))
    × (l.places.items ++ line_places l.names l.left (map referent (drop l.n l.lines)) (drop l.n l.statements)
    ≡ line_places [] no_place (map referent l.lines) l.statements)
