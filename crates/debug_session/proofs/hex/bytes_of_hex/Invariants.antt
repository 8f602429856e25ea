use Rattle.std.proofs.Common.{◌≡◌, ◌*◌, drop, []}
use Rattle.debug_session.specs.Hex.{bytes_behind}
use Rattle.debug_session.proofs.hex.bytes_of_hex.Given as goal

abbrev pub invariant-loop-place : goal.invariant-loop-place
invariant-loop-place l = bytes_behind l.bytes.items (drop (2 * l.place) l.text) ≡ bytes_behind [] l.text
