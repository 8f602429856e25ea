-- Packets and the replies to them.
use Rattle.std.specs.Prelude.{ℕ, List, [], ◌∷◌, length, Option, None, Some, if◌then◌else◌}
use Rattle.debug_session.specs.Messages.{Message, Packet}
use Rattle.debug_session.specs.Requests.{packet_request}
use Rattle.debug_ways.specs.Runs.{Run}
use Rattle.debug_session.specs.Sessions.{Session, behind_message, reply_to}

-- packets in which these stand
abbrev pub packets_with : List (List ℕ) → List Message
packets_with [] = []
packets_with (content ∷ contents) = Packet content ∷ packets_with contents

-- a reply, if there is one, in front of others
abbrev pub with_reply : Option (List ℕ) → List (List ℕ) → List (List ℕ)
with_reply None further = further
with_reply (Some reply) further = reply ∷ further

-- the replies to packets, one behind the other, up to the end of the session
abbrev pub replies_to : Run → List (List ℕ) → Session → List (List ℕ) → List (List ℕ)
replies_to run names session [] = []
replies_to run names session (content ∷ contents) =
    if session.standing.over then []
    else with_reply (reply_to run names session (packet_request (length names) content))
    (replies_to run names (behind_message run names session (Packet content)) contents)
