-- How many replies there are.
use Rattle.std.proofs.Common.{ℕ, List, ◌++◌, length, Bool, true, false, if◌then◌else◌, Some, None, refl, append-nil}
use Rattle.debug_ways.specs.Runs.{Run}
use Rattle.debug_session.specs.Acknowledging.{acknowledged}
use Rattle.debug_session.specs.Messages.{Packet}
use Rattle.debug_session.specs.Requests.{packet_request}
use Rattle.debug_session.specs.declared.replies.Request.{Request}
use Rattle.debug_session.specs.Replies.{has_reply, reply_text}
use Rattle.debug_session.specs.Sessions.{Session, answer, reply_packet, points_behind, standing_behind, HasReplies}

replies : (session : Session) (there : Bool) (text : List ℕ)
    → HasReplies session there (acknowledged session.sending ++ reply_packet (if there then Some text else None))
replies session true text = (text, refl)
replies session false text = append-nil (acknowledged session.sending)

pub one_reply : (run : Run) (names : List (List ℕ)) (session : Session) (content : List ℕ)
    → HasReplies session (has_reply (packet_request (length names) content)) (answer run names session (Packet content))
one_reply run names session content =
    let request : Request = packet_request (length names) content in
    replies session (has_reply request)
    (reply_text run names (points_behind session.points request) (standing_behind run session.points session.standing request) request)
