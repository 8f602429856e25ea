-- A session: what is written for the messages that come.
use Rattle.std.specs.Prelude.{◌≡◌, ℕ, List, [], ◌∷◌, ◌++◌, length, Option, None, Some, Bool, true, false, if◌then◌else◌}
use Rattle.debug_session.specs.Acknowledging.{Sending, first_sending, sent, without_acks, acknowledged, refused, repeated}
use Rattle.debug_session.specs.Framing.{framed}
use Rattle.debug_session.specs.Messages.{Message, Packet, Wrong, Again, Interrupt}
use Rattle.debug_ways.specs.Runs.{Run}
use Rattle.debug_ways.specs.Points.{with_point, without_point}
use Rattle.debug_session.specs.Replies.{reply}
use Rattle.debug_session.specs.Requests.{packet_request}
use Rattle.debug_ways.specs.Standing.{begun, selected_in, stepped, continued, moved, shown, stepping, with_interrupt, ended, plain_step}
use Rattle.debug_ways.specs.declared.points.Point.{Point}
use Rattle.debug_session.specs.declared.replies.Request.{Request}
use Rattle.debug_session.specs.declared.replies.Request.TheVariants as asks
use Rattle.debug_ways.specs.declared.standing.Standing.{Standing}

-- where a session stands: the count and what is selected, its points, and what was sent
pub record Session : Type 0 where
  pub standing : Standing
  pub points : List Point
  pub sending : Sending

-- one that has begun
abbrev pub first_session : Session
first_session = record { standing = begun; points = []; sending = first_sending }

-- ---- a request

-- where a session stands behind a request
abbrev pub standing_behind : Run → List Point → Standing → Request → Standing
standing_behind run points standing asks.LastStop = selected_in run standing
standing_behind run points standing (asks.Continue backwards) = selected_in run (continued run points backwards standing)
standing_behind run points standing (asks.Step step) = selected_in run (stepped run points step standing)
standing_behind run points standing (asks.PlainStep backwards) = selected_in run (stepped run points (plain_step backwards standing) standing)
standing_behind run points standing (asks.SelectShown thread) = shown thread standing
standing_behind run points standing (asks.SelectStepped thread) = stepping thread standing
standing_behind run points standing (asks.Goto count) = moved run count standing
standing_behind run points standing asks.Detach = ended standing
standing_behind run points standing asks.Kill = ended standing
standing_behind run points standing _ = standing

-- its points behind a request
abbrev pub points_behind : List Point → Request → List Point
points_behind points (asks.SetPoint point) = with_point points point
points_behind points (asks.TakePoint point) = without_point points point
points_behind points _ = points

-- whether packets are acknowledged behind it
abbrev pub sending_behind : Sending → Request → Sending
sending_behind sending asks.NoAcks = without_acks sending
sending_behind sending _ = sending

-- the reply is the packet that was sent last, if there is one
abbrev pub sent_reply : Sending → Option (List ℕ) → Sending
sent_reply sending None = sending
sent_reply sending (Some content) = sent sending content

-- the packet of a reply
abbrev pub reply_packet : Option (List ℕ) → List ℕ
reply_packet None = []
reply_packet (Some content) = framed content

-- the reply to a request
abbrev pub reply_to : Run → List (List ℕ) → Session → Request → Option (List ℕ)
reply_to run names session request =
    reply run names (points_behind session.points request) (standing_behind run session.points session.standing request) request

-- a session behind a request
abbrev pub behind_request : Run → List (List ℕ) → Session → Request → Session
behind_request run names session request = record {
  standing = standing_behind run session.points session.standing request;
  points = points_behind session.points request;
  sending = sent_reply (sending_behind session.sending request) (reply_to run names session request);
}

-- ---- a message

-- a session behind a message
abbrev pub behind_message : Run → List (List ℕ) → Session → Message → Session
behind_message run names session (Packet content) = behind_request run names session (packet_request (length names) content)
behind_message run names session Wrong = session
behind_message run names session Again = session
behind_message run names session Interrupt = record session { standing = with_interrupt session.standing }

-- what is written for a message
abbrev pub answer : Run → List (List ℕ) → Session → Message → List ℕ
answer run names session (Packet content) =
    acknowledged session.sending ++ reply_packet (reply_to run names session (packet_request (length names) content))
answer run names session Wrong = refused session.sending
answer run names session Again = repeated session.sending
answer run names session Interrupt = []

-- what is written for a packet is one packet behind what acknowledges it, or that alone
abbrev pub HasReplies : Session → (there : Bool) → List ℕ → Type 0
HasReplies session true written = (content : List ℕ) × (written ≡ acknowledged session.sending ++ framed content)
HasReplies session false written = written ≡ acknowledged session.sending

-- ---- all of it

-- what is written for messages, one behind the other; once it is over, nothing
abbrev pub answers : Run → List (List ℕ) → Session → List Message → List ℕ
answers run names session [] = []
answers run names session (message ∷ messages) =
    if session.standing.over then []
    else answer run names session message ++ answers run names (behind_message run names session message) messages
