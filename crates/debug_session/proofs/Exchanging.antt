-- The replies to packets are read back.
use Rattle.std.proofs.Common.{◌≡◌, ℕ, List, [], ◌∷◌, ◌++◌, length, Option, Some, None, Bool, true, false, if◌then◌else◌, refl, ◌∙◌, ap}
use Rattle.debug_session.specs.Acknowledging.{Sending, acknowledged}
use Rattle.debug_session.specs.Framing.{framed, all_framed}
use Rattle.debug_session.specs.Messages.{AllFit, Packet, messages, packets_of}
use Rattle.debug_session.specs.Reading.{fresh}
use Rattle.debug_session.specs.Requests.{packet_request}
use Rattle.debug_session.specs.declared.replies.Request.{Request}
use Rattle.debug_session.specs.declared.replies.Request.TheVariants as asks
use Rattle.debug_session.proofs.RoundTrip.{read_back}
use Rattle.debug_ways.specs.Runs.{Run}
use Rattle.debug_session.specs.Exchanges.{packets_with, with_reply, replies_to}
use Rattle.debug_session.specs.Sessions.{Session, answers, behind_message, reply_to, reply_packet, sending_behind, sent_reply}

-- without acknowledgements it stays so
kept-behind : (sending : Sending) (request : Request) → sending.acks ≡ false → (sending_behind sending request).acks ≡ false
kept-behind sending asks.NoAcks off = refl
kept-behind sending _ off = off

kept-sent : (sending : Sending) (reply : Option (List ℕ)) → sending.acks ≡ false → (sent_reply sending reply).acks ≡ false
kept-sent sending None off = off
kept-sent sending (Some content) off = off

-- what is written for a packet, and behind it
one-reply : (over : Bool) (acks : List ℕ) (reply : Option (List ℕ)) (written : List ℕ) (further : List (List ℕ)) → acks ≡ [] → written ≡ all_framed further
    → (if over then [] else (acks ++ reply_packet reply) ++ written) ≡ all_framed (if over then [] else with_reply reply further)
one-reply true acks reply written further none is = refl
one-reply false acks None written further none is = ap (λ a. (a ++ []) ++ written) none ∙ is
one-reply false acks (Some reply) written further none is = ap (λ a. (a ++ framed reply) ++ written) none ∙ ap (λ w. framed reply ++ w) is

-- the answers are the packets of the replies
framed-replies : (run : Run) (names : List (List ℕ)) (session : Session) (contents : List (List ℕ)) → session.sending.acks ≡ false
    → answers run names session (packets_with contents) ≡ all_framed (replies_to run names session contents)
framed-replies run names session [] off = refl
framed-replies run names session (content ∷ contents) off =
    let request : Request = packet_request (length names) content in
    let reply : Option (List ℕ) = reply_to run names session request in
    let next : Session = behind_message run names session (Packet content) in
    let still : next.sending.acks ≡ false = kept-sent (sending_behind session.sending request) reply (kept-behind session.sending request off) in
    one-reply session.standing.over (acknowledged session.sending) reply (answers run names next (packets_with contents)) (replies_to run names next contents)
    (ap (λ b. if b then 43 ∷ [] else []) off) (framed-replies run names next contents still)

pub replies_read_back : (run : Run) (names : List (List ℕ)) (session : Session) (contents : List (List ℕ)) → session.sending.acks ≡ false
    → AllFit (replies_to run names session contents)
    → messages fresh (answers run names session (packets_with contents)) ≡ packets_of (replies_to run names session contents)
replies_read_back run names session contents off fit =
    ap (messages fresh) (framed-replies run names session contents off) ∙ read_back (replies_to run names session contents) fit
