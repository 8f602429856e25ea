pub mod Answered
pub mod Answering
pub mod Exchanging
pub mod Growing
pub mod MemoryBytes
pub mod Digits
pub mod Escaping
pub mod Parting
pub mod RoundTrip
pub mod PacketStanding
pub mod Giving
mod NoGivenFields
pub mod OneReply
pub mod Transcribed
