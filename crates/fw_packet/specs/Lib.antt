pub mod Links
pub mod PacketWords
pub mod Packets
