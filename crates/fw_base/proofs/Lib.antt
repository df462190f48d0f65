pub mod FrontRead
pub mod PieceWritten
