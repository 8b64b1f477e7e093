-- The bytes of a window, the calls on lent memory, the constants of the code, and words of inner contracts.
pub mod Codec
pub mod Memory
pub mod Figures
pub mod Records
