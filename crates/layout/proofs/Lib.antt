-- What is proved of the bytes of a window. Other crates cite a file X here as Rattle.layout.proofs.X.
-- the starred calls on lent memory
pub mod Cases
-- tables, and sections one after the other: a byte read, a section cut out, a section put in place; sections of records
pub mod SectionLaws
pub mod RecordLaws
pub mod ReadLaws
pub mod PartLaws
pub mod PutLaws
pub mod LentLaws
-- how long the sections of the line, locks, permits, ties and the log are
pub mod LengthLaws
-- decode (encode W) ≡ W of a sound W (SoundCodec.sound_again)
pub mod CodecLaws
pub mod SoundCodec
-- the calls on lent memory, and lists of them: what the rules do, bytes where bytes were, and nothing past the window
pub mod MemoryLaws
pub mod CallLists
pub mod ByteRange
-- demand 3 and what the lines are held to, of the calls on lent memory (Demand.bytes-kept, bytes-queued)
pub mod Demand
