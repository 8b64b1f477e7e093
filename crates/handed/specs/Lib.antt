-- The draft on which a delegate is judged.
pub mod Draft
