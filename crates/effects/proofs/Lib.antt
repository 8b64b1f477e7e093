-- What is proved of initiate, begin, complete and of a place in line that is left, on a window's bytes.
-- what is known of the arguments of a call that is not refused
pub mod ArgumentLaws
-- each call's effect
pub mod EffectLaws
