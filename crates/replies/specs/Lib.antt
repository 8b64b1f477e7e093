-- What a function gives, held to the rules.
pub mod Gives
-- What a refusal is as a number and as a reply.
pub mod Refused
