-- Which call a line of a script asks for, by its call name and fields.
pub mod Fields
pub mod Meant
