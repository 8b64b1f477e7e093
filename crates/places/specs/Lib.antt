-- The places of a header's figures; the members of a set below a bound; the changes whose status lies in a range.
pub mod Figures
pub mod Statuses
