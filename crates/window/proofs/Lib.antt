-- Demand 3 and the order in line, of lists of calls made through the exported functions, and that there are such lists.
pub mod Contracts
pub mod Demand
pub mod Witness
