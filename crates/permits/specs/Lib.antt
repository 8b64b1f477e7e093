-- The table of permits, row by row.
pub mod PermitRows
