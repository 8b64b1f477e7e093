-- Laws of the log's section.
-- records read and appended, and their owners replaced
pub mod LogLaws
-- the log closed up when changes have ended, and their records withdrawn
pub mod DropLaws
pub mod WithdrawLaws
-- records handed over
pub mod MoveLaws
