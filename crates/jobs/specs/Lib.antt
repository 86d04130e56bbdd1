-- A day's definitions: what counts as a job, the figures of what the jobs come to, the report as a whole with its promise, and the steps by which it is
-- reckoned.
pub mod Entries
pub mod Figures
pub mod Report
pub mod Steps
