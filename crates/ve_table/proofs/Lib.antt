-- ---- rows
pub mod Listed
pub mod LiveRows
pub mod Setting
-- ---- ids and their words
pub mod Entries
pub mod Spelling
pub mod Comparing
pub mod Units
pub mod Stepping
pub mod Bounding
-- ---- dead ids
pub mod Deaths
pub mod Killing
pub mod LiveIds
pub mod AllLive
pub mod Dropping
pub mod NothingDead
pub mod Renumbering
pub mod Unmoved
-- ---- levels
pub mod Opening
pub mod Producing
pub mod Merging
pub mod Birthing
pub mod Growing
pub mod Counting
pub mod NextLevel
pub mod Grown
pub mod Copying
-- ---- a table taken apart
pub mod ByLetter
pub mod TakingApart
