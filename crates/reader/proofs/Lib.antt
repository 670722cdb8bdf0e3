-- Laws that belong to no one function, and the claims. The proof of a function stands in a folder of its own, under its module's name.
--
-- Trees of checks over parts of a list, parts of a list, and what every promise has.
pub mod Prefixes
pub mod Parts
pub mod Promises
-- The calls by their definitions, and lists of calls.
pub mod Settling
pub mod Draining
pub mod Taking
pub mod Calling
pub mod Views
pub mod Refusals
pub mod Agreeing
pub mod Driving
-- How many bytes are judged.
pub mod RuleCounts
pub mod CallCounts
pub mod Bounds
pub mod CountExamples
-- Where frames began.
pub mod Positions
pub mod CallPositions
-- Good frames behind damage.
pub mod Stretches
pub mod AsciiRecovery
pub mod BinaryRecovery
pub mod CallsRecovery
pub mod RecoveryExamples
pub mod MarkExamples
-- How the code scans, and that what it makes of a scan is the call.
pub mod Scanning
pub mod Skipping
pub mod Runs
pub mod Passing
pub mod Joining
pub mod Counting
pub mod ScanCalls
pub mod JudgedCalls
pub mod Readers
pub mod Following
-- Every claim of specs/ under its name; a crate above this one cites this file alone.
pub mod Theorems
