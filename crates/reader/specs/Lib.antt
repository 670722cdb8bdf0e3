-- What the reader crate is about: the line reader. Document 01's "piece" is called chunk here, and its "wants more" needs more.
--
-- First, what must be believed, with the first part of the crate frame: what each public call promises, but for views.
pub mod Reader
-- Second, the claims, which are proved: lists of calls and what holds of them, demand 3 among it.
pub mod Calls
pub mod Claims
pub mod Driving
pub mod Recovery
pub mod Counts
pub mod Positions
-- Third, for those who go on by views, and for the crate listing: a view's promise, what the calls over a chunk give together, and claims on both.
pub mod View
pub mod Views
pub mod Drain
pub mod Draining
-- Fourth, what is proved besides: further claims, and examples.
pub mod Further
pub mod RecoveryExamples
pub mod MarkExamples
pub mod CountExamples
pub mod PositionExamples
-- Fifth, what only functions behind the public calls cite: nobody has to believe it.
pub mod Scan
pub mod Answer
pub mod Feeding
