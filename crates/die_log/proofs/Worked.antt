-- Worked rows: small logs, and what the definitions make of them, by evaluation.
pub mod Plans
pub mod ReadSeesTheWrite
mod BlankPage
mod FifthWrite
pub mod EarlierDuePreempts
pub mod EqualDeadlines
pub mod TwoJobsOneDue
mod WaivedWithSpare
mod RefusalsInOrder
pub mod FillingHistory
pub mod CollectionCopies
mod EraseSuspended
pub mod RewrittenPage
pub mod TrimmedPage
pub mod TrimmedCopy
mod Certificates
mod LegalCollection
pub mod PlannedWork
pub mod TwoLives
mod PlannedLives
mod DemandedWork
mod NeededCalls
