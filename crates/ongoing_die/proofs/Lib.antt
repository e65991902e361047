pub mod DieAsks
mod TermsOf
mod Entering
mod OverAllLives
mod NextLives
mod Quiet
mod Asking
mod AskingAhead
mod CarriedSlots
mod BegunSlots
mod Lasting
mod NewDies
mod Rooms
mod AskEnds
mod Lacking
mod Shutting
mod ResumedDies
mod Unrefused
