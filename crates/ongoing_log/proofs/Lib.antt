mod Passing
mod Late
pub mod WhatWaits
pub mod GoingOn
mod OngoingAnswers
mod Taken
