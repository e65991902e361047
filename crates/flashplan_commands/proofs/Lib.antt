mod Audits
mod BegunSo
mod CutSo
mod DesignedSo
mod EndedSo
mod FilledDies
mod PlansRead
mod Verdicts
