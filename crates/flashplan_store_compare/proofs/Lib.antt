mod Asked
mod PlansLeft
mod UnstoppedDies
