mod Rings
mod Queues
mod Rooms
mod Telling
mod Accounts
mod Slots
mod Noting
