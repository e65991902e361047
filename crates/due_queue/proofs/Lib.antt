pub mod Orders
pub mod KeyOrders
pub mod Inserted
pub mod Members
pub mod Mapped
pub mod Heaped
pub mod Beyond
