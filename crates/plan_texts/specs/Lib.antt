pub mod Tables
pub mod PlanText
pub mod Stores
pub mod PlanReading
