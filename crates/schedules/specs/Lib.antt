pub mod Schedule
pub mod ScheduleReading
pub mod Turns
pub mod Stride
pub mod Mix
pub mod MixReading
