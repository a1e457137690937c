pub mod Turns
pub mod ScheduleWord
pub mod Strides
pub mod MixWord
