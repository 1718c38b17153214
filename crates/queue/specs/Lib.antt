pub mod Lists
pub mod Num
pub mod PriorityQueue
pub mod Table
pub mod Timeshare
