pub mod Answer
pub mod Call
pub mod Numbers
