pub mod Walking
pub mod Numbers
pub mod Reading
pub mod Laws
