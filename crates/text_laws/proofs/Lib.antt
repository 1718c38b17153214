pub mod Pin
pub mod RoundTrip
pub mod Words
