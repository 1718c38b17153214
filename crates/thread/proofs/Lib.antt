pub mod Cases
pub mod CasesAgain
pub mod Fields
pub mod FlagBit
pub mod Order
