pub mod EndLine
pub mod Laws
pub mod Output
pub mod Program
pub mod WholeLine
pub mod Witness
