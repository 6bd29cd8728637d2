pub mod Names
pub mod KindsMet
