pub mod Admission
pub mod ApartLeaves
