pub mod Shown
pub mod Certificates
pub mod Verified
pub mod Explained
