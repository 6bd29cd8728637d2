-- Records says what a buffer of records shows, Rows what rows more and rows less change; About is of settings alone.
pub mod Records
pub mod Rows
pub mod About
pub mod Places
