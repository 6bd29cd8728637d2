pub mod Replies
pub mod Leaves
