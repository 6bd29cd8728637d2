-- To read in this order: Lists and Inside (places and scopes), FreshRows and Tallied (what stands in a scope), Steps (one
-- step of an event), Events (an event), Turns and HeldItems (the laws), Meeting (what may come finds its scope).
pub mod Lists
pub mod Inside
pub mod Tallied
pub mod FreshRows
pub mod Steps
pub mod Events
pub mod Turns
pub mod Meeting
pub mod HeldItems
