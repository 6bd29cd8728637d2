-- By rule: Doubling 10 and 15, Closing 11, Testing 15, Alongside and Walking 16. Nowhere serves several.
pub mod Doubling
pub mod Nowhere
pub mod Closing
pub mod Testing
pub mod Alongside
pub mod Walking
