pub mod RightStates
pub mod Laws
