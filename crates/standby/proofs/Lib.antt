pub mod Taken
mod Growing
mod Ended
mod Fronts
mod Ahead
mod Parts
mod Going
mod Unopened
mod Framed
mod Adopting
mod Waiting
