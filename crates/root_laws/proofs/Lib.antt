-- Read first: NextQueues (the queues after one more event), then Putting (the messages that stand in them), NextKnown (what the next event of a run tells and puts), GoesOn (what happens to a root), EndsSaid (what its state says of how activities have ended) and OpenItems (which items are awaited).
pub mod NextQueues
pub mod Putting
pub mod NextKnown
pub mod GoesOn
pub mod EndsSaid
pub mod OpenItems
