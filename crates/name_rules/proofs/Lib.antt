pub mod SameKinds
