pub mod SignedMagnitudes
