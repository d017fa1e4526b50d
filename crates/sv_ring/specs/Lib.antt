pub mod RingSteps
