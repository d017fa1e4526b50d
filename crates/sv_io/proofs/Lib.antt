pub mod GivenCalls
