pub mod SimpleSites
