pub mod BodilessFunctions
