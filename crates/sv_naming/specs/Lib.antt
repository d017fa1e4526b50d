pub mod NamesKnown
