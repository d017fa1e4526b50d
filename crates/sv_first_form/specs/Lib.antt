pub mod FormSymbols
pub mod FirstForm
pub mod FormReading
pub mod Numeral
pub mod FormParts
