pub mod TextTypeParts
