mod Linking
mod Leading
mod Ends
mod Settling
mod Chains
