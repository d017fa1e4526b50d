mod Merging
mod Cancelling
mod Combining
mod Dividing
mod Heads
mod Walking
