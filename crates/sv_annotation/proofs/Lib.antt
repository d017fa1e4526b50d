mod Parts
mod Examples
