mod Put
mod Good
mod Steps
