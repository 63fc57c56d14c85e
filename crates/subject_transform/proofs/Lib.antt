mod Destinations
mod Inbound
mod Lawful
mod Parted
mod Prefixes
mod Called
mod Tokens
