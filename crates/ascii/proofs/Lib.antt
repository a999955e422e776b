mod Laws
mod Hex
mod Decimal
mod Lines
mod Bench
