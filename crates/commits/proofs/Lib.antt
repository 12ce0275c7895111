mod LoweredHighs
mod Stored
