mod Places
mod Digits
mod Orders
