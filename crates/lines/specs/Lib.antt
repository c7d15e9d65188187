pub mod Decimal
pub mod Digits
pub mod Tokens
