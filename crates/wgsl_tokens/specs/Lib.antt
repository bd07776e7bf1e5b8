pub mod Tokens
pub mod Lexed
pub mod Serving
