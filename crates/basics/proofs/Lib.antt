pub mod Tests
pub mod Lists
pub mod Bytes
pub mod Signed
