pub mod Load
pub mod Store
pub mod Valid
pub mod Owners
pub mod Calls
pub mod Open
pub mod way
