mod Zeros
mod Made
mod Reading
mod Words
