pub mod Book
pub mod Number
pub mod Uncut
pub mod Writers
