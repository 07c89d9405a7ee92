pub mod Book
pub mod Rule
