pub mod Part
pub mod Window
pub mod Marks
pub mod Buffer
