-- Answers that are gathered: bytes that fit behind the others, that fit alone, and that do not.
pub mod Gathered
