pub mod Encoding
pub mod Fields
pub mod Layouts
pub mod Reading
pub mod Replies
pub mod Requests
