pub mod Numbers
pub mod Replies
pub mod Requests
pub mod Statuses
