pub mod Planning
pub mod Services
