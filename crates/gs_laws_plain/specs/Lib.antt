pub mod calm
pub mod commands
pub mod replies
