pub mod plain
pub mod replies
