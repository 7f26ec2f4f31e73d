pub mod Beginning
pub mod Given
