pub mod FirstNamed
pub mod Rises
pub mod Shrunk
