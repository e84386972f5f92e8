pub mod Ends
pub mod Bytes
pub mod Clean
pub mod Promises
pub mod Puts
pub mod BytesBack
pub mod TurnedRecord
pub mod TurnedPack
