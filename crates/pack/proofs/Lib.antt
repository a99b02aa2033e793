pub mod Below
pub mod Bytes
pub mod DataPut
pub mod EachNumber
pub mod FreshTrack
pub mod Numbers
pub mod PlainDisk
pub mod PlainReads
