-- Laws, each file named after the definition file that it is about; those of one word put into bytes are in WithWord.
pub mod Word
pub mod Bytes
pub mod WithWord
pub mod Wrap
