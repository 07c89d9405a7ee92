pub mod Trie
pub mod Access
pub mod Write
pub mod Run
