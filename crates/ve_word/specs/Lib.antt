pub mod NameList
