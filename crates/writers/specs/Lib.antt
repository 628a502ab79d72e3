pub mod Halved
