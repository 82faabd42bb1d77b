-- What is promised of the calls and of the rules, on bytes; proofs/ proves all of it.
pub mod Questions
pub mod Runs
pub mod Promises
pub mod Comparison
pub mod Closed
pub mod Migration
pub mod CommonTypes
pub mod Profile
pub mod Noninterference
pub mod Preview
pub mod Packet
pub mod InForce
pub mod Office
pub mod Exchange
