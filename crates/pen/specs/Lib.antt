pub mod Listed
pub mod Laying
