mod Sources
mod Tables
mod Keeping
