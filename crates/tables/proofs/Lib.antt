-- How a test that antt computes over a whole table gives what the table holds.
mod Every
mod Read
mod Computed
mod Lists
mod Generated
