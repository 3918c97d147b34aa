mod Newest
mod Read
mod Start
mod Linked
mod Facts
