pub mod FormedDefault
