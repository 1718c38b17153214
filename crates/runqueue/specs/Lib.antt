pub mod RunQueue
