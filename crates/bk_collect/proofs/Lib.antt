mod Taking
mod Views
mod Reading
mod CollectFrames
