mod BegunRuns
mod PendingFrames
mod Rounds
mod Turns
