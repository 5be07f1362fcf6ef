mod Counted
mod OneAnswer
